-- The least page with room, and that there is none.
use Rattle.std.proofs.Common.{◌≡◌, ◌≢◌, ◌⊎◌, inl, inr, ⊎_elim, ℕ, ◌+◌, ◌-◌, ◌<◌, ◌≤◌, Option, Some, None, refl, sym, ap, subst, ◌∙◌, arith}
use Rattle.std.proofs.lemmas.Bool.{cases_order}
use Rattle.wat_room.specs.Rooms.{room_in, IsLeastWith}
use Rattle.wat_rows.specs.Pages.{Layout, PlaceMap}
use Rattle.wat_directory.specs.declared.row_page.RowPage.{RowPage}
use Rattle.wat_directory.specs.declared.directory.Directory.{Directory}
use Rattle.wat_directory.specs.Known.{page_at, room_at, room_left, Knows, IsLeastRoom, IsRoomy, NoRoom}

module _ (d : Directory) (on : Layout) (place : PlaceMap) (k : Knows d on place) (size : ℕ) where
  full : (page : ℕ) (entry : RowPage) → page_at d page ≡ Some entry → room_at d page < size → 4080 < entry.used + size
  full page entry is less =
      let left : room_at d page ≡ 4080 - entry.used = k.rooms page ∙ ap room_left is in
      omega (arith, left, less)

  pub no_room : ((page : ℕ) → room_at d page < size) → NoRoom d size
  no_room less page entry is = full page entry is (less page)

  pub least_is : (page : ℕ) → 0 < size → IsLeastWith d.rooms size page → IsLeastRoom d size page
  least_is page some least = by (page_at d page) refl
    where
      by : (o : Option RowPage) → page_at d page ≡ o → IsLeastRoom d size page
      by None is =
          let left : room_at d page ≡ 0 = k.rooms page ∙ ap room_left is in
          absurd (omega (arith, left, some, least.room))
      by (Some entry) is =
          let left : room_at d page ≡ 4080 - entry.used = k.rooms page ∙ ap room_left is in
          record { entry = entry; is = is; room = omega (arith, left, some, least.room); least = λ other its less known. full other its known (least.least other less) }

pub roomy_of : (d : Directory) (size page : ℕ) → IsLeastRoom d size page → IsRoomy d page size
roomy_of d size page least = record { entry = least.entry; is = least.is; room = least.room }

pub one_least : (d : Directory) (size a b : ℕ) → IsLeastRoom d size a → IsLeastRoom d size b → a ≡ b
one_least d size a b x y = elim (cases_order a b) [
  | inl same ↦ same
  | inr order ↦ elim order [
    | inl less ↦ absurd (omega (arith, y.least a x.entry less x.is, x.room))
    | inr more ↦ absurd (omega (arith, x.least b y.entry more y.is, y.room))
  ]
]

pub not_both : (d : Directory) (size page : ℕ) → NoRoom d size → IsLeastRoom d size page → ⊥
not_both d size page none least = omega (arith, none page least.entry least.is, least.room)
