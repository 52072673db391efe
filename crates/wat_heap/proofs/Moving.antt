-- A row that has no room on its page goes, and comes anew.
use Rattle.std.proofs.Common.{◌≡◌, ◌≢◌, ◌↔◌, ◌⊎◌, inl, inr, ℕ, ◌+◌, ◌<◌, ◌≤◌, ◌==◌, ◌&&◌, Bool, true, false, if◌then◌else◌, List, Option, Some, None, refl, sym, ap, ap₂, subst, ◌∙◌, arith}
use Rattle.std.proofs.lemmas.Bool.{cases_Bool, eqb-true, eq-eqb, ne_eqb}
use Rattle.wat_value.specs.Order.{key_eq}
use Rattle.wat_book.specs.Book.{Book, Owners, nobody, Section, section, IsOwned, Works, Worked, SameBook}
use Rattle.wat_book.proofs.Working.{works_on, same_works}
use Rattle.wat_rows.specs.Rows.{Row, RowMap, Defs, Sets}
use Rattle.wat_rows.proofs.Lists.{is_named}
use Rattle.wat_rows.proofs.Stepping.{no_row}
use Rattle.wat_rows.specs.Pages.{is_at, of_rows}
use Rattle.wat_directory.specs.declared.row_page.RowPage.{RowPage}
use Rattle.wat_directory.specs.declared.directory.Directory.{Directory}
use Rattle.wat_directory.specs.Known.{Holds, HasOwnRoom, IsChosen, IsLeastRoom, LessUsed, NoRoom, NoRoomFor, own_on, own_size, page_at, place_at}
use Rattle.wat_heap.specs.Heaps.{IsHeld}

-- ---- work after work

pub then_worked : (old mid new : Book) (owners : Owners) (Q P : Section → Type 0) (one : Worked of_rows old owners mid Q) → Worked of_rows mid one.next new P → Worked of_rows old owners new P
then_worked old mid new owners Q P one more =
    record { next = more.next; free = more.free; owned = more.owned; works = works_on of_rows old mid new owners one.next more.next (λ e. omega (arith, e)) one.works more.works; holds = more.holds }

pub same_then_worked : (old same new : Book) (owners : Owners) (P : Section → Type 0) → SameBook old same → Worked of_rows same owners new P → Worked of_rows old owners new P
same_then_worked old same new owners P is one =
    record { next = one.next; free = one.free; owned = one.owned; works = works_on of_rows old same new owners owners one.next (λ e. omega (arith, e)) (same_works of_rows old same owners is) one.works; holds = one.holds }

-- where a row stands nowhere, nothing changes as it goes
pub nothing_gone : (d : Directory) (old : Book) (owners : Owners) (free : List ℕ) (defs : Defs) (rows after : RowMap) (h : IsHeld d old owners free defs rows) (table : ℕ) (key : Row) → h.holds.place table key ≡ None
    → Sets rows table key None after → Worked of_rows old owners old (λ mine. Holds d mine defs after)
nothing_gone d old owners free defs rows after h table key none sets = record {
  next = owners;
  free = free;
  owned = h.owned;
  works = same_works of_rows old old owners (record { pages = λ page below. refl; count = refl; first = refl });
  holds = record {
    on = h.holds.on;
    place = h.holds.place;
    stand = h.holds.stand;
    named = record { allowed = h.holds.named.allowed; once = h.holds.named.once; found = λ t k. same t k ∙ h.holds.named.found t k };
    knows = h.holds.knows;
  };
}
  where
    same : (t : ℕ) (k : Row) → after t k ≡ rows t k
    same t k = sets t k ∙ elim (cases_Bool ((table == t) && key_eq key k)) [
      | inl is ↦
          let n = is_named t k (record { table = table; key = key }) is in
          ap (λ b. if b then None else rows t k) is ∙ sym (ap₂ rows (sym n.0) (sym n.1) ∙ no_row defs h.holds.on h.holds.place rows h.holds.named table key none)
      | inr far ↦ ap (λ b. if b then None else rows t k) far
    ]

-- ---- the rows between

abbrev pub without : RowMap → ℕ → Row → RowMap
without rows table key t k = if (table == t) && key_eq key k then None else rows t k

pub sets_again : (rows after : RowMap) (table : ℕ) (key row : Row) → Sets rows table key (Some row) after → Sets (without rows table key) table key (Some row) after
sets_again rows after table key row sets t k = sets t k ∙ elim (cases_Bool ((table == t) && key_eq key k)) [
  | inl same ↦ ap (λ b. if b then Some row else rows t k) same ∙ sym (ap (λ b. if b then Some row else without rows table key t k) same)
  | inr far ↦
      ap (λ b. if b then Some row else rows t k) far ∙ sym (ap (λ b. if b then None else rows t k) far) ∙ sym (ap (λ b. if b then Some row else without rows table key t k) far)
]

-- ---- the room between

module _ (d mid : Directory) (rows : RowMap) (table : ℕ) (key : Row) (page own size : ℕ) (less : LessUsed page own d mid) (place : place_at d table key ≡ Some page) (own_is : own_size table (rows table key) ≡ own) where
  own_here : own_on d rows table key page ≡ own
  own_here = ap (λ o. if is_at page o then own_size table (rows table key) else 0) place ∙ ap (λ b. if b then own_size table (rows table key) else 0) (eq-eqb page page refl) ∙ own_is

  own_there : (other : ℕ) → other ≢ page → own_on d rows table key other ≡ 0
  own_there other far = ap (λ o. if is_at other o then own_size table (rows table key) else 0) place ∙ ap (λ b. if b then own_size table (rows table key) else 0) (ne_eqb page other (λ e. far (sym e)))

  some_same : (a b : RowPage) → Some a ≡ Some b → a ≡ b
  some_same a b e = cc

  apart_by : (other : ℕ) → (page == other) ≡ false → other ≢ page
  apart_by other far e = let no : true ≡ false = sym (eq-eqb page other (sym e)) ∙ far in cc

  pub none_for : NoRoom mid size → NoRoomFor d rows table key size
  none_for none other entry is = elim (cases_Bool (page == other)) [
    | inl here ↦
        let e = eqb-true page other here in
        let it : entry ≡ less.before = some_same entry less.before (sym is ∙ ap (page_at d) (sym e) ∙ less.was) in
        omega (arith, none page less.after less.is, less.less, ap (λ (x : RowPage). x.used) it, ap (own_on d rows table key) (sym e) ∙ own_here)
    | inr far ↦ omega (arith, none other entry (less.others other (apart_by other far) ∙ is), own_there other (apart_by other far))
  ]

  pub none_mid : NoRoomFor d rows table key size → NoRoom mid size
  none_mid none other entry is = elim (cases_Bool (page == other)) [
    | inl here ↦
        let e = eqb-true page other here in
        let it : entry ≡ less.after = some_same entry less.after (sym is ∙ ap (page_at mid) (sym e) ∙ less.is) in
        omega (arith, none page less.before less.was, less.less, ap (λ (x : RowPage). x.used) it, own_here)
    | inr far ↦ omega (arith, none other entry (sym (less.others other (apart_by other far)) ∙ is), own_there other (apart_by other far))
  ]

  over : (n : ℕ) → ((n ≤ 4080) → ⊥) → 4080 < n
  over n isnt = grind (arith, isnt)

  -- where its own page has no room, it has none without its old cell
  full_after : (HasOwnRoom d rows table key size page → ⊥) → 4080 < less.after.used + size
  full_after none = over (less.after.used + size) (λ fits. none (record { place = place; room = λ entry is. room entry is fits }))
    where
      room : (entry : RowPage) → page_at d page ≡ Some entry → less.after.used + size ≤ 4080 → entry.used + size ≤ 4080 + own_on d rows table key page
      room entry is fits =
          let it : entry ≡ less.before = some_same entry less.before (sym is ∙ less.was) in
          omega (arith, fits, less.less, ap (λ (x : RowPage). x.used) it, own_here)

  pub least_mid : (at : ℕ) → (HasOwnRoom d rows table key size page → ⊥) → IsLeastRoom d size at → IsLeastRoom mid size at
  least_mid at none l = record {
    entry = l.entry;
    is = less.others at elsewhere ∙ l.is;
    room = l.room;
    least = λ other its below known. elim (cases_Bool (page == other)) [
      | inl here ↦
          let e = eqb-true page other here in
          let it : its ≡ less.after = some_same its less.after (sym known ∙ ap (page_at mid) (sym e) ∙ less.is) in
          omega (arith, full_after none, ap (λ (x : RowPage). x.used) it)
      | inr far ↦ l.least other its below (sym (less.others other (apart_by other far)) ∙ known)
    ];
  }
    where
      elsewhere : at ≢ page
      elsewhere e =
          let it : l.entry ≡ less.before = some_same l.entry less.before (sym l.is ∙ ap (page_at d) e ∙ less.was) in
          omega (arith, full_after none, less.less, l.room, ap (λ (x : RowPage). x.used) it)

-- ---- its own page

module _ (d : Directory) (rows : RowMap) (table : ℕ) (key : Row) (page own size : ℕ) (place : place_at d table key ≡ Some page) (own_is : own_size table (rows table key) ≡ own) where
  own_there_is : own_on d rows table key page ≡ own
  own_there_is = ap (λ o. if is_at page o then own_size table (rows table key) else 0) place ∙ ap (λ b. if b then own_size table (rows table key) else 0) (eq-eqb page page refl) ∙ own_is

  -- whether the row is put in the place of the old one, and whether its own page has room for it
  abbrev pub Replaces : Bool → Type 0
  Replaces done = (done ≡ true) ↔ ((entry : RowPage) → page_at d page ≡ Some entry → entry.used + size ≤ 4080 + own)

  pub has_own : (done : Bool) → Replaces done → done ≡ true → HasOwnRoom d rows table key size page
  has_own done replaces done_is = record { place = place; room = λ entry is. omega (arith, replaces.0 done_is entry is, own_there_is) }

  pub not_own : (done : Bool) → Replaces done → done ≡ false → HasOwnRoom d rows table key size page → ⊥
  not_own done replaces isnt has =
      let it_is : done ≡ true = replaces.1 (λ entry is. omega (arith, has.room entry is, own_there_is)) in
      let no : true ≡ false = sym it_is ∙ isnt in cc

  same_page : (a b : ℕ) → Some a ≡ Some b → a ≡ b
  same_page a b e = cc

  pub chosen_own : (p : ℕ) → HasOwnRoom d rows table key size page → IsChosen d rows table key size p → p ≡ page
  chosen_own p own (inl has) = same_page p page (sym has.place ∙ place)
  chosen_own p own (inr both) = absurd (both.0 page own)

  pub chosen_least : (p : ℕ) → (HasOwnRoom d rows table key size page → ⊥) → IsChosen d rows table key size p → IsLeastRoom d size p
  chosen_least p none (inl has) = absurd (none (subst (HasOwnRoom d rows table key size) (same_page p page (sym has.place ∙ place)) has))
  chosen_least p none (inr both) = both.1

  pub needed_not : (entry : RowPage) → page_at d page ≡ Some entry → HasOwnRoom d rows table key size page → NoRoomFor d rows table key size → ⊥
  needed_not entry is has none = omega (arith, has.room entry is, none page entry is)

pub chosen_new : (d : Directory) (rows : RowMap) (table : ℕ) (key : Row) (size p : ℕ) → place_at d table key ≡ None → IsChosen d rows table key size p → IsLeastRoom d size p
chosen_new d rows table key size p nowhere (inl has) = absurd (let no : None ≡ Some p = sym nowhere ∙ has.place in cc)
chosen_new d rows table key size p nowhere (inr both) = both.1

-- where the row stands nowhere, no cell of its own is counted
pub none_new : (d : Directory) (rows : RowMap) (table : ℕ) (key : Row) (size : ℕ) → place_at d table key ≡ None → NoRoom d size → NoRoomFor d rows table key size
none_new d rows table key size place none other entry is =
    omega (arith, none other entry is, ap (λ o. if is_at other o then own_size table (rows table key) else 0) place)

pub new_none : (d : Directory) (rows : RowMap) (table : ℕ) (key : Row) (size : ℕ) → place_at d table key ≡ None → NoRoomFor d rows table key size → NoRoom d size
new_none d rows table key size place none other entry is =
    omega (arith, none other entry is, ap (λ o. if is_at other o then own_size table (rows table key) else 0) place)
