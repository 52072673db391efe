-- A store of parts, with a checkpoint or without.
use Rattle.std.proofs.Common.{◌≡◌, ℕ, zero, suc, ◌<◌, ◌||◌, not, Bool, true, false, List, [], ◌∷◌, length, refl, sym, ◌∙◌, ap, subst, arith}
use Rattle.wat_disk.specs.Disk.{Told}
use Rattle.wat_disk.specs.declared.disk.Disk.{Ghosts}
use Rattle.wat_gate.specs.Bodies.{bodies}
use Rattle.wat_pages.specs.declared.pages.Pages.{Pages}
use Rattle.wat_pages.specs.Pages.{limit_of, header_of, image_frames_of, IsPagesOf}
use Rattle.wat_schema.specs.Tables.{Tables}
use Rattle.wat_log.specs.declared.record_log.Log.{Log}
use Rattle.wat_replay.specs.State.{State}
use Rattle.wat_objects.specs.declared.objects.Objects.{Objects}
use Rattle.wat_objects.specs.Objects.{pages_of}
use Rattle.wat_store.specs.declared.store.Store.{Store}
use Rattle.wat_store.specs.Parts.{IsStore, StopsAt}
use Rattle.wat_store.specs.Saving.{CountsLog}
use Rattle.wat_store.specs.Store.{disk_of, told_of, objects_of, limit_in, CountsAll}
use Rattle.wat_store.proofs.Ending.{stops_still}

module _ {D : Type 0} {g : Ghosts D} (store : Store D g) (disk : D) (objects : Objects) (disk_is : disk_of store ≡ disk) (objects_is : objects_of store ≡ objects) where
  over : (P : D → Objects → Type 0) → P disk objects → P (disk_of store) (objects_of store)
  over P p = subst (λ (q : D × Objects). P q.0 q.1) (λ i. (sym disk_is i, sym objects_is i)) p

  pub counts_there : CountsLog (g.told disk) (header_of (pages_of objects)) → CountsAll store
  counts_there counts = over (λ d o. CountsLog (g.told d) (header_of (pages_of o))) counts

  pub none_there : bodies ((g.told disk).content 1) ≡ [] → bodies ((told_of store).content 1) ≡ []
  none_there none = over (λ d o. bodies ((g.told d).content 1) ≡ []) none

  pub limit_there : limit_in store ≡ limit_of (pages_of objects)
  limit_there = ap (λ (o : Objects). limit_of (pages_of o)) objects_is

  pub stops_here : (log : Log) (s : State) (t : Tables) → IsStore (g.told disk) objects log s t → StopsAt (g.told disk) (told_of store) objects t t
  stops_here log s t is = over (λ d o. StopsAt (g.told disk) (g.told d) objects t t) (stops_still (g.told disk) objects log s t t is)

  -- a step of the store is one of its parts
  pub stops_there : (new : Told) (t : Tables) → StopsAt (told_of store) new (objects_of store) t t → StopsAt (g.told disk) new objects t t
  stops_there new t is = subst (λ (q : D × Objects). StopsAt (g.told q.0) new q.1 t t) (λ i. (disk_is i, objects_is i)) is

-- ---- no images

zero_of : (n : ℕ) → (0 < n → ⊥) → n ≡ 0
zero_of zero none = refl
zero_of (suc n) none = absurd (none (omega arith))

pub no_items : {X : Type 0} (xs : List X) → length xs ≡ 0 → xs ≡ []
no_items [] none = refl
no_items (x ∷ xs) none = absurd (omega (arith, none))

pub no_images : (told : Told) (pages : Pages) → IsPagesOf told pages → (0 < image_frames_of pages → ⊥) → bodies (told.content 1) ≡ []
no_images told pages is none =
    let many : length (bodies (told.content 1)) ≡ image_frames_of pages = ap (λ (n : ℕ). length (bodies (told.content n))) (sym pages.before_file) ∙ sym is.log.frames in
    no_items (bodies (told.content 1)) (many ∙ zero_of (image_frames_of pages) none)

pub neither : (a b : Bool) → (a || b) ≡ false → (not a ≡ true) × (b ≡ false)
neither true b h = absurd (let bad : true ≡ false = h in cc)
neither false b h = (refl, h)
