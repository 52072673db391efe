-- The table at a holder's place gets a resource, or gives it back.
use Rattle.std.proofs.Common.{◌≡◌, ℕ, ◌<◌, Bool, List, [], ◌∷◌, ◌++◌, length, map, get_or, slice_get, slice_set, refl, sym, ◌∙◌, ap, subst, Some, Result, Ok, Err}
use Rattle.std.specs.Prelude.{OnErr}
use Rattle.std.proofs.lemmas.Option.{get_or_from_slice_get, slice_get_read}
use Rattle.indexmap.specs.IndexSet.{remove_key}
use Rattle.wat_list.specs.Has.{Has, HasSame, IsOnce}
use Rattle.wat_list.proofs.Members.{has_map, map_has, has_flat_map}
use Rattle.wat_locks.specs.declared.lock.Resource.{Resource}
use Rattle.wat_locks.specs.declared.held.Held.{Held}
use Rattle.wat_locks.specs.declared.table.Holder.{Holder}
use Rattle.wat_locks.specs.declared.table.Table.{Table}
use Rattle.wat_locks.specs.Order.{resource_eq}
use Rattle.wat_locks.specs.Held.{Frees}
use Rattle.wat_locks.specs.Tables.{held_by, held_in, all_held, holders, AreTables, IsAt, Puts, PutsResource}
use Rattle.wat_locks.proofs.UpdateLemmas.{has_at, flat_map_set}
use Rattle.wat_locks.proofs.PutLemmas.{same_holder, stands_here, holders_stay, put_there, taken_there}

-- who holds a lock has a table
pub holder_there : (ts : List Table) (by : Holder) (r : Resource) → Has (held_by by r) (all_held ts) → Has by (holders ts)
holder_there ts by r h =
    let of = has_flat_map held_in (held_by by r) ts h in
    let made = has_map (held_by of.0.by) (held_by by r) of.0.resources.keys of.2 in
    subst (λ (x : Holder). Has x (holders ts)) (same_holder of.0.by by made.0 r made.2) (map_has (λ (t : Table). t.by) of.0 ts of.1)

pub last_at : {A : Type 0} (xs : List A) (x : A) (n : ℕ) → n ≡ length xs → slice_get (xs ++ x ∷ []) n ≡ Some x
last_at {A} xs x n e = subst (λ (k : ℕ). slice_get (xs ++ x ∷ []) k ≡ Some x) (sym e) (at xs)
  where
    at : (ys : List A) → slice_get (ys ++ x ∷ []) (length ys) ≡ Some x
    at [] = refl
    at (y ∷ ys) = at ys

pub on_err : {A E P : Type 0} (r : Result A E) → P → OnErr r P
on_err (Ok x) p = tt
on_err (Err e) p = p

-- what stands at one place is one
pub same_read : {A : Type 0} (xs : List A) (i : ℕ) (x y : A) → i < length xs → x ≡ get_or xs i x → y ≡ get_or xs i y → x ≡ y
same_read xs i x y within a b =
    let same : Some x ≡ Some y = sym (slice_get_read xs (length xs) i x refl within a) ∙ slice_get_read xs (length xs) i y refl within b in cc

same_items : (old new : List Held) → new ≡ old → HasSame new old
same_items old new e h = (λ r. subst (λ (hs : List Held). Has h hs) e r, λ r. subst (λ (hs : List Held). Has h hs) (sym e) r)

module _ (ts : List Table) (i : ℕ) (by : Holder) (r : Resource) (e : Held) (are : AreTables ts) (at : IsAt ts i by) (is : held_by by r ≡ e) (t : Table) (t_is : t ≡ get_or ts i t) where
  the_table : t ≡ at.0
  the_table = t_is ∙ get_or_from_slice_get ts i at.0 t at.1

  here : slice_get ts i ≡ Some t
  here = at.1 ∙ ap Some (sym the_table)

  entry_is : held_by t.by r ≡ e
  entry_is = ap (λ (x : Table). held_by x.by r) the_table ∙ (ap (λ (b : Holder). held_by b r) at.2 ∙ is)

  pub puts_in : (u : Table) → u.by ≡ t.by → (fresh : Bool) → PutsResource t u r fresh → Puts (all_held ts) (all_held (slice_set ts i u)) e fresh × AreTables (slice_set ts i u)
  puts_in u by_is fresh puts =
      let both = put_there ts i t u r are here by_is fresh puts in
      (subst (λ (h : Held). Puts (all_held ts) (all_held (slice_set ts i u)) h fresh) entry_is both.0, both.1)

  pub takes_out : (u : Table) → u.by ≡ t.by → Has e (all_held ts) → u.resources.keys ≡ remove_key (resource_eq r) t.resources.keys
      → Frees (all_held ts) (all_held (slice_set ts i u)) (λ h. h ≡ e) × AreTables (slice_set ts i u)
  takes_out u by_is there keys =
      let inside : Has r t.resources.keys = stands_here ts t r are.0 (has_at ts i t here) (subst (λ (h : Held). Has h (all_held ts)) (sym entry_is) there) in
      let both = taken_there ts i t u r are here by_is inside keys in
      (subst (λ (x : Held). Frees (all_held ts) (all_held (slice_set ts i u)) (λ h. h ≡ x)) entry_is both.0, both.1)

  -- nothing was put there
  pub stays_so : (u : Table) → u.by ≡ t.by → u.resources.keys ≡ t.resources.keys → HasSame (all_held (slice_set ts i u)) (all_held ts) × AreTables (slice_set ts i u)
  stays_so u by_is keys =
      let same : held_in u ≡ held_in t = λ j. map (held_by (by_is j)) (keys j) in
      let all : all_held (slice_set ts i u) ≡ all_held ts = flat_map_set held_in t u ts i here same in
      (same_items (all_held ts) (all_held (slice_set ts i u)) all, (holders_stay ts i t u r are here by_is, subst (λ (hs : List Held). IsOnce hs) (sym all) are.1))
