-- Tables that go, and the locks that go with them.
use Rattle.std.proofs.Common.{◌≡◌, ℕ, ◌+◌, ◌≤◌, take, drop, Bool, true, false, not, cond, List, [], ◌∷◌, ◌++◌, length, map, filter, refl, sym, ◌∙◌, ap, subst, Option, Some, None, if◌then◌else◌, length-append, take_all}
use Rattle.std.proofs.lemmas.List.{length-map, drop_all}
use Rattle.std.proofs.lemmas.List.Sums.{sum_by-cons}
use Rattle.std.proofs.Common.{arith}
use Rattle.std.specs.Prelude.{count_by}
use Rattle.std.proofs.lemmas.List.Elements.{filter-append}
use Rattle.std.proofs.lemmas.List.Sums.{length-filter}
use Rattle.wat_list.specs.Has.{Has, IsOnce}
use Rattle.wat_list.proofs.Members.{has_map, map_has, has_filter}
use Rattle.wat_list.proofs.Once.{once_filter}
use Rattle.wat_locks.specs.declared.lock.Resource.{Resource}
use Rattle.wat_locks.specs.declared.held.Held.{Held}
use Rattle.wat_locks.specs.declared.table.Holder.{Holder}
use Rattle.wat_locks.specs.declared.table.Table.{Table}
use Rattle.wat_locks.specs.Tables.{held_by, held_in, all_held, holders, is_freed, is_freed_by, kept, freed, AreTables}

all_kept : (q : Held → Bool) (g : Resource → Held) → ((r : Resource) → q (g r) ≡ true) → (keys : List Resource) → filter q (map g keys) ≡ map g keys
all_kept q g h [] = refl
all_kept q g h (k ∷ ks) =
    ap (λ (b : Bool). cond b (g k ∷ filter q (map g ks)) (filter q (map g ks))) (h k) ∙ ap (λ (hs : List Held). g k ∷ hs) (all_kept q g h ks)

none_kept : (q : Held → Bool) (g : Resource → Held) → ((r : Resource) → q (g r) ≡ false) → (keys : List Resource) → filter q (map g keys) ≡ []
none_kept q g h [] = refl
none_kept q g h (k ∷ ks) =
    ap (λ (b : Bool). cond b (g k ∷ filter q (map g ks)) (filter q (map g ks))) (h k) ∙ none_kept q g h ks

same_test : (conn : ℕ) (scan : Option ℕ) (by : Holder) (r : Resource) → is_freed conn scan (held_by by r) ≡ is_freed_by conn scan by
same_test conn None by r = refl
same_test conn (Some scan) by r = refl

module _ (conn : ℕ) (scan : Option ℕ) where
  abbrev stays : Held → Bool
  stays h = not (is_freed conn scan h)

  -- the locks of the tables that stay are those that stay
  pub kept_is : (ts : List Table) → all_held (kept conn scan ts) ≡ filter stays (all_held ts)
  kept_is [] = refl
  kept_is (t ∷ ts) = by (is_freed_by conn scan t.by) refl (kept_is ts)
    where
      by : (b : Bool) → is_freed_by conn scan t.by ≡ b → all_held (kept conn scan ts) ≡ filter stays (all_held ts)
          → all_held (cond (not b) (t ∷ kept conn scan ts) (kept conn scan ts)) ≡ filter stays (held_in t ++ all_held ts)
      by true e rest =
          rest
          ∙ ap (λ (hs : List Held). hs ++ filter stays (all_held ts)) (sym (none_kept stays (held_by t.by) (λ r. ap not (same_test conn scan t.by r ∙ e)) t.resources.keys))
          ∙ sym (filter-append stays (held_in t) (all_held ts))
      by false e rest =
          (λ i. sym (all_kept stays (held_by t.by) (λ r. ap not (same_test conn scan t.by r ∙ e)) t.resources.keys) i ++ rest i)
          ∙ sym (filter-append stays (held_in t) (all_held ts))

  length_freed : (ts : List Table) → freed conn scan ts ≡ length (filter (is_freed conn scan) (all_held ts))
  length_freed [] = refl
  length_freed (t ∷ ts) =
      sum_by-cons (λ (x : Table). if is_freed_by conn scan x.by then length x.resources.keys else 0) t ts
      ∙ (λ i. one (is_freed_by conn scan t.by) refl i + length_freed ts i)
      ∙ sym (length-append (filter (is_freed conn scan) (held_in t)) (filter (is_freed conn scan) (all_held ts)))
      ∙ ap (λ (hs : List Held). length hs) (sym (filter-append (is_freed conn scan) (held_in t) (all_held ts)))
    where
      one : (b : Bool) → is_freed_by conn scan t.by ≡ b → (if b then length t.resources.keys else 0) ≡ length (filter (is_freed conn scan) (held_in t))
      one true e = sym (length-map t.resources.keys (held_by t.by)) ∙ ap (λ (hs : List Held). length hs) (sym (all_kept (is_freed conn scan) (held_by t.by) (λ r. same_test conn scan t.by r ∙ e) t.resources.keys))
      one false e = ap (λ (hs : List Held). length hs) (sym (none_kept (is_freed conn scan) (held_by t.by) (λ r. same_test conn scan t.by r ∙ e) t.resources.keys))

  -- and as many are freed as are counted
  pub freed_is : (ts : List Table) → freed conn scan ts ≡ count_by (is_freed conn scan) (all_held ts)
  freed_is ts = length_freed ts ∙ length-filter (is_freed conn scan) (all_held ts)

  holders_kept : (ts : List Table) (h : Holder) → Has h (holders (kept conn scan ts)) → Has h (holders ts)
  holders_kept ts h there =
      let made = has_map (λ (t : Table). t.by) h (kept conn scan ts) there in
      subst (λ (x : Holder). Has x (holders ts)) made.2 (map_has (λ (t : Table). t.by) made.0 ts (has_filter (λ (t : Table). not (is_freed_by conn scan t.by)) made.0 ts made.1).0)

  holders_once : (ts : List Table) → IsOnce (holders ts) → IsOnce (holders (kept conn scan ts))
  holders_once [] one = tt
  holders_once (t ∷ ts) one = by (not (is_freed_by conn scan t.by)) (holders_once ts one.1)
    where
      by : (b : Bool) → IsOnce (holders (kept conn scan ts)) → IsOnce (holders (cond b (t ∷ kept conn scan ts) (kept conn scan ts)))
      by true rest = (λ h. one.0 (holders_kept ts t.by h), rest)
      by false rest = rest

  pub kept_tables : (ts : List Table) → AreTables ts → AreTables (kept conn scan ts)
  kept_tables ts are = (holders_once ts are.0, subst (λ (hs : List Held). IsOnce hs) (sym (kept_is ts)) (once_filter stays (all_held ts) are.1))

-- tables taken out one by one, from the front on
pub record HasFreed (conn : ℕ) (scan : Option ℕ) (old new : List Table) (i steps_old steps_new : ℕ) : Type 0 where
  pub within : i ≤ length new
  pub kept_so : take i new ++ kept conn scan (drop i new) ≡ kept conn scan old
  pub ticks : steps_new + freed conn scan (drop i new) ≡ steps_old + freed conn scan old

kept-nil : (xs : List Table) → xs ++ [] ≡ xs
kept-nil [] = refl
kept-nil (x ∷ xs) = ap (λ (ys : List Table). x ∷ ys) (kept-nil xs)

-- all of them were looked at
pub freed_all : (conn : ℕ) (scan : Option ℕ) (old new : List Table) (i steps_old steps_new : ℕ) → HasFreed conn scan old new i steps_old steps_new → length new ≤ i → (new ≡ kept conn scan old) × (steps_new ≡ steps_old + freed conn scan old)
freed_all conn scan old new i steps_old steps_new has past =
    let none : drop i new ≡ [] = drop_all i new past in (
      sym (kept-nil new) ∙ ap (λ (ts : List Table). ts ++ []) (sym (take_all i new past)) ∙ ap (λ (ts : List Table). take i new ++ kept conn scan ts) (sym none) ∙ has.kept_so,
      plus_zero steps_new ∙ ap (λ (ts : List Table). steps_new + freed conn scan ts) (sym none) ∙ has.ticks,
    )
  where
    plus_zero : (n : ℕ) → n ≡ n + 0
    plus_zero n = omega arith
