-- A resource that a table gets, or gives back.
use Rattle.std.proofs.Common.{◌≡◌, ℕ, Bool, true, false, cond, not, List, [], ◌∷◌, ◌++◌, map, slice_get, slice_set, refl, sym, ◌∙◌, ap, subst, inl, inr, ⊎_elim, Some, if◌then◌else◌}
use Rattle.std.proofs.lemmas.Bool.{both_ways}
use Rattle.std.proofs.lemmas.List.{map-append}
use Rattle.std.specs.Prelude.{◌↔◌}
use Rattle.std.specs.List.{list_any}
use Rattle.std.specs.Ordering.{is_eq}
use Rattle.indexmap.specs.IndexSet.{insert_key, remove_key}
use Rattle.wat_value.specs.OrderLaws.{equal_of}
use Rattle.wat_list.specs.Has.{Has, IsOnce}
use Rattle.wat_list.proofs.Members.{has_map, map_has, has_flat_map, flat_map_has}
use Rattle.wat_list.proofs.Once.{once_map}
use Rattle.wat_locks.specs.declared.lock.Resource.{Resource}
use Rattle.wat_locks.specs.declared.held.Held.{Held}
use Rattle.wat_locks.specs.declared.table.Holder.{Holder}
use Rattle.wat_locks.specs.declared.table.Table.{Table}
use Rattle.wat_locks.specs.Order.{resource_cmp, resource_eq}
use Rattle.wat_locks.specs.OrderLaws.{resource_level, resource_itself}
use Rattle.wat_locks.specs.Held.{Frees}
use Rattle.wat_locks.specs.Tables.{held_by, held_in, all_held, holders, AreTables, Puts, PutsResource}
use Rattle.wat_locks.proofs.TableLemmas.{found_has, has_found}
use Rattle.wat_locks.proofs.UpdateLemmas.{has_at, once_by, map_set, set_adds, set_adds_once, set_takes, set_takes_once, flat_map_set, own_once}

same_resource : (r k : Resource) → resource_eq r k ≡ true → r ≡ k
same_resource r k e = resource_level r k (equal_of (resource_cmp r k) e)

not_same : (r k : Resource) → resource_eq r k ≡ false → r ≡ k → ⊥
not_same r k e s = both_ways (resource_eq r k) e (ap is_eq (resource_itself r k s))

-- what `insert` answers and leaves
pub inserted : (keys new : List Resource) (r : Resource) (fresh : Bool) → fresh ≡ not (list_any (resource_eq r) keys) → new ≡ insert_key resource_eq keys r
    → (old_table new_table : Table) → old_table.resources.keys ≡ keys → new_table.resources.keys ≡ new → PutsResource old_table new_table r fresh
inserted keys new r fresh is gives t u t_is u_is = by (list_any (resource_eq r) keys) refl fresh is
  where
    by : (found : Bool) → list_any (resource_eq r) keys ≡ found → (b : Bool) → b ≡ not (list_any (resource_eq r) keys) → PutsResource t u r b
    by true e true f = absurd (both_ways true (f ∙ ap not e) refl)
    by true e false f = (
      subst (λ (ks : List Resource). Has r ks) (sym t_is) (found_has r keys e),
      u_is ∙ gives ∙ ap (λ (b : Bool). if b then keys else keys ++ r ∷ []) e ∙ sym t_is,
    )
    by false e true f = (
      λ h. both_ways (list_any (resource_eq r) keys) e (has_found r keys (subst (λ (ks : List Resource). Has r ks) t_is h)),
      u_is ∙ gives ∙ ap (λ (b : Bool). if b then keys else keys ++ r ∷ []) e ∙ ap (λ (ks : List Resource). ks ++ r ∷ []) (sym t_is),
    )
    by false e false f = absurd (both_ways false refl (f ∙ ap not e))

removed : (r : Resource) (keys : List Resource) → IsOnce keys → (x : Resource) → Has x (remove_key (resource_eq r) keys) ↔ (Has x keys × (x ≡ r → ⊥))
removed r [] one x = (λ h. absurd h, λ h. absurd h.0)
removed r (k ∷ ks) one x = by (resource_eq r k) refl (removed r ks one.1 x)
  where
    by : (b : Bool) → resource_eq r k ≡ b → Has x (remove_key (resource_eq r) ks) ↔ (Has x ks × (x ≡ r → ⊥)) → Has x (cond b ks (k ∷ remove_key (resource_eq r) ks)) ↔ (Has x (k ∷ ks) × (x ≡ r → ⊥))
    by true e deeper = (
      λ h. (inr h, λ s. one.0 (subst (λ (y : Resource). Has y ks) (s ∙ same_resource r k e) h)),
      λ both. ⊎_elim (λ (s : k ≡ x). absurd (both.1 (sym s ∙ sym (same_resource r k e)))) (λ m. m) both.0,
    )
    by false e deeper = (
      λ h. ⊎_elim (λ (s : k ≡ x). (inl s, λ q. not_same r k e (sym (s ∙ q)))) (λ m. let two = deeper.0 m in (inr two.0, two.1)) h,
      λ both. ⊎_elim (λ (s : k ≡ x). inl s) (λ m. inr (deeper.1 (m, both.1))) both.0,
    )

removed_once : (r : Resource) (keys : List Resource) → IsOnce keys → IsOnce (remove_key (resource_eq r) keys)
removed_once r [] one = tt
removed_once r (k ∷ ks) one = by (resource_eq r k) (removed_once r ks one.1)
  where
    by : (b : Bool) → IsOnce (remove_key (resource_eq r) ks) → IsOnce (cond b ks (k ∷ remove_key (resource_eq r) ks))
    by true rest = one.1
    by false rest = (λ h. one.0 ((removed r ks one.1 k).0 h).0, rest)

once_unmapped : {A B : Type 0} (g : A → B) (xs : List A) → IsOnce (map g xs) → IsOnce xs
once_unmapped g [] one = tt
once_unmapped g (x ∷ xs) one = (λ h. one.0 (map_has g x xs h), once_unmapped g xs one.1)

pub same_holder : (g h : Holder) (r s : Resource) → held_by g r ≡ held_by h s → g ≡ h
same_holder g h r s e = λ i. record { conn = (e i).conn; kind = (e i).lock.kind; short = (e i).short }

-- a lock of a holder stands in the holder's table
pub stands_here : (ts : List Table) (t : Table) (r : Resource) → IsOnce (holders ts) → Has t ts → Has (held_by t.by r) (all_held ts) → Has r t.resources.keys
stands_here ts t r one here h =
    let of = has_flat_map held_in (held_by t.by r) ts h in
    let made = has_map (held_by of.0.by) (held_by t.by r) of.0.resources.keys of.2 in
    let table : of.0 ≡ t = once_by (λ (x : Table). x.by) ts of.0 t one of.1 here (same_holder of.0.by t.by made.0 r made.2) in
    subst (λ (x : Resource). Has x t.resources.keys) (ap (λ (x : Held). x.lock.resource) made.2) (subst (λ (x : Table). Has made.0 x.resources.keys) table made.1)

module _ (ts : List Table) (i : ℕ) (t u : Table) (r : Resource) (are : AreTables ts) (at : slice_get ts i ≡ Some t) (by_is : u.by ≡ t.by) where
  pub holders_stay : IsOnce (holders (slice_set ts i u))
  holders_stay = subst (λ (hs : List Holder). IsOnce hs) (sym (map_set (λ (x : Table). x.by) ts i t u at by_is)) are.0

  -- the resource was put there
  pub put_there : (fresh : Bool) → PutsResource t u r fresh → Puts (all_held ts) (all_held (slice_set ts i u)) (held_by t.by r) fresh × AreTables (slice_set ts i u)
  put_there true puts =
      let more : held_in u ≡ held_in t ++ held_by t.by r ∷ [] =
      (λ j. map (held_by (by_is j)) (puts.1 j)) ∙ map-append (held_by t.by) t.resources.keys (r ∷ []) in
      let new : Has (held_by t.by r) (all_held ts) → ⊥ = λ h. puts.0 (stands_here ts t r are.0 (has_at ts i t at) h) in
      ((new, set_adds held_in t u (held_by t.by r) more ts i at), (holders_stay, set_adds_once held_in t u (held_by t.by r) more ts i at are.1 new))
  put_there false puts =
      let same : held_in u ≡ held_in t = λ j. map (held_by (by_is j)) (puts.1 j) in
      let all : all_held (slice_set ts i u) ≡ all_held ts = flat_map_set held_in t u ts i at same in (
        (flat_map_has held_in (held_by t.by r) t ts (has_at ts i t at) (map_has (held_by t.by) r t.resources.keys puts.0), λ h. (λ m. subst (λ (hs : List Held). Has h hs) all m, λ m. subst (λ (hs : List Held). Has h hs) (sym all) m)),
        (holders_stay, subst (λ (hs : List Held). IsOnce hs) (sym all) are.1),
      )

  -- the resource was taken back
  pub taken_there : Has r t.resources.keys → u.resources.keys ≡ remove_key (resource_eq r) t.resources.keys
      → Frees (all_held ts) (all_held (slice_set ts i u)) (λ h. h ≡ held_by t.by r) × AreTables (slice_set ts i u)
  taken_there here is =
      let g = held_by t.by in
      let is_in : held_in u ≡ map g (remove_key (resource_eq r) t.resources.keys) = λ j. map (held_by (by_is j)) (is j) in
      let less : (one : IsOnce t.resources.keys) → (w : Held) → Has w (held_in u) ↔ (Has w (held_in t) × (w ≡ g r → ⊥)) = λ one w. (
        λ h. let made = has_map g w (remove_key (resource_eq r) t.resources.keys) (subst (λ (hs : List Held). Has w hs) is_in h) in
            let two = (removed r t.resources.keys one made.0).0 made.1 in
            (subst (λ (x : Held). Has x (held_in t)) made.2 (map_has g made.0 t.resources.keys two.0), λ s. two.1 (ap (λ (x : Held). x.lock.resource) (made.2 ∙ s))),
        λ both. let made = has_map g w t.resources.keys both.0 in
            subst (λ (hs : List Held). Has w hs) (sym is_in)
            (subst (λ (x : Held). Has x (map g (remove_key (resource_eq r) t.resources.keys))) made.2
            (map_has g made.0 (remove_key (resource_eq r) t.resources.keys) ((removed r t.resources.keys one made.0).1 (made.1, λ s. both.1 (sym made.2 ∙ ap g s))))),
      ) in
      let keys_once : IsOnce t.resources.keys = once_unmapped g t.resources.keys (own_once held_in t ts i at are.1) in
      let own : IsOnce (held_in t) → IsOnce (held_in u) = λ one. subst (λ (hs : List Held). IsOnce hs) (sym is_in) (once_map g (λ x y e. ap (λ (h : Held). h.lock.resource) e) (remove_key (resource_eq r) t.resources.keys) (removed_once r t.resources.keys keys_once)) in
      let there : Has (g r) (held_in t) = map_has g r t.resources.keys here in (
        set_takes held_in t u (g r) there own (less keys_once) ts i at are.1,
        (holders_stay, set_takes_once held_in t u (g r) there own (less keys_once) ts i at are.1),
      )
