-- The wants of a change: all that is asked and nothing else, in order; and what the serial proof needs of them.
use Rattle.std.proofs.Common.{◌≡◌, ℕ, Bool, true, false, cond, List, [], ◌∷◌, Option, None, Some, refl, sym, ◌∙◌, ap, subst, inl, inr, ⊎_elim, ◌⊎◌}
use Rattle.std.specs.Prelude.{◌↔◌}
use Rattle.std.specs.declared.cmp.Ordering.{Ordering}
use Rattle.std.specs.declared.cmp.Ordering.TheVariants.{Less, Equal, Greater}
use Rattle.std.specs.Ordering.{is_lt, is_eq, ordering_reverse}
use Rattle.wat_value.specs.declared.value.Value.{Value}
use Rattle.wat_value.specs.declared.place.Place.TheVariants.{At}
use Rattle.wat_value.specs.declared.change.Change.{Change}
use Rattle.wat_value.specs.declared.definition.TableDef.{TableDef}
use Rattle.wat_value.specs.Changes.{changed_row, changed_table}
use Rattle.wat_list.specs.Has.{Has}
use Rattle.wat_value.specs.OrderLaws.{equal_of}
use Rattle.wat_locks.specs.Order.{lock_cmp}
use Rattle.wat_locks.specs.declared.lock.Lock.{Lock}
use Rattle.wat_locks.specs.declared.want.Want.{Want}
use Rattle.wat_locks.specs.OrderLaws.{lock_level, lock_cmp_total}
use Rattle.wat_list.proofs.Members.{has_cases, has_left, has_right, has_flat_map, flat_map_has}
use Rattle.wat_level.specs.declared.change.Spot.{Spot}
use Rattle.wat_level.specs.Placed.{placed, placed_all}
use Rattle.wat_level.specs.Wanted.{in_order, IsWanted, IsRising, write_lock, phantom_lock, anti_phantom_lock, long_want}
use Rattle.wat_level.specs.Change.{spot_wants, asked_wants, change_wants, left_wants, entered_wants, inherited_wants}

placed_members : (w : Want) (ws : List Want) (u : Want) → Has u (placed w ws) → (w ≡ u) ⊎ Has u ws
placed_members w [] u h = ⊎_elim (λ e. inl e) (λ n. absurd n) h
placed_members w (v ∷ vs) u h = by (is_lt (lock_cmp w.lock v.lock)) (is_eq (lock_cmp w.lock v.lock)) (λ r. placed_members w vs u r) h
  where
    by : (a b : Bool) → (Has u (placed w vs) → (w ≡ u) ⊎ Has u vs) → Has u (cond a (w ∷ v ∷ vs) (cond b (v ∷ vs) (v ∷ placed w vs))) → (w ≡ u) ⊎ Has u (v ∷ vs)
    by true b deeper r = r
    by false true deeper r = inr r
    by false false deeper r = ⊎_elim (λ e. inr (inl e)) (λ q. ⊎_elim (λ e. inl e) (λ p. inr (inr p)) (deeper q)) r

placed_wanted : (w : Want) (ws : List Want) (lock : Lock) → (w.lock ≡ lock) ⊎ IsWanted lock ws → IsWanted lock (placed w ws)
placed_wanted w [] lock h = ⊎_elim (λ e. (w, inl refl, e)) (λ r. absurd r.1) h
placed_wanted w (v ∷ vs) lock h = by (is_lt (lock_cmp w.lock v.lock)) (is_eq (lock_cmp w.lock v.lock)) refl (λ r. placed_wanted w vs lock r) h
  where
    by : (a b : Bool) → is_eq (lock_cmp w.lock v.lock) ≡ b → ((w.lock ≡ lock) ⊎ IsWanted lock vs → IsWanted lock (placed w vs)) → (w.lock ≡ lock) ⊎ IsWanted lock (v ∷ vs) → IsWanted lock (cond a (w ∷ v ∷ vs) (cond b (v ∷ vs) (v ∷ placed w vs)))
    by true b e deeper r = ⊎_elim (λ s. (w, inl refl, s)) (λ q. (q.0, inr q.1, q.2)) r
    by false true e deeper r = ⊎_elim (λ s. (v, inl refl, sym (lock_level w.lock v.lock (equal_of (lock_cmp w.lock v.lock) e)) ∙ s)) (λ q. q) r
    by false false e deeper r =
        ⊎_elim
        (λ s. let d = deeper (inl s) in (d.0, inr d.1, d.2))
        (λ q. ⊎_elim (λ s. (q.0, inl s, q.2)) (λ p. let d = deeper (inr (q.0, p, q.2)) in (d.0, inr d.1, d.2)) q.1)
        r

is_lt_level : (o : Ordering) → is_lt o ≡ true → o ≡ Less
is_lt_level Less e = refl
is_lt_level Equal e = absurd (cc)
is_lt_level Greater e = absurd (cc)

is_greater : (o : Ordering) → is_lt o ≡ false → is_eq o ≡ false → o ≡ Greater
is_greater Less e f = absurd (cc)
is_greater Equal e f = absurd (cc)
is_greater Greater e f = refl

placed_rising : (w : Want) (ws : List Want) → IsRising ws → IsRising (placed w ws)
placed_rising w [] h = (λ v n. absurd n, tt)
placed_rising w (v ∷ vs) h = by (is_lt (lock_cmp w.lock v.lock)) (is_eq (lock_cmp w.lock v.lock)) refl refl (placed_rising w vs h.1)
  where
    above : lock_cmp w.lock v.lock ≡ Greater → (u : Want) → Has u (placed w vs) → lock_cmp v.lock u.lock ≡ Less
    above g u r =
        ⊎_elim
        (λ (e : w ≡ u). subst (λ (x : Want). lock_cmp v.lock x.lock ≡ Less) e (lock_cmp_total.antisymm v.lock w.lock ∙ ap ordering_reverse g))
        (λ p. h.0 u p)
        (placed_members w vs u r)

    by : (a b : Bool) → is_lt (lock_cmp w.lock v.lock) ≡ a → is_eq (lock_cmp w.lock v.lock) ≡ b → IsRising (placed w vs) → IsRising (cond a (w ∷ v ∷ vs) (cond b (v ∷ vs) (v ∷ placed w vs)))
    by true b e f deeper =
        let first = is_lt_level (lock_cmp w.lock v.lock) e in
        (λ u r. ⊎_elim (λ (s : v ≡ u). subst (λ (x : Want). lock_cmp w.lock x.lock ≡ Less) s first) (λ p. lock_cmp_total.trans w.lock v.lock u.lock first (h.0 u p)) r, h)
    by false true e f deeper = h
    by false false e f deeper = (above (is_greater (lock_cmp w.lock v.lock) e f), deeper)

placed_all_rising : (sorted ws : List Want) → IsRising sorted → IsRising (placed_all sorted ws)
placed_all_rising sorted [] h = h
placed_all_rising sorted (w ∷ ws) h = placed_all_rising (placed w sorted) ws (placed_rising w sorted h)

placed_all_wanted : (sorted ws : List Want) (lock : Lock) → IsWanted lock sorted ⊎ IsWanted lock ws → IsWanted lock (placed_all sorted ws)
placed_all_wanted sorted [] lock h = ⊎_elim (λ p. p) (λ r. absurd r.1) h
placed_all_wanted sorted (w ∷ ws) lock h =
    placed_all_wanted (placed w sorted) ws lock
    (⊎_elim
    (λ p. inl (placed_wanted w sorted lock (inr p)))
    (λ r. ⊎_elim (λ (e : w ≡ r.0). inl (placed_wanted w sorted lock (inl (ap (λ (x : Want). x.lock) e ∙ r.2)))) (λ q. inr (r.0, q, r.2)) r.1)
    h)

placed_all_members : (sorted ws : List Want) (u : Want) → Has u (placed_all sorted ws) → Has u sorted ⊎ Has u ws
placed_all_members sorted [] u h = inl h
placed_all_members sorted (w ∷ ws) u h =
    ⊎_elim (λ p. ⊎_elim (λ e. inr (inl e)) (λ q. inl q) (placed_members w sorted u p)) (λ q. inr (inr q)) (placed_all_members (placed w sorted) ws u h)

pub in_order_rising : (ws : List Want) → IsRising (in_order ws)
in_order_rising ws = placed_all_rising [] ws tt

-- all that is asked is wanted, and nothing else
pub in_order_wanted : (ws : List Want) (lock : Lock) → IsWanted lock (in_order ws) ↔ IsWanted lock ws
in_order_wanted ws lock =
    (λ h. (h.0, ⊎_elim (λ n. absurd n) (λ q. q) (placed_all_members [] ws h.0 h.1), h.2), λ h. placed_all_wanted [] ws lock (inr h))

-- ---- what a change asks is kept to the end of the transaction

long_is : (lock : Lock) (w : Want) → long_want lock ≡ w → w.short ≡ None
long_is lock w e = sym (ap (λ (x : Want). x.short) e)

left_long : (table index : ℕ) (o : Option (List Value)) (w : Want) → Has w (left_wants table index o) → w.short ≡ None
left_long table index None w h = absurd h
left_long table index (Some key) w h = ⊎_elim (λ e. long_is (anti_phantom_lock table index (At key)) w e) (λ n. absurd n) h

inherited_long : (table index : ℕ) (b : Bool) (key : List Value) (w : Want) → Has w (inherited_wants table index b key) → w.short ≡ None
inherited_long table index true key w h = ⊎_elim (λ e. long_is (phantom_lock table index (At key)) w e) (λ n. absurd n) h
inherited_long table index false key w h = absurd h

entered_long : (table : ℕ) (spot : Spot) (o : Option (List Value)) (w : Want) → Has w (entered_wants table spot o) → w.short ≡ None
entered_long table spot None w h = absurd h
entered_long table spot (Some key) w h =
    let at = long_want (anti_phantom_lock table spot.index (At key)) in
    let next = long_want (anti_phantom_lock table spot.index spot.successor) in
    ⊎_elim
    (λ p. inherited_long table spot.index spot.inherits key w p)
    (λ p. ⊎_elim (λ e. long_is at.lock w e) (λ q. ⊎_elim (λ e. long_is next.lock w e) (λ n. absurd n) q) p)
    (has_cases w (inherited_wants table spot.index spot.inherits key) (at ∷ next ∷ []) h)

pub wants_long : (def : TableDef) (change : Change) (spots : List Spot) (w : Want) → Has w (change_wants def change spots) → w.short ≡ None
wants_long def change spots w h =
    let table = changed_table change in
    ⊎_elim
    (λ n. absurd n)
    (λ r. ⊎_elim
    (λ e. long_is (write_lock table (changed_row def change).key) w e)
    (λ q. let of = has_flat_map (spot_wants table) w spots q in
    ⊎_elim (λ p. left_long table of.0.index of.0.leaves w p) (λ p. entered_long table of.0 of.0.enters w p) (has_cases w (left_wants table of.0.index of.0.leaves) (entered_wants table of.0 of.0.enters) of.2))
    r)
    (placed_all_members [] (asked_wants def change spots) w h)

module _ (def : TableDef) (change : Change) (spots : List Spot) where
  asked : (w : Want) → Has w (asked_wants def change spots) → IsWanted w.lock (change_wants def change spots)
  asked w h = (in_order_wanted (asked_wants def change spots) w.lock).1 (w, h, refl)

  pub wants_write : IsWanted (write_lock (changed_table change) (changed_row def change).key) (change_wants def change spots)
  wants_write = asked (long_want (write_lock (changed_table change) (changed_row def change).key)) (inl refl)

  pub wants_left : (spot : Spot) (key : List Value) → Has spot spots → spot.leaves ≡ Some key → IsWanted (anti_phantom_lock (changed_table change) spot.index (At key)) (change_wants def change spots)
  wants_left spot key h e =
      let w = long_want (anti_phantom_lock (changed_table change) spot.index (At key)) in
      asked w (inr (flat_map_has (spot_wants (changed_table change)) w spot spots h (has_left w (left_wants (changed_table change) spot.index spot.leaves) (entered_wants (changed_table change) spot spot.enters)
      (subst (λ (o : Option (List Value)). Has w (left_wants (changed_table change) spot.index o)) (sym e) (inl refl)))))

  entered : (spot : Spot) (key : List Value) (w : Want) → Has spot spots → spot.enters ≡ Some key → Has w (entered_wants (changed_table change) spot (Some key)) → IsWanted w.lock (change_wants def change spots)
  entered spot key w h e r =
      asked w (inr (flat_map_has (spot_wants (changed_table change)) w spot spots h (has_right w (left_wants (changed_table change) spot.index spot.leaves) (entered_wants (changed_table change) spot spot.enters)
      (subst (λ (o : Option (List Value)). Has w (entered_wants (changed_table change) spot o)) (sym e) r))))

  pub wants_entered : (spot : Spot) (key : List Value) → Has spot spots → spot.enters ≡ Some key → IsWanted (anti_phantom_lock (changed_table change) spot.index (At key)) (change_wants def change spots)
  wants_entered spot key h e =
      let w = long_want (anti_phantom_lock (changed_table change) spot.index (At key)) in
      entered spot key w h e (has_right w (inherited_wants (changed_table change) spot.index spot.inherits key) (w ∷ long_want (anti_phantom_lock (changed_table change) spot.index spot.successor) ∷ []) (inl refl))

  pub wants_successor : (spot : Spot) (key : List Value) → Has spot spots → spot.enters ≡ Some key → IsWanted (anti_phantom_lock (changed_table change) spot.index spot.successor) (change_wants def change spots)
  wants_successor spot key h e =
      let w = long_want (anti_phantom_lock (changed_table change) spot.index spot.successor) in
      entered spot key w h e (has_right w (inherited_wants (changed_table change) spot.index spot.inherits key) (long_want (anti_phantom_lock (changed_table change) spot.index (At key)) ∷ w ∷ []) (inr (inl refl)))

  pub wants_inherited : (spot : Spot) (key : List Value) → Has spot spots → spot.enters ≡ Some key → spot.inherits ≡ true → IsWanted (phantom_lock (changed_table change) spot.index (At key)) (change_wants def change spots)
  wants_inherited spot key h e i =
      let w = long_want (phantom_lock (changed_table change) spot.index (At key)) in
      entered spot key w h e (has_left w (inherited_wants (changed_table change) spot.index spot.inherits key) (long_want (anti_phantom_lock (changed_table change) spot.index (At key)) ∷ long_want (anti_phantom_lock (changed_table change) spot.index spot.successor) ∷ [])
      (subst (λ (b : Bool). Has w (inherited_wants (changed_table change) spot.index b key)) (sym i) (inl refl)))
