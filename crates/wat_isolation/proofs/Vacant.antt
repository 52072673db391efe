-- The list of vacant keys that an engine keeps gives the positions.
use Rattle.std.proofs.Common.{◌≡◌, ℕ, List, ◌∷◌, ◌⊎◌, Option, Some, nat_eq, refl, sym, ap, ◌∙◌, subst, inl, inr, ⊎_elim}
use Rattle.wat_isolation.specs.World.{World}
use Rattle.wat_list.specs.Has.{Has}
use Rattle.wat_isolation.specs.Rows.{Tables, set_row, key_at, IsLive}
use Rattle.wat_isolation.specs.Logs.{Item, Item.Did, view, Version}
use Rattle.wat_isolation.specs.Machine.{Lock, Standing, Connection, State, IsPos, grown, set_conn, idle}
use Rattle.wat_isolation.specs.Vacant.{VacantKey, IsVacant, AddsLeft, DropsOf}
use Rattle.wat_isolation.proofs.Basics.{nat_same, row_same, put_cases, put-same, put-other}
use Rattle.wat_isolation.proofs.Orders.{cases_key}
use Rattle.wat_isolation.proofs.Growing.{at_conn}
use Rattle.wat_isolation.proofs.Changing.{key_row}

pub pos_to_live : (w : World) (s : State w) (list : List (VacantKey w)) → IsVacant w s list → (i : w.Index) (x : w.Key) → IsPos w s i x → IsLive w s.scheme i s.now x ⊎ ((c : ℕ) × Has (record { by = c; index = i; key = x }) list)
pos_to_live w s list k i x (inl h) = inl h
pos_to_live w s list k i x (inr h) = ⊎_elim (λ o. inl o) (λ o. inr (h.0, o)) (k.full h.0 i x h.1 h.2 h.3)

pub pos_from_live : (w : World) (s : State w) (list : List (VacantKey w)) → IsVacant w s list → (i : w.Index) (x : w.Key) → IsLive w s.scheme i s.now x ⊎ ((c : ℕ) × Has (record { by = c; index = i; key = x }) list) → IsPos w s i x
pos_from_live w s list k i x (inl h) = inl h
pos_from_live w s list k i x (inr h) = let o = k.sound (record { by = h.0; index = i; key = x }) h.1 in inr (h.0, o.0, o.1, o.2)

module _ (w : World) (s : State w) (c : ℕ) (r : w.Row) (after : Option w.Content) (standing : List (Standing w)) (wants : List (Lock w)) (list list' : List (VacantKey w)) (k : IsVacant w s list) (adds : AddsLeft w s c r after list list') (sole : (d : ℕ) (v : Option w.Content) → Version w r v (s.conns d).log → d ≡ c) where
  abbrev row : w.Index → w.Key → w.Row
  row i x = s.scheme.row_of i x

  abbrev new : Connection w
  new = grown w s c (Did r (s.now r) after ∷ (s.conns c).log) standing wants

  abbrev t : State w
  t = record { scheme = s.scheme; base = s.base; now = set_row w s.now r after; conns = set_conn w s.conns c new; history = s.history }

  abbrev Or : ℕ → w.Index → w.Key → Type 0
  Or d i x = IsLive w s.scheme i t.now x ⊎ Has (record { by = d; index = i; key = x }) list'

  stands_after : (i : w.Index) (x : w.Key) → row i x ≡ r → key_at w s.scheme i r after ≡ Some x → IsLive w s.scheme i t.now x
  stands_after i x e h = subst (λ q. key_at w s.scheme i q (set_row w s.now r after q) ≡ Some x) (sym e) (ap (key_at w s.scheme i r) (put-same w.same (row_same w) s.now r after) ∙ h)

  left_or : (d : ℕ) (i : w.Index) (x : w.Key) → d ≡ c → row i x ≡ r → key_at w s.scheme i r (s.now r) ≡ Some x → Or d i x
  left_or d i x e at h =
      ⊎_elim
      (λ (y : key_at w s.scheme i r after ≡ Some x). inl (stands_after i x at y))
      (λ (n : key_at w s.scheme i r after ≡ Some x → ⊥). inr (subst (λ z. Has (record { by = z; index = i; key = x }) list') (sym e) (adds.leaves i x h n)))
      (cases_key w (key_at w s.scheme i r after) x)

  old_or : (d : ℕ) (i : w.Index) (x : w.Key) (v : Option w.Content) → Version w (row i x) v (s.conns d).log → key_at w s.scheme i (row i x) v ≡ Some x → Or d i x
  old_or d i x v ver h =
      ⊎_elim
      (λ (o : IsLive w s.scheme i s.now x). ⊎_elim
      (λ (u : (row i x ≡ r) × (set_row w s.now r after (row i x) ≡ after)).
      left_or d i x (sole d v (subst (λ q. Version w q v (s.conns d).log) u.0 ver)) u.0 (subst (λ q. key_at w s.scheme i q (s.now q) ≡ Some x) u.0 o))
      (λ (u : (row i x ≡ r → ⊥) × (set_row w s.now r after (row i x) ≡ s.now (row i x))). inl (ap (key_at w s.scheme i (row i x)) u.1 ∙ o))
      (put_cases w.same (row_same w) s.now r after (row i x)))
      (λ (o : Has (record { by = d; index = i; key = x }) list). inr (adds.keep (record { by = d; index = i; key = x }) o))
      (k.full d i x v ver h)

  new_or : (i : w.Index) (x : w.Key) (v : Option w.Content) → Version w (row i x) v new.log → key_at w s.scheme i (row i x) v ≡ Some x → Or c i x
  new_or i x v (inl u) h = left_or c i x refl (sym u.0) (subst (λ q. key_at w s.scheme i q (s.now r) ≡ Some x) (sym u.0) (ap (key_at w s.scheme i (row i x)) u.1 ∙ h))
  new_or i x v (inr (inl u)) h = inl (stands_after i x (sym u.0) (subst (λ q. key_at w s.scheme i q after ≡ Some x) (sym u.0) (ap (key_at w s.scheme i (row i x)) u.1 ∙ h)))
  new_or i x v (inr (inr ver)) h = old_or c i x v ver h

  -- a change of a row, with whatever locks: the keys that the row leaves are added. Undoing is a change back.
  pub change_vacant : IsVacant w t list'
  change_vacant = record {
    sound = λ e h. ⊎_elim
        (λ (o : Has e list). let u = k.sound e o in (u.0, at_conn w s.conns c new (λ d z. Version w (row e.index e.key) u.0 (s.conns d).log → Version w (row e.index e.key) u.0 z.log) (λ v. inr (inr v)) (λ d ne v. v) e.by u.1, u.2))
        (λ (o : (e.by ≡ c) × (key_at w s.scheme e.index r (s.now r) ≡ Some e.key)).
        let at : row e.index e.key ≡ r = key_row w s.scheme e.index r (s.now r) e.key o.1 in (
          s.now r,
          subst (λ d. Version w (row e.index e.key) (s.now r) (set_conn w s.conns c new d).log) (sym o.0)
              (subst (λ (z : Connection w). Version w (row e.index e.key) (s.now r) z.log) (sym (put-same nat_eq nat_same s.conns c new)) (inl (sym at, refl))),
          subst (λ q. key_at w s.scheme e.index q (s.now r) ≡ Some e.key) (sym at) o.1,
        ))
        (adds.no_more e h);
    full = λ d i x v. at_conn w s.conns c new (λ e z. Version w (row i x) v z.log → key_at w s.scheme i (row i x) v ≡ Some x → Or e i x) (new_or i x v) (λ e ne. old_or e i x v) d;
  }

-- the end of a transaction drops the keys that it left
pub end_vacant : (w : World) (s : State w) (c : ℕ) (base : Tables w) (history : List (Rattle.wat_isolation.specs.Logs.Committed w)) (list list' : List (VacantKey w)) → IsVacant w s list → DropsOf w c list list'
    → IsVacant w (record { scheme = s.scheme; base = base; now = s.now; conns = set_conn w s.conns c (idle w); history = history }) list'
end_vacant w s c base history list list' k drops = record {
  sound = λ e h. let o = drops.no_more e h in let u = k.sound e o.0 in
      (u.0, subst (λ (z : Connection w). Version w (s.scheme.row_of e.index e.key) u.0 z.log) (sym (put-other nat_eq nat_same s.conns c (idle w) e.by o.1)) u.1, u.2);
  full = λ d i x v. at_conn w s.conns c (idle w) (λ e z. Version w (s.scheme.row_of i x) v z.log → key_at w s.scheme i (s.scheme.row_of i x) v ≡ Some x → IsLive w s.scheme i s.now x ⊎ Has (record { by = e; index = i; key = x }) list')
      (λ h. absurd h)
      (λ e ne h key. ⊎_elim (λ o. inl o) (λ o. inr (drops.keep (record { by = e; index = i; key = x }) o ne)) (k.full e i x v h key)) d;
}
