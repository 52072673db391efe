-- Positions, the first one past a cut, and what the invariant says of rows.
use Rattle.std.proofs.Common.{◌≡◌, ℕ, true, false, ◌⊎◌, Option, refl, sym, ap, ◌∙◌, subst, inl, inr, ⊎_elim}
use Rattle.std.proofs.lemmas.Bool.{cases_Bool, both_ways}
use Rattle.wat_isolation.specs.World.{World}
use Rattle.wat_list.specs.Has.{Has}
use Rattle.wat_isolation.specs.Rows.{key_at, IsLive, Cut, IsCut, upto, before}
use Rattle.wat_isolation.specs.Logs.{view, Version}
use Rattle.wat_isolation.specs.Machine.{Place, Place.At, Place.End, Lock.Write, State, IsPos, IsFirst}
use Rattle.wat_isolation.specs.Kept.{Kept}
use Rattle.wat_isolation.proofs.Orders.{not_less_self, less_false, le_cases, not_false, from_true, above}
use Rattle.wat_isolation.proofs.Views.{versions, alone_applies, Untouched, BothVersions}

-- a row is write-locked by one connection
pub sole_writer : (w : World) (s : State w) → Kept w s → (c d : ℕ) (r : w.Row) → Has (Write r) (s.conns c).locks → Has (Write r) (s.conns d).locks → c ≡ d
sole_writer w s k c d r h h' = k.compatible c d (Write r) (Write r) h h' refl

-- the versions of a row in an open transaction
pub open_versions : (w : World) (s : State w) → Kept w s → (c : ℕ) (r : w.Row) → Untouched w s.base (s.conns c).log r ⊎ BothVersions w s.base (s.conns c).log r
open_versions w s k c r = versions w s.base (s.conns c).log r (alone_applies w s.scheme s.base (s.conns c).log (k.open_serial c))

-- an earlier version of the row makes its content now one
pub version_now : (w : World) (s : State w) → Kept w s → (c : ℕ) (r : w.Row) (v : Option w.Content) → Version w r v (s.conns c).log → Version w r (s.now r) (s.conns c).log
version_now w s k c r v h =
    ⊎_elim
    (λ (u : Untouched w s.base (s.conns c).log r). absurd (u.1 v h))
    (λ (u : BothVersions w s.base (s.conns c).log r). subst (λ z. Version w r z (s.conns c).log) (sym (k.own c r (k.touched c r v h))) u.1)
    (open_versions w s k c r)

-- where no other connection may write the row, it is now as the transaction sees it
pub now_is_view : (w : World) (s : State w) → Kept w s → (c : ℕ) (r : w.Row) → ((d : ℕ) → Has (Write r) (s.conns d).locks → c ≡ d) → s.now r ≡ view w s.base (s.conns c).log r
now_is_view w s k c r alone =
    ⊎_elim
    (λ (e : s.now r ≡ s.base r). ⊎_elim
    (λ (u : Untouched w s.base (s.conns c).log r). e ∙ sym u.0)
    (λ (u : BothVersions w s.base (s.conns c).log r). k.own c r (k.touched c r (s.base r) u.0))
    (open_versions w s k c r))
    (λ (h : (d : ℕ) × Has (Write r) (s.conns d).locks). k.own c r (subst (λ z. Has (Write r) (s.conns z).locks) (sym (alone h.0 h.1)) h.1))
    (k.still r)

-- a key of a row as the commits left it is a position
pub base_pos : (w : World) (s : State w) → Kept w s → (i : w.Index) (x : w.Key) → IsLive w s.scheme i s.base x → IsPos w s i x
base_pos w s k i x h =
    let r : w.Row = s.scheme.row_of i x in
    ⊎_elim
    (λ (e : s.now r ≡ s.base r). inl (ap (key_at w s.scheme i r) e ∙ h))
    (λ (o : (d : ℕ) × Has (Write r) (s.conns d).locks). ⊎_elim
    (λ (u : Untouched w s.base (s.conns o.0).log r). inl (ap (key_at w s.scheme i r) (k.own o.0 r o.1 ∙ u.0) ∙ h))
    (λ (u : BothVersions w s.base (s.conns o.0).log r). inr (o.0, s.base r, u.0, h))
    (open_versions w s k o.0 r))
    (k.still r)

-- a key that a transaction sees is a position
pub view_pos : (w : World) (s : State w) → Kept w s → (c : ℕ) (i : w.Index) (x : w.Key) → IsLive w s.scheme i (view w s.base (s.conns c).log) x → IsPos w s i x
view_pos w s k c i x h =
    let r : w.Row = s.scheme.row_of i x in
    ⊎_elim
    (λ (u : Untouched w s.base (s.conns c).log r). base_pos w s k i x (ap (key_at w s.scheme i r) (sym u.0) ∙ h))
    (λ (u : BothVersions w s.base (s.conns c).log r). inr (c, view w s.base (s.conns c).log r, u.1, h))
    (open_versions w s k c r)

-- there is one first position
pub first_once : (w : World) (s : State w) (i : w.Index) (cut : Cut w) (p q : Place w) → IsFirst w s i cut p → IsFirst w s i cut q → p ≡ q
first_once w s i cut End End a b = refl
first_once w s i cut (At p) End a b = absurd (b p a.0 a.1)
first_once w s i cut End (At q) a b = absurd (a q b.0 b.1)
first_once w s i cut (At p) (At q) a b =
    ⊎_elim
    (λ (e : p ≡ q). ap (λ z. At z) e)
    (λ d. ⊎_elim (λ (l : w.less p q ≡ true). absurd (b.2 p a.0 l a.1)) (λ (l : w.less q p ≡ true). absurd (a.2 q b.0 l b.1)) d)
    (w.order p q)

-- the first position stays the same where positions do
pub first_same : (w : World) (s t : State w) (i : w.Index) (cut : Cut w) (q : Place w) → ((y : w.Key) → IsPos w s i y → IsPos w t i y) → ((y : w.Key) → IsPos w t i y → IsPos w s i y) → IsFirst w s i cut q → IsFirst w t i cut q
first_same w s t i cut End to back h = λ y a pos. h y a (back y pos)
first_same w s t i cut (At p) to back h = (h.0, to p h.1, λ y a b pos. h.2 y a b (back y pos))

-- one position more: the first position stays, or is the new one, and then the old one was the first past it
pub insert_first : (w : World) (s t : State w) (i : w.Index) (cut : Cut w) (n : w.Key) (q : Place w) → IsCut w cut → ((y : w.Key) → IsPos w s i y → IsPos w t i y) → ((y : w.Key) → IsPos w t i y → IsPos w s i y ⊎ (y ≡ n)) → IsPos w t i n → IsFirst w s i cut q
    → IsFirst w t i cut q ⊎ (IsFirst w s i (upto w n) q × IsFirst w t i cut (At n))
insert_first w s t i cut n End mono to back new h =
    ⊎_elim
    (λ (l : cut n ≡ true). inl (λ y a pos. ⊎_elim (λ o. h y a o) (λ (e : y ≡ n). both_ways (cut y) a (subst (λ z. cut z ≡ true) (sym e) l)) (back y pos)))
    (λ (l : cut n ≡ false). inr (
      (λ y a pos. h y (above w cut mono n y l (not_false (w.less n y) a)) pos),
      (l, new, λ y a b pos. ⊎_elim (λ o. h y a o) (λ (e : y ≡ n). not_less_self w y n b e) (back y pos)),
    ))
    (cases_Bool (cut n))
insert_first w s t i cut n (At p) mono to back new h =
    ⊎_elim
    (λ (l : cut n ≡ true). inl (h.0, to p h.1, λ y a b pos. ⊎_elim (λ o. h.2 y a b o) (λ (e : y ≡ n). both_ways (cut y) a (subst (λ z. cut z ≡ true) (sym e) l)) (back y pos)))
    (λ (l : cut n ≡ false). ⊎_elim
    (λ (m : w.less n p ≡ true). inr (
      (from_true (w.less n p) m, h.1, λ y a b pos. h.2 y (above w cut mono n y l (not_false (w.less n y) a)) b pos),
      (l, new, λ y a b pos. ⊎_elim (λ o. h.2 y a (w.less_trans y n p b m) o) (λ (e : y ≡ n). not_less_self w y n b e) (back y pos)),
    ))
    (λ (m : w.less n p ≡ false). inl (
      h.0,
      to p h.1,
      λ y a b pos. ⊎_elim (λ o. h.2 y a b o) (λ (e : y ≡ n). both_ways (w.less n p) m (subst (λ z. w.less z p ≡ true) e b)) (back y pos),
    ))
    (cases_Bool (w.less n p)))
    (cases_Bool (cut n))

-- the first position not before a key is at the key, or it is the first past it
pub first_here : (w : World) (s : State w) (i : w.Index) (x : w.Key) (q : Place w) → IsFirst w s i (before w x) q → IsPos w s i x ⊎ IsFirst w s i (upto w x) q
first_here w s i x End h = inr (λ y a pos. h y (less_false w x y (not_false (w.less x y) a)) pos)
first_here w s i x (At p) h =
    ⊎_elim
    (λ (e : x ≡ p). inl (subst (IsPos w s i) (sym e) h.1))
    (λ (l : w.less x p ≡ true). inr (from_true (w.less x p) l, h.1, λ y a b pos. h.2 y (less_false w x y (not_false (w.less x y) a)) b pos))
    (le_cases w x p h.0)

-- a position is the first one not before itself
pub first_at : (w : World) (s : State w) (i : w.Index) (x : w.Key) → IsPos w s i x → IsFirst w s i (before w x) (At x)
first_at w s i x pos = (w.less_self x, pos, λ y a b p. both_ways (w.less y x) a b)
