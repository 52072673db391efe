-- Changes that several hands make and take back, one beside the other.
use Rattle.std.proofs.Common.{◌≡◌, ℕ, zero, suc, List, [], ◌∷◌, Option, Some}

-- Changes of a state. Each that is made can be taken back, and two of which each leaves alone what the other changes can be made in either order.
pub record Moves (T C : Type 0) : Type 1 where
  -- what a change makes of a state, where it applies
  pub made : C → T → Option T
  pub back : C → C
  pub Good : T → Type 0
  pub Apart : C → C → Type 0
  pub keeps : (c : C) (t u : T) → Good t → made c t ≡ Some u → Good u
  pub returns : (c : C) (t u : T) → Good t → made c t ≡ Some u → made (back c) u ≡ Some t
  pub twice : (c : C) → back (back c) ≡ c
  pub apart_back : (a b : C) (t u : T) → Good t → made a t ≡ Some u → Apart b a → Apart b (back a)
  pub swaps : (a b : C) (t u v : T) → Apart a b → Good t → made a t ≡ Some u → made b u ≡ Some v → (w : T) × (made b t ≡ Some w) × (made a w ≡ Some v)

-- The changes, the first of them first, lead from one state to another.
abbrev pub Leads : {T C : Type 0} → Moves T C → List C → T → T → Type 0
Leads m [] t u = t ≡ u
Leads m (c ∷ cs) t v = (u : _) × (m.made c t ≡ Some u) × Leads m cs u v

-- Of the changes of the first n hands, one hand after another, each is taken back, the last of a hand first.
abbrev pub TakesBack : {T C : Type 0} → Moves T C → (ℕ → List C) → ℕ → T → T → Type 0
TakesBack m lists zero t u = t ≡ u
TakesBack m lists (suc n) t u = (v : _) × TakesBack m lists n t v × m.Good u × Leads m (lists n) u v

-- the change is apart from each of these
abbrev pub ApartFrom : {T C : Type 0} → Moves T C → C → List C → Type 0
ApartFrom m c [] = Unit {0}
ApartFrom m c (d ∷ ds) = m.Apart d c × ApartFrom m c ds

-- each of the ones is apart from each of the others
abbrev pub AllApart : {T C : Type 0} → Moves T C → List C → List C → Type 0
AllApart m [] ds = Unit {0}
AllApart m (c ∷ cs) ds = ApartFrom m c ds × AllApart m cs ds
