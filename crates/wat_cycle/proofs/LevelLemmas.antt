-- What the levels hold.
use Rattle.std.proofs.Common.{◌≡◌, ℕ, zero, suc, Bool, true, false, List, [], ◌∷◌, length, refl, sym, ◌∙◌, ap, subst, inl, inr, ⊎_elim, arith}
use Rattle.std.specs.Prelude.{◌==◌, ◌&&◌, ◌||◌}
use Rattle.std.specs.List.{list_any}
use Rattle.std.proofs.lemmas.Bool.{and_parts, eqb-true, eq-eqb}
use Rattle.wat_list.specs.Has.{Has}
use Rattle.wat_list.proofs.Members.{filter_has, has_filter}
use Rattle.wat_cycle.specs.declared.walk.Arc.{Arc}
use Rattle.wat_cycle.specs.Walk.{IsWalk}
use Rattle.wat_cycle.specs.Levels.{HasArc, has, leads, level_at, BeginsIn}
use Rattle.wat_cycle.proofs.WalkLemmas.{Walks}

-- a test that one of them passes
any_true : {A : Type 0} (p : A → Bool) (xs : List A) (x : A) → Has x xs → p x ≡ true → list_any p xs ≡ true
any_true p [] x h e = absurd h
any_true {A} p (y ∷ xs) x h e =
    ⊎_elim
    (λ (s : y ≡ x). let q : p y ≡ true = ap p s ∙ e in rw q refl)
    (λ r. let deeper = any_true p xs x r e in or_right (p y) (list_any p xs) deeper)
    h
  where
    or_right : (a b : Bool) → b ≡ true → (a || b) ≡ true
    or_right true b e = refl
    or_right false b e = e

any_found : {A : Type 0} (p : A → Bool) (xs : List A) → list_any p xs ≡ true → (x : A) × Has x xs × (p x ≡ true)
any_found p [] e = absurd (cc)
any_found {A} p (y ∷ xs) e = by (p y) refl (λ f. any_found p xs f) e
  where
    by : (b : Bool) → p y ≡ b → (list_any p xs ≡ true → (x : A) × Has x xs × (p x ≡ true)) → (b || list_any p xs) ≡ true → (x : A) × Has x (y ∷ xs) × (p x ≡ true)
    by true q deeper f = (y, inl refl, q)
    by false q deeper f = let found = deeper f in (found.0, inr found.1, found.2)

pub has_true : (xs : List ℕ) (x : ℕ) → Has x xs → has xs x ≡ true
has_true xs x h = any_true (λ y. y == x) xs x h (eq-eqb x x refl)

pub has_found : (xs : List ℕ) (x : ℕ) → has xs x ≡ true → Has x xs
has_found xs x e = let found = any_found (λ y. y == x) xs e in subst (λ (y : ℕ). Has y xs) (eqb-true found.0 x found.2) found.1

pub leads_true : (arcs : List Arc) (ends : List ℕ) (c d : ℕ) → HasArc arcs c d → Has d ends → leads arcs ends c ≡ true
leads_true arcs ends c d arc there =
    any_true (λ a. a.from == c && has ends a.to) arcs (record { from = c; to = d }) arc
    (let p : (c == c) ≡ true = eq-eqb c c refl in let q : has ends d ≡ true = has_true ends d there in rw (p, q))

pub leads_found : (arcs : List Arc) (ends : List ℕ) (c : ℕ) → leads arcs ends c ≡ true → (d : ℕ) × HasArc arcs c d × Has d ends
leads_found arcs ends c e =
    let found = any_found (λ a. a.from == c && has ends a.to) arcs e in
    let both = and_parts (found.0.from == c) (has ends found.0.to) found.2 in
    let from : found.0.from ≡ c = eqb-true found.0.from c both.0 in
    (found.0.to, subst (λ (x : ℕ). Has (record { from = x; to = found.0.to }) arcs) from found.1, has_found ends found.0.to both.1)

pub level_walks : (arcs : List Arc) (nodes : List ℕ) (conn : ℕ) → (n : ℕ) (c : ℕ) → Has c (level_at arcs nodes conn n) → Walks (HasArc arcs) n c conn
level_walks arcs nodes conn zero c h =
    let found = leads_found arcs (conn ∷ []) c (has_filter (leads arcs (conn ∷ [])) c nodes h).1 in
    ([], refl, ⊎_elim (λ (e : conn ≡ found.0). subst (λ (d : ℕ). HasArc arcs c d) (sym e) found.1) (λ n. absurd n) found.2)
level_walks arcs nodes conn (suc n) c h =
    let found = leads_found arcs (level_at arcs nodes conn n) c (has_filter (leads arcs (level_at arcs nodes conn n)) c nodes h).1 in
    let rest = level_walks arcs nodes conn n found.0 found.2 in
    (found.0 ∷ rest.0, omega (arith, rest.1), (found.1, rest.2))

pub walks_level : (arcs : List Arc) (nodes : List ℕ) (conn : ℕ) → BeginsIn arcs nodes → (n : ℕ) (c : ℕ) → Walks (HasArc arcs) n c conn → Has c (level_at arcs nodes conn n)
walks_level arcs nodes conn begins zero c walks = by walks.0 walks.1 walks.2
  where
    by : (cs : List ℕ) → length cs ≡ 0 → IsWalk (HasArc arcs) c cs conn → Has c (level_at arcs nodes conn 0)
    by [] l w = filter_has (leads arcs (conn ∷ [])) c nodes (begins c conn w) (leads_true arcs (conn ∷ []) c conn w (inl refl))
    by (x ∷ xs) l w = absurd (omega arith)
walks_level arcs nodes conn begins (suc n) c walks = by (λ d w. walks_level arcs nodes conn begins n d w) walks.0 walks.1 walks.2
  where
    by : ((d : ℕ) → Walks (HasArc arcs) n d conn → Has d (level_at arcs nodes conn n)) → (cs : List ℕ) → length cs ≡ suc n → IsWalk (HasArc arcs) c cs conn → Has c (level_at arcs nodes conn (suc n))
    by deeper [] l w = absurd (omega arith)
    by deeper (x ∷ xs) l w =
        filter_has (leads arcs (level_at arcs nodes conn n)) c nodes (begins c x w.0) (leads_true arcs (level_at arcs nodes conn n) c x w.0 (deeper x (xs, omega arith, w.1)))
