-- The search up the levels, and the walk back down.
use Rattle.std.proofs.Common.{◌≡◌, ℕ, ◌+◌, ◌-◌, ◌<◌, ◌≤◌, zero, suc, true, false, List, [], ◌∷◌, ◌++◌, length, get_or, slice_get, map, filter, Some, refl, sym, ◌∙◌, ap, subst, inl, inr, ⊎_elim, ◌⊎◌, arith, append_assoc, length-append, add-one}
use Rattle.std.specs.Prelude.{◌==◌, ◌&&◌, All, Contains}
use Rattle.std.proofs.lemmas.Bool.{cases_order, and_parts, eqb-true, eq-eqb}
use Rattle.std.proofs.lemmas.Option.{get_or_from_slice_get}
use Rattle.wat_list.specs.Has.{Has}
use Rattle.wat_list.proofs.Members.{map_has, has_map, filter_has, has_filter}
use Rattle.wat_cycle.specs.declared.walk.Arc.{Arc}
use Rattle.wat_cycle.specs.Walk.{IsWalk, IsCycle, IsNamedCycle, ComesBefore}
use Rattle.wat_cycle.specs.Levels.{HasArc, has, leads, level, level_at, levels, BeginsIn, IsFound, IsNext}
use Rattle.wat_cycle.proofs.WalkLemmas.{IsLeastWalk, IsShortest, least_nil, least_cons, shortest_cycle, no_more}
use Rattle.wat_cycle.proofs.LevelLemmas.{level_walks, walks_level, leads_found, has_true, has_found}

has_at : (xs : List ℕ) (i d : ℕ) → i < length xs → Has (get_or xs i d) xs
has_at [] i d h = absurd (omega arith)
has_at (x ∷ xs) zero d h = inl refl
has_at (x ∷ xs) (suc i) d h = inr (has_at xs i d (omega arith))

at_has : (x : ℕ) (xs : List ℕ) → Has x xs → (k : ℕ) × (k < length xs) × (get_or xs k x ≡ x)
at_has x [] h = absurd h
at_has x (y ∷ xs) h =
    ⊎_elim (λ e. (0, omega arith, e)) (λ r. let deeper = at_has x xs r in (suc deeper.0, omega (arith, deeper.1), deeper.2)) h

-- n levels were looked at, and none has the connection
pub record IsSearched (arcs : List Arc) (nodes : List ℕ) (conn : ℕ) (below : List (List ℕ)) (here : List ℕ) (n : ℕ) : Type 0 where
  pub are : below ≡ levels arcs nodes conn n
  pub now : here ≡ level_at arcs nodes conn n
  pub none_before : (m : ℕ) → m < n → Has conn (level_at arcs nodes conn m) → ⊥

pub search_begins : (arcs : List Arc) (nodes : List ℕ) (conn : ℕ) (here : List ℕ) → here ≡ level arcs nodes (conn ∷ []) → IsSearched arcs nodes conn [] here 0
search_begins arcs nodes conn here is = record { are = refl; now = is; none_before = λ m l h. omega arith }

pub search_finds : (arcs : List Arc) (nodes : List ℕ) (conn : ℕ) (below : List (List ℕ)) (here : List ℕ) (n : ℕ) → IsSearched arcs nodes conn below here n → has here conn ≡ true → IsFound arcs nodes conn below
search_finds arcs nodes conn below here n is e = record {
  size = n;
  are = is.are;
  there = subst (λ (cs : List ℕ). Has conn cs) is.now (has_found here conn e);
  none_before = is.none_before;
}

pub search_goes_on : (arcs : List Arc) (nodes : List ℕ) (conn : ℕ) (below : List (List ℕ)) (here next : List ℕ) (n : ℕ) → IsSearched arcs nodes conn below here n → has here conn ≡ false → next ≡ level arcs nodes here → IsSearched arcs nodes conn (below ++ here ∷ []) next (n + 1)
search_goes_on arcs nodes conn below here next n is absent e = rw add-one record {
  are = ap (λ (ls : List (List ℕ)). ls ++ here ∷ []) is.are ∙ ap (λ (l : List ℕ). levels arcs nodes conn n ++ l ∷ []) is.now;
  now = e ∙ ap (level arcs nodes) is.now;
  none_before = before;
}
  where
    not_here : Has conn (level_at arcs nodes conn n) → ⊥
    not_here h = let found : has here conn ≡ true = has_true here conn (subst (λ (cs : List ℕ). Has conn cs) (sym is.now) h) in cc

    before : (m : ℕ) → m < suc n → Has conn (level_at arcs nodes conn m) → ⊥
    before m l h =
        ⊎_elim
        (λ (s : m ≡ n). not_here (subst (λ (k : ℕ). Has conn (level_at arcs nodes conn k)) s h))
        (λ d. ⊎_elim (λ (p : m < n). is.none_before m p h) (λ (p : n < m). omega arith) d)
        (cases_order m n)

-- the next one is among those that were found, and the least
pub next_found : (arcs : List Arc) (ends : List ℕ) (c d : ℕ) (found : List ℕ) → found ≡ map (λ (a : Arc). a.to) (filter (λ a. a.from == c && has ends a.to) arcs) → Contains found d → All (λ x. d ≤ x) found → IsNext arcs ends c d
next_found arcs ends c d found is there least = record { arc = of.0; goes_on = of.1; least = all }
  where
    of : HasArc arcs c d × Has d ends
    of =
        let in_found : Has d found = subst (λ (x : ℕ). Has x found) there.2 (has_at found there.0 d there.1) in
        let at = has_map (λ (a : Arc). a.to) d (filter (λ a. a.from == c && has ends a.to) arcs) (subst (λ (xs : List ℕ). Has d xs) is in_found) in
        let kept = has_filter (λ (a : Arc). a.from == c && has ends a.to) at.0 arcs at.1 in
        let both = and_parts (at.0.from == c) (has ends at.0.to) kept.1 in
        let from : at.0.from ≡ c = eqb-true at.0.from c both.0 in
        (subst (λ (x : Arc). Has x arcs) (λ i. record { from = from i; to = at.2 i }) kept.0, subst (λ (x : ℕ). Has x ends) at.2 (has_found ends at.0.to both.1))

    all : (x : ℕ) → HasArc arcs c x → Has x ends → d ≤ x
    all x arc h =
        let p : (c == c) ≡ true = eq-eqb c c refl in
        let q : has ends x ≡ true = has_true ends x h in
        let kept : Has (record { from = c; to = x }) (filter (λ a. a.from == c && has ends a.to) arcs) = filter_has (λ (a : Arc). a.from == c && has ends a.to) (record { from = c; to = x }) arcs arc (rw (p, q)) in
        let in_found : Has x found = subst (λ (xs : List ℕ). Has x xs) (sym is) (map_has (λ (a : Arc). a.to) (record { from = c; to = x }) (filter (λ a. a.from == c && has ends a.to) arcs) kept) in
        let at = at_has x found in_found in
        subst (λ (y : ℕ). d ≤ y) at.2 (least at.0 x at.1)

-- there is a next one
pub next_is : (arcs : List Arc) (ends : List ℕ) (c : ℕ) (found : List ℕ) → found ≡ map (λ (a : Arc). a.to) (filter (λ a. a.from == c && has ends a.to) arcs) → leads arcs ends c ≡ true → found ≡ [] → ⊥
next_is arcs ends c found is e none =
    let to = leads_found arcs ends c e in
    let p : (c == c) ≡ true = eq-eqb c c refl in
    let q : has ends to.0 ≡ true = has_true ends to.0 to.2 in
    let kept : Has (record { from = c; to = to.0 }) (filter (λ a. a.from == c && has ends a.to) arcs) = filter_has (λ (a : Arc). a.from == c && has ends a.to) (record { from = c; to = to.0 }) arcs to.1 (rw (p, q)) in
    subst (λ (xs : List ℕ). Has to.0 xs) (sym is ∙ none) (map_has (λ (a : Arc). a.to) (record { from = c; to = to.0 }) (filter (λ a. a.from == c && has ends a.to) arcs) kept)

-- the path leads to `at`, from where the walk has `left` members to go
pub record IsWalkedBack (arcs : List Arc) (nodes : List ℕ) (conn size : ℕ) (path : List ℕ) (at left : ℕ) : Type 0 where
  pub goes : Has at (level_at arcs nodes conn left)
  pub whole : (rest : List ℕ) → IsLeastWalk (HasArc arcs) at left rest conn → IsLeastWalk (HasArc arcs) conn size (path ++ rest) conn

pub walked_more : (arcs : List Arc) (nodes : List ℕ) (conn size : ℕ) (path : List ℕ) (at next left : ℕ) → BeginsIn arcs nodes → IsWalkedBack arcs nodes conn size path at (left + 1) → IsNext arcs (level_at arcs nodes conn left) at next → IsWalkedBack arcs nodes conn size (path ++ next ∷ []) next left
walked_more arcs nodes conn size path at next left begins is to = record {
  goes = to.goes_on;
  whole = λ rest least.
      subst (λ (cs : List ℕ). IsLeastWalk (HasArc arcs) conn size cs conn) (sym (append_assoc path (next ∷ []) rest))
      (is.whole (next ∷ rest) (least_cons (HasArc arcs) at left next rest conn to.arc (λ x arc walks. to.least x arc (walks_level arcs nodes conn begins left x walks)) least));
}

append_nil : {A : Type 0} (xs : List A) → xs ++ [] ≡ xs
append_nil [] = refl
append_nil {A} (x ∷ xs) = ap (λ (ys : List A). x ∷ ys) (append_nil xs)

-- the whole walk
pub walked_all : (arcs : List Arc) (nodes : List ℕ) (conn size : ℕ) (path : List ℕ) (at : ℕ) → IsWalkedBack arcs nodes conn size path at 0 → IsLeastWalk (HasArc arcs) conn size path conn
walked_all arcs nodes conn size path at is =
    let last = level_walks arcs nodes conn 0 at is.goes in
    subst (λ (cs : List ℕ). IsLeastWalk (HasArc arcs) conn size cs conn) (append_nil path) (is.whole [] (least_nil (HasArc arcs) at conn (direct last.0 last.1 last.2)))
  where
    direct : (cs : List ℕ) → length cs ≡ 0 → IsWalk (HasArc arcs) at cs conn → HasArc arcs at conn
    direct [] l w = w
    direct (x ∷ xs) l w = absurd (omega arith)

-- the least walk at the first level that has the connection is the cycle that is named
pub named_from_least : (arcs : List Arc) (nodes : List ℕ) (conn size : ℕ) (path : List ℕ) → BeginsIn arcs nodes → ((n : ℕ) → n < size → Has conn (level_at arcs nodes conn n) → ⊥) → IsLeastWalk (HasArc arcs) conn size path conn → IsNamedCycle (HasArc arcs) conn path
named_from_least arcs nodes conn size path begins none is = record {
  cycle = shortest_cycle (HasArc arcs) conn path is.walk short;
  first = λ ds cycle. by ds cycle.0 (cases_order size (length ds));
}
  where
    short : IsShortest (HasArc arcs) conn path conn
    short ds walk =
        ⊎_elim
        (λ (s : size ≡ length ds). omega (arith, is.size))
        (λ d. ⊎_elim (λ (l : size < length ds). omega (arith, is.size)) (λ (l : length ds < size). absurd (none (length ds) l (walks_level arcs nodes conn begins (length ds) conn (ds, refl, walk)))) d)
        (cases_order size (length ds))

    by : (ds : List ℕ) → IsWalk (HasArc arcs) conn ds conn → (size ≡ length ds) ⊎ ((size < length ds) ⊎ (length ds < size)) → ComesBefore path ds
    by ds walk order =
        ⊎_elim
        (λ (s : size ≡ length ds). inr (is.size ∙ s, is.least ds (sym s) walk))
        (λ d. ⊎_elim (λ (l : size < length ds). inl (omega (arith, is.size))) (λ (l : length ds < size). absurd (none (length ds) l (walks_level arcs nodes conn begins (length ds) conn (ds, refl, walk)))) d)
        order

members_begin : (arcs : List Arc) (nodes : List ℕ) → BeginsIn arcs nodes → (c : ℕ) (cs : List ℕ) (d : ℕ) → IsWalk (HasArc arcs) c cs d → (x : ℕ) → Has x (c ∷ cs) → Has x nodes
members_begin arcs nodes begins c [] d walk x h = ⊎_elim (λ (e : c ≡ x). subst (λ (y : ℕ). Has y nodes) e (begins c d walk)) (λ n. absurd n) h
members_begin arcs nodes begins c (y ∷ ys) d walk x h =
    ⊎_elim (λ (e : c ≡ x). subst (λ (y : ℕ). Has y nodes) e (begins c y walk.0)) (λ r. members_begin arcs nodes begins y ys d walk.1 x r) h

-- a cycle is no longer than the list of nodes
pub none_at_all : (arcs : List Arc) (nodes : List ℕ) (conn : ℕ) → BeginsIn arcs nodes → ((n : ℕ) → n < length nodes → Has conn (level_at arcs nodes conn n) → ⊥) → (cs : List ℕ) → IsCycle (HasArc arcs) conn cs → ⊥
none_at_all arcs nodes conn begins none cs cycle =
    let fits : length (conn ∷ cs) ≤ length nodes = no_more (conn ∷ cs) nodes cycle.1 (members_begin arcs nodes begins conn cs conn cycle.0) in
    none (length cs) (omega arith) (walks_level arcs nodes conn begins (length cs) conn (cs, refl, cycle.0))

pub length-levels : (arcs : List Arc) (nodes : List ℕ) (conn n : ℕ) → length (levels arcs nodes conn n) ≡ n
length-levels arcs nodes conn zero = refl
length-levels arcs nodes conn (suc n) = omega (arith, length-levels arcs nodes conn n, length-append (levels arcs nodes conn n) (level_at arcs nodes conn n ∷ []))

get_front : {A : Type 0} (xs ys : List A) (i : ℕ) → i < length xs → slice_get (xs ++ ys) i ≡ slice_get xs i
get_front [] ys i l = absurd (omega arith)
get_front (x ∷ xs) ys zero l = refl
get_front (x ∷ xs) ys (suc i) l = get_front xs ys i (omega arith)

get_seam : {A : Type 0} (xs : List A) (y : A) (ys : List A) → slice_get (xs ++ y ∷ ys) (length xs) ≡ Some y
get_seam [] y ys = refl
get_seam (x ∷ xs) y ys = get_seam xs y ys

pub get-levels : (arcs : List Arc) (nodes : List ℕ) (conn n i : ℕ) → i < n → slice_get (levels arcs nodes conn n) i ≡ Some (level_at arcs nodes conn i)
get-levels arcs nodes conn zero i l = absurd (omega arith)
get-levels arcs nodes conn (suc n) i l =
    let size = length-levels arcs nodes conn n in
    ⊎_elim
    (λ (s : i ≡ n).
    let e : i ≡ length (levels arcs nodes conn n) = omega arith in
    subst (λ (k : ℕ). slice_get (levels arcs nodes conn (suc n)) i ≡ Some (level_at arcs nodes conn k)) (sym s)
    (ap (slice_get (levels arcs nodes conn (suc n))) e ∙ get_seam (levels arcs nodes conn n) (level_at arcs nodes conn n) []))
    (λ d. ⊎_elim (λ (p : i < n). get_front (levels arcs nodes conn n) (level_at arcs nodes conn n ∷ []) i (omega arith) ∙ get-levels arcs nodes conn n i p) (λ (p : n < i). absurd (omega arith)) d)
    (cases_order i n)

module _ (arcs : List Arc) (nodes : List ℕ) (conn : ℕ) (found : List (List ℕ)) (begins : BeginsIn arcs nodes) (is : IsFound arcs nodes conn found) where
  size_is : length found ≡ is.size
  size_is = ap length is.are ∙ length-levels arcs nodes conn is.size

  pub walk_begins : IsWalkedBack arcs nodes conn (length found) [] conn (length found)
  walk_begins = record { goes = subst (λ (n : ℕ). Has conn (level_at arcs nodes conn n)) (sym size_is) is.there; whole = λ rest h. h }

  pub level_here : (left : ℕ) (here : List ℕ) → 0 < left → left ≤ length found → here ≡ get_or found (left - 1) here → here ≡ level_at arcs nodes conn (left - 1)
  level_here left here some within e =
      e ∙ get_or_from_slice_get found (left - 1) (level_at arcs nodes conn (left - 1)) here (ap (λ (ls : List (List ℕ)). slice_get ls (left - 1)) is.are ∙ get-levels arcs nodes conn is.size (left - 1) (omega (arith, size_is)))

  pub walk_leads : (path : List ℕ) (at left : ℕ) → 0 < left → IsWalkedBack arcs nodes conn (length found) path at left → leads arcs (level_at arcs nodes conn (left - 1)) at ≡ true
  walk_leads path at left some back =
      let up : left ≡ suc (left - 1) = omega arith in
      (has_filter (leads arcs (level_at arcs nodes conn (left - 1))) at nodes (subst (λ (n : ℕ). Has at (level_at arcs nodes conn n)) up back.goes)).1

  pub walk_step : (path : List ℕ) (at next left : ℕ) → 0 < left → IsWalkedBack arcs nodes conn (length found) path at left → IsNext arcs (level_at arcs nodes conn (left - 1)) at next → IsWalkedBack arcs nodes conn (length found) (path ++ next ∷ []) next (left - 1)
  walk_step path at next left some back to =
      let up : left ≡ (left - 1) + 1 = omega arith in
      walked_more arcs nodes conn (length found) path at next (left - 1) begins (subst (λ (n : ℕ). IsWalkedBack arcs nodes conn (length found) path at n) up back) to

  pub walk_ends : (path : List ℕ) (at left : ℕ) → left ≤ 0 → IsWalkedBack arcs nodes conn (length found) path at left → IsNamedCycle (HasArc arcs) conn path
  walk_ends path at left none back =
      let done : left ≡ 0 = omega arith in
      named_from_least arcs nodes conn (length found) path begins (λ n l h. is.none_before n (omega (arith, size_is)) h)
      (walked_all arcs nodes conn (length found) path at (subst (λ (n : ℕ). IsWalkedBack arcs nodes conn (length found) path at n) done back))
