-- Arcs to blockers, added one by one.
use Rattle.std.proofs.Common.{◌≡◌, ℕ, List, [], ◌∷◌, ◌++◌, map, refl, sym, ◌∙◌, ap, subst, inl, inr, ⊎_elim, Option, Some, None, Result, Ok, Err}
use Rattle.std.specs.Prelude.{◌↔◌, IfOk, MatchOption, IsTrue, is_some}
use Rattle.std.specs.declared.alloc.AllocError.{AllocError}
use Rattle.wat_list.specs.Has.{Has}
use Rattle.wat_list.proofs.Members.{has_left, has_right, has_cases, map_has}
use Rattle.wat_locks.specs.declared.held.Held.{Held}
use Rattle.wat_locks.specs.declared.held.Against.{Against}
use Rattle.wat_locks.specs.Held.{AreFree, Named, held_of}
use Rattle.wat_cycle.specs.declared.request.Request.{Request}
use Rattle.wat_cycle.specs.declared.walk.Arc.{Arc}
use Rattle.wat_cycle.specs.Arcs.{MoreArcs}
use Rattle.wat_cycle.specs.Levels.{HasArc, BeginsIn}
use Rattle.wat_cycle.specs.Waits.{Blocks}
use Rattle.wat_cycle.specs.Walk.{IsCycle, IsNamedCycle}
use Rattle.wat_cycle.proofs.BlockLemmas.{named_blocks, cycle_over, named_over}
use Rattle.wat_cycle.proofs.EdgeLemmas.{is_free_of}

pub no_requests : (held : List Held) (nodes : List ℕ) (arcs : List Arc) → MoreArcs held [] nodes arcs arcs
no_requests held nodes arcs c d = (λ h. inl h, λ h. ⊎_elim (λ p. p) (λ (q : Has d nodes × Blocks held [] c d). absurd q.1.3) h)

pub no_nodes : (held : List Held) (requests : List Request) (arcs : List Arc) → MoreArcs held requests [] arcs arcs
no_nodes held requests arcs c d = (λ h. inl h, λ h. ⊎_elim (λ p. p) (λ q. absurd q.0) h)

pub one_node_more : (held : List Held) (requests : List Request) (nodes : List ℕ) (n : ℕ) (a b e : List Arc)
    → MoreArcs held requests nodes a b → MoreArcs held requests (n ∷ []) b e → MoreArcs held requests (nodes ++ n ∷ []) a e
one_node_more held requests nodes n a b e x y c d = (
  λ h. ⊎_elim
      (λ p. ⊎_elim (λ q. inl q) (λ (q : Has d nodes × Blocks held requests c d). inr (has_left d nodes (n ∷ []) q.0, q.1)) ((x c d).0 p))
      (λ (p : Has d (n ∷ []) × Blocks held requests c d). inr (has_right d nodes (n ∷ []) p.0, p.1))
      ((y c d).0 h),
  λ h. ⊎_elim
      (λ p. (y c d).1 (inl ((x c d).1 (inl p))))
      (λ (p : Has d (nodes ++ n ∷ []) × Blocks held requests c d). ⊎_elim (λ q. (y c d).1 (inl ((x c d).1 (inr (q, p.1))))) (λ q. (y c d).1 (inr (q, p.1))) (has_cases d nodes (n ∷ []) p.0))
      h,
)

pub one_request_more : (held : List Held) (requests : List Request) (r : Request) (nodes : List ℕ) (a b e : List Arc)
    → MoreArcs held requests nodes a b → MoreArcs held (r ∷ []) nodes b e → MoreArcs held (requests ++ r ∷ []) nodes a e
one_request_more held requests r nodes a b e x y c d = (
  λ h. ⊎_elim
      (λ p. ⊎_elim (λ q. inl q) (λ (q : Has d nodes × Blocks held requests c d). inr (q.0, early q.1)) ((x c d).0 p))
      (λ (p : Has d nodes × Blocks held (r ∷ []) c d). inr (p.0, late p.1))
      ((y c d).0 h),
  λ h. ⊎_elim
      (λ p. (y c d).1 (inl ((x c d).1 (inl p))))
      (λ (p : Has d nodes × Blocks held (requests ++ r ∷ []) c d).
      let k = p.1 in
      ⊎_elim
      (λ q. (y c d).1 (inl ((x c d).1 (inr (p.0, (k.0, k.1, k.2, q, k.4, k.5, k.6, k.7, k.8))))))
      (λ q. (y c d).1 (inr (p.0, (k.0, k.1, k.2, q, k.4, k.5, k.6, k.7, k.8))))
      (has_cases k.0 requests (r ∷ []) k.3))
      h,
)
  where
    early : Blocks held requests c d → Blocks held (requests ++ r ∷ []) c d
    early k = (k.0, k.1, k.2, has_left k.0 requests (r ∷ []) k.3, k.4, k.5, k.6, k.7, k.8)

    late : Blocks held (r ∷ []) c d → Blocks held (requests ++ r ∷ []) c d
    late k = (k.0, k.1, k.2, has_right k.0 requests (r ∷ []) k.3, k.4, k.5, k.6, k.7, k.8)

abbrev arc : ℕ → ℕ → Arc
arc c d = record { from = c; to = d }

-- a node that blocks the request
pub blocked_arc : (held : List Held) (r : Request) (n : ℕ) (arcs : List Arc) → Blocks held (r ∷ []) r.conn n
    → MoreArcs held (r ∷ []) (n ∷ []) arcs (arcs ++ record { from = r.conn; to = n } ∷ [])
blocked_arc held r n arcs blocks c d = (
  λ h. ⊎_elim
      (λ p. inl p)
      (λ q. ⊎_elim
      (λ (e : arc r.conn n ≡ arc c d). inr (inl (ap (λ (x : Arc). x.to) e), subst (λ (x : Arc). Blocks held (r ∷ []) x.from x.to) e blocks))
      (λ z. absurd z)
      q)
      (has_cases (arc c d) arcs (arc r.conn n ∷ []) h),
  λ h. ⊎_elim
      (λ p. has_left (arc c d) arcs (arc r.conn n ∷ []) p)
      (λ (p : Has d (n ∷ []) × Blocks held (r ∷ []) c d). has_right (arc c d) arcs (arc r.conn n ∷ []) (inl (same (whose p.1) (which p.0))))
      h,
)
  where
    which : Has d (n ∷ []) → n ≡ d
    which h = ⊎_elim (λ e. e) (λ z. absurd z) h

    whose : Blocks held (r ∷ []) c d → r.conn ≡ c
    whose k = ⊎_elim (λ (e : r ≡ k.0). ap (λ (x : Request). x.conn) e ∙ k.4) (λ z. absurd z) k.3

    same : r.conn ≡ c → n ≡ d → arc r.conn n ≡ arc c d
    same e f = λ i. record { from = e i; to = f i }

-- a node that does not
pub free_arc : (held : List Held) (r : Request) (n : ℕ) (arcs : List Arc) → (Blocks held (r ∷ []) r.conn n → ⊥) → MoreArcs held (r ∷ []) (n ∷ []) arcs arcs
free_arc held r n arcs free c d = (
  λ h. inl h,
  λ h. ⊎_elim (λ p. p) (λ (p : Has d (n ∷ []) × Blocks held (r ∷ []) c d). absurd (not_one p.0 p.1)) h,
)
  where
    not_one : Has d (n ∷ []) → Blocks held (r ∷ []) c d → ⊥
    not_one h k = ⊎_elim
        (λ (n_is : n ≡ d). ⊎_elim
        (λ (e : r ≡ k.0).
        let c_is : c ≡ r.conn = sym (ap (λ (x : Request). x.conn) e ∙ k.4) in
        free (subst (λ (x : ℕ). Blocks held (r ∷ []) r.conn x) (sym n_is) (subst (λ (x : ℕ). Blocks held (r ∷ []) x d) c_is k)))
        (λ z. z)
        k.3)
        (λ z. z)
        h

-- what is named tells whether the node blocks the request
pub decides : (held : List Held) (r : Request) (n : ℕ) (found : Option Against) → MatchOption found (AreFree (held_of n held) r.conn r.wants) (Named (held_of n held) r.conn r.wants) → IsTrue (is_some found) ↔ Blocks held (r ∷ []) r.conn n
decides held r n None free = (λ h. absurd (cc), λ k. absurd (is_free_of held r r.conn n free k))
decides held r n (Some a) named = (λ h. named_blocks held (r ∷ []) r n a (inl refl) named, λ k. refl)

-- arcs to all blockers that wait themselves are as good as the blockers
module _ (held : List Held) (requests : List Request) (nodes : List ℕ) (arcs : List Arc) (are : nodes ≡ map (λ (r : Request). r.conn) requests) (more : MoreArcs held requests nodes [] arcs) where
  begins : (x y : ℕ) → Blocks held requests x y → Has x nodes
  begins x y k = subst (λ (ns : List ℕ). Has x ns) (sym are) (subst (λ (z : ℕ). Has z (map (λ (r : Request). r.conn) requests)) k.4 (map_has (λ (r : Request). r.conn) k.0 requests k.3))

  over : (x y : ℕ) → Has y nodes → Blocks held requests x y → HasArc arcs x y
  over x y n k = (more x y).1 (inr (n, k))

  less : (x y : ℕ) → HasArc arcs x y → Blocks held requests x y
  less x y h = ⊎_elim (λ z. absurd z) (λ (p : Has y nodes × Blocks held requests x y). p.1) ((more x y).0 h)

  pub begins_in : BeginsIn arcs nodes
  begins_in c d h = begins c d (less c d h)

  abbrev FoundBy : (ℕ → ℕ → Type 0) → ℕ → Option (List ℕ) → Type 0
  FoundBy E conn found = MatchOption found ((cs : List ℕ) → IsCycle E conn cs → ⊥) (IsNamedCycle E conn)

  found_over : (conn : ℕ) (found : Option (List ℕ)) → FoundBy (HasArc arcs) conn found → FoundBy (Blocks held requests) conn found
  found_over conn None none = λ cs cycle. none cs (cycle_over (HasArc arcs) (Blocks held requests) (λ d. Has d nodes) begins over conn cs cycle)
  found_over conn (Some cs) is = named_over (HasArc arcs) (Blocks held requests) (λ d. Has d nodes) begins over less conn cs is

  pub result_over : (conn : ℕ) (r : Result (Option (List ℕ)) AllocError) → IfOk r (FoundBy (HasArc arcs) conn) → IfOk r (FoundBy (Blocks held requests) conn)
  result_over conn (Ok found) is = found_over conn found is
  result_over conn (Err e) is = tt
