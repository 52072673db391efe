-- Edges of the named cycle, added one by one.
use Rattle.std.proofs.Common.{◌≡◌, ◌≢◌, ℕ, List, [], ◌∷◌, ◌++◌, map, refl, sym, ◌∙◌, ap, subst, inl, inr, ⊎_elim, append_assoc}
use Rattle.std.proofs.lemmas.List.{map-append}
use Rattle.std.proofs.lemmas.Bool.{eqb-true}
use Rattle.std.specs.Prelude.{◌==◌}
use Rattle.wat_list.specs.Has.{Has}
use Rattle.wat_list.proofs.Members.{has_cases, has_filter}
use Rattle.wat_locks.specs.declared.held.Held.{Held}
use Rattle.wat_locks.specs.declared.held.Against.{Against}
use Rattle.wat_locks.specs.declared.want.Want.{Want}
use Rattle.wat_locks.specs.Held.{AreFree, Named, Opposes, IsLeastOpposing, against, held_of}
use Rattle.wat_cycle.specs.declared.request.Request.{Request}
use Rattle.wat_cycle.specs.declared.request.Edge.{Edge}
use Rattle.wat_cycle.specs.Arcs.{IsEdgeOf}
use Rattle.wat_cycle.specs.Waits.{Blocks, IsEdge, AreNamedEdges}
use Rattle.wat_cycle.specs.Walk.{IsWalk, IsNamedCycle}
use Rattle.wat_cycle.proofs.BlockLemmas.{free_blocks_not}

-- edges from the connection as far as here, and the walk that is left
pub record HasEdges (held : List Held) (requests : List Request) (conn : ℕ) (others : List ℕ) (edges : List Edge) (here : ℕ) (left : List ℕ) : Type 0 where
  pub from : map (λ (e : Edge). e.from) edges ++ here ∷ left ≡ conn ∷ others
  pub to : map (λ (e : Edge). e.to) edges ++ left ≡ others
  pub walk : IsWalk (Blocks held requests) here left conn
  pub locks : (e : Edge) → Has e edges → IsEdge held requests e

pub no_edges : (held : List Held) (requests : List Request) (conn : ℕ) (others : List ℕ) → IsNamedCycle (Blocks held requests) conn others → HasEdges held requests conn others [] conn others
no_edges held requests conn others is = record { from = refl; to = refl; walk = is.cycle.0; locks = λ e h. absurd h }

with_edge : (held : List Held) (requests : List Request) (edges : List Edge) (e : Edge) → ((x : Edge) → Has x edges → IsEdge held requests x) → IsEdge held requests e → (x : Edge) → Has x (edges ++ e ∷ []) → IsEdge held requests x
with_edge held requests edges e all one x h =
    ⊎_elim (λ p. all x p) (λ q. ⊎_elim (λ (s : e ≡ x). subst (λ (y : Edge). IsEdge held requests y) s one) (λ z. absurd z) q) (has_cases x edges (e ∷ []) h)

pub edge_more : (held : List Held) (requests : List Request) (conn : ℕ) (others : List ℕ) (edges : List Edge) (here next : ℕ) (left : List ℕ) (e : Edge)
    → HasEdges held requests conn others edges here (next ∷ left) → (e.from ≡ here) × (e.to ≡ next) → IsEdge held requests e → HasEdges held requests conn others (edges ++ e ∷ []) next left
edge_more held requests conn others edges here next left e so_far ends is = record {
  from = ap (λ (xs : List ℕ). xs ++ next ∷ left) (map-append (λ (x : Edge). x.from) edges (e ∷ []))
      ∙ append_assoc (map (λ (x : Edge). x.from) edges) (e.from ∷ []) (next ∷ left)
      ∙ ap (λ (z : ℕ). map (λ (x : Edge). x.from) edges ++ z ∷ next ∷ left) ends.0
      ∙ so_far.from;
  to = ap (λ (xs : List ℕ). xs ++ left) (map-append (λ (x : Edge). x.to) edges (e ∷ []))
      ∙ append_assoc (map (λ (x : Edge). x.to) edges) (e.to ∷ []) left
      ∙ ap (λ (z : ℕ). map (λ (x : Edge). x.to) edges ++ z ∷ left) ends.1
      ∙ so_far.to;
  walk = so_far.walk.1;
  locks = with_edge held requests edges e so_far.locks is;
}

append-nil : (xs : List ℕ) → xs ++ [] ≡ xs
append-nil [] = refl
append-nil (x ∷ xs) = ap (λ (ys : List ℕ). x ∷ ys) (append-nil xs)

pub edges_done : (held : List Held) (requests : List Request) (conn : ℕ) (others : List ℕ) (edges : List Edge) (here : ℕ) (e : Edge)
    → IsNamedCycle (Blocks held requests) conn others → HasEdges held requests conn others edges here [] → (e.from ≡ here) × (e.to ≡ conn) → IsEdge held requests e → AreNamedEdges held requests conn (edges ++ e ∷ [])
edges_done held requests conn others edges here e cycle so_far ends is = record {
  others = others;
  cycle = cycle;
  from = map-append (λ (x : Edge). x.from) edges (e ∷ []) ∙ ap (λ (z : ℕ). map (λ (x : Edge). x.from) edges ++ z ∷ []) ends.0 ∙ so_far.from;
  to = map-append (λ (x : Edge). x.to) edges (e ∷ [])
      ∙ ap (λ (z : ℕ). map (λ (x : Edge). x.to) edges ++ z ∷ []) ends.1
      ∙ ap (λ (xs : List ℕ). xs ++ conn ∷ []) (sym (append-nil (map (λ (x : Edge). x.to) edges)) ∙ so_far.to);
  locks = with_edge held requests edges e so_far.locks is;
}

-- the requests that are left, one of which has the blocker
pub record StillBlocks (held : List Held) (requests left : List Request) (c d : ℕ) : Type 0 where
  pub blocks : Blocks held left c d
  pub among : (r : Request) → Has r left → Has r requests

pub all_left : (held : List Held) (requests : List Request) (c d : ℕ) → Blocks held requests c d → StillBlocks held requests requests c d
all_left held requests c d blocks = record { blocks = blocks; among = λ r h. h }

pub none_left : (held : List Held) (requests : List Request) (c d : ℕ) → StillBlocks held requests [] c d → ⊥
none_left held requests c d still = still.blocks.3

-- the first request that is left does not have it
pub not_it : (held : List Held) (requests : List Request) (r : Request) (left : List Request) (c d : ℕ) → StillBlocks held requests (r ∷ left) c d → (Blocks held (r ∷ []) c d → ⊥) → StillBlocks held requests left c d
not_it held requests r left c d still other =
    let k = still.blocks in record {
      blocks = (k.0, k.1, k.2, ⊎_elim (λ (e : r ≡ k.0). absurd (other (k.0, k.1, k.2, inl e, k.4, k.5, k.6, k.7, k.8))) (λ h. h) k.3, k.4, k.5, k.6, k.7, k.8);
      among = λ q h. still.among q (inr h);
    }

-- the first request that is left has it
pub it_is : (held : List Held) (requests : List Request) (r : Request) (left : List Request) (c d : ℕ) (e : Edge) → StillBlocks held requests (r ∷ left) c d → IsEdgeOf held r c d e → IsEdge held requests e
it_is held requests r left c d e still is =
    let k = is.2 in
    let here : r ≡ k.0 = ⊎_elim (λ s. s) (λ z. absurd z) k.1 in
    (k.0, subst (λ (x : Request). Has x requests) here (still.among r (inl refl)), k.2, k.3)

-- a request of another connection
pub not_its : (held : List Held) (r : Request) (c d : ℕ) → r.conn ≢ c → Blocks held (r ∷ []) c d → ⊥
not_its held r c d other k = ⊎_elim (λ (e : r ≡ k.0). other (ap (λ (x : Request). x.conn) e ∙ k.4)) (λ z. z) k.3

-- a request that is free of the other
pub is_free_of : (held : List Held) (r : Request) (c d : ℕ) → AreFree (held_of d held) c r.wants → Blocks held (r ∷ []) c d → ⊥
is_free_of held r c d free k = ⊎_elim (λ (e : r ≡ k.0). in_the_way e) (λ z. z) k.3
  where
    in_the_way : r ≡ k.0 → ⊥
    in_the_way e =
        let mine : r.conn ≡ c = ap (λ (x : Request). x.conn) e ∙ k.4 in
        free_blocks_not held r d (subst (λ (x : ℕ). AreFree (held_of d held) x r.wants) (sym mine) free) k.1 k.2
        (subst (λ (x : Request). Has k.1 x.wants) (sym e) k.5) k.6 k.7 (subst (λ (x : ℕ). Opposes x k.1.lock k.2) (sym mine) k.8)

-- the holder that is named among the entries of one holder is that one
named_holder : (held : List Held) (d c : ℕ) (wants : List Want) (a : Against) → Named (held_of d held) c wants a → a.holder ≡ d
named_holder held d c [] a named = absurd named
named_holder held d c (w ∷ ws) a named =
    ⊎_elim
    (λ (x : (h : Held) × IsLeastOpposing (held_of d held) c w.lock h × (against h ≡ a)). sym (ap (λ (b : Against). b.holder) x.2) ∙ eqb-true x.0.conn d (has_filter (λ (h : Held). h.conn == d) x.0 held x.1.stands).1)
    (λ x. named_holder held d c ws a x.1)
    named

pub named_edge : (held : List Held) (r : Request) (c d : ℕ) (a : Against) → r.conn ≡ c → Named (held_of d held) c r.wants a → IsEdgeOf held r c d (record { from = c; to = d; lock = a.lock })
named_edge held r c d a mine named =
    (refl, refl, (r, inl refl, mine, subst (λ (x : ℕ). Named (held_of d held) c r.wants (record { holder = x; lock = a.lock })) (named_holder held d c r.wants a named) named))
