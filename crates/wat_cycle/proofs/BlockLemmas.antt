-- From arcs to who blocks whom.
use Rattle.std.proofs.Common.{◌≡◌, ℕ, List, [], ◌∷◌, refl, inl, inr, ⊎_elim}
use Rattle.std.proofs.lemmas.Bool.{eqb-true, eq-eqb}
use Rattle.std.specs.Prelude.{◌==◌}
use Rattle.wat_list.specs.Has.{Has}
use Rattle.wat_locks.specs.declared.want.Want.{Want}
use Rattle.wat_locks.specs.declared.held.Held.{Held}
use Rattle.wat_locks.specs.declared.held.Against.{Against}
use Rattle.wat_locks.specs.Held.{Opposes, IsLeastOpposing, AreFree, Named, against, held_of}
use Rattle.wat_list.proofs.Members.{filter_has, has_filter}
use Rattle.wat_cycle.specs.declared.request.Request.{Request}
use Rattle.wat_cycle.specs.Walk.{IsWalk, IsCycle, IsNamedCycle}
use Rattle.wat_cycle.specs.Waits.{Blocks}

-- a conflict that is named has a want and an entry in its way
named_opposes : (held : List Held) (conn : ℕ) (wants : List Want) (a : Against) → Named held conn wants a → (w : Want) × (h : Held) × Has w wants × Has h held × Opposes conn w.lock h
named_opposes held conn [] a named = absurd named
named_opposes held conn (w ∷ ws) a named =
    ⊎_elim
    (λ (x : (h : Held) × IsLeastOpposing held conn w.lock h × (against h ≡ a)). (w, x.0, inl refl, x.1.stands, x.1.opposes))
    (λ x. let rest = named_opposes held conn ws a x.1 in (rest.0, rest.1, inr rest.2, rest.3, rest.4))
    named

-- where a conflict with d alone is named, d is a blocker
pub named_blocks : (held : List Held) (requests : List Request) (r : Request) (d : ℕ) (a : Against) → Has r requests → Named (held_of d held) r.conn r.wants a → Blocks held requests r.conn d
named_blocks held requests r d a there named =
    let found = named_opposes (held_of d held) r.conn r.wants a named in
    let kept = has_filter (λ (h : Held). h.conn == d) found.1 held found.3 in
    (r, found.0, found.1, there, refl, found.2, kept.0, eqb-true found.1.conn d kept.1, found.4)

-- where all that r wants is free of d, r does not wait for d
pub free_blocks_not : (held : List Held) (r : Request) (d : ℕ) → AreFree (held_of d held) r.conn r.wants → (w : Want) (h : Held) → Has w r.wants → Has h held → h.conn ≡ d → Opposes r.conn w.lock h → ⊥
free_blocks_not held r d free w h wanted there of opposes =
    free w wanted h (filter_has (λ (x : Held). x.conn == d) h held there (eq-eqb h.conn d of)) opposes

module _ (E F : ℕ → ℕ → Type 0) (N : ℕ → Type 0) (begins : (x y : ℕ) → F x y → N x) (over : (x y : ℕ) → N y → F x y → E x y) where
  walk_begins_in : (a : ℕ) (cs : List ℕ) (b : ℕ) → IsWalk F a cs b → N a
  walk_begins_in a [] b walk = begins a b walk
  walk_begins_in a (x ∷ xs) b walk = begins a x walk.0

  walk_over : (a : ℕ) (cs : List ℕ) (b : ℕ) → N b → IsWalk F a cs b → IsWalk E a cs b
  walk_over a [] b n walk = over a b n walk
  walk_over a (x ∷ xs) b n walk = (over a x (walk_begins_in x xs b walk.1) walk.0, walk_over x xs b n walk.1)

  -- a cycle has arcs alone, since each of its members waits
  pub cycle_over : (c : ℕ) (cs : List ℕ) → IsCycle F c cs → IsCycle E c cs
  cycle_over c cs cycle = (walk_over c cs c (walk_begins_in c cs c cycle.0) cycle.0, cycle.1)

  walk_back_over : ((x y : ℕ) → E x y → F x y) → (a : ℕ) (cs : List ℕ) (b : ℕ) → IsWalk E a cs b → IsWalk F a cs b
  walk_back_over less a [] b walk = less a b walk
  walk_back_over less a (x ∷ xs) b walk = (less a x walk.0, walk_back_over less x xs b walk.1)

  pub named_over : ((x y : ℕ) → E x y → F x y) → (c : ℕ) (cs : List ℕ) → IsNamedCycle E c cs → IsNamedCycle F c cs
  named_over less c cs is = record { cycle = (walk_back_over less c cs c is.cycle.0, is.cycle.1); first = λ ds cycle. is.first ds (cycle_over c ds cycle) }
