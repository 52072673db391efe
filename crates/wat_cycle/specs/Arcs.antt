-- The arcs that stand for who blocks whom, and the edge of one of them.
use Rattle.std.specs.Prelude.{◌≡◌, ◌↔◌, ℕ, List, [], ◌∷◌, ◌⊎◌}
use Rattle.wat_list.specs.Has.{Has}
use Rattle.wat_locks.specs.declared.held.Held.{Held}
use Rattle.wat_cycle.specs.declared.request.Request.{Request}
use Rattle.wat_cycle.specs.declared.request.Edge.{Edge}
use Rattle.wat_cycle.specs.declared.walk.Arc.{Arc}
use Rattle.wat_cycle.specs.Levels.{HasArc}
use Rattle.wat_cycle.specs.Waits.{Blocks, IsEdge}

-- beside the old arcs there is one to each of the nodes that blocks one of the requests
abbrev pub MoreArcs : List Held → List Request → List ℕ → List Arc → List Arc → Type 0
MoreArcs held requests nodes old new = (c d : ℕ) → HasArc new c d ↔ (HasArc old c d ⊎ (Has d nodes × Blocks held requests c d))

-- the edge from the one to the other, of this request
abbrev pub IsEdgeOf : List Held → Request → ℕ → ℕ → Edge → Type 0
IsEdgeOf held request from to e = (e.from ≡ from) × (e.to ≡ to) × IsEdge held (request ∷ []) e
