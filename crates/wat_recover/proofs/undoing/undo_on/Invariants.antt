use Rattle.std.proofs.Common.{◌≡◌, ◌-◌, ◌<◌, ◌≤◌, ℕ, [], Some}
use Rattle.wat_schema.specs.Tables.{Tables}
use Rattle.wat_replay.specs.State.{State, IsLawful, undone}
use Rattle.wat_recover.specs.Goes.{Went}
use Rattle.wat_recover.proofs.undoing.undo_on.Given as goal

abbrev pub invariant-loop-conn : goal.invariant-loop-conn
invariant-loop-conn g l = record {
  small : l.from ≤ 65536;
  undone : (s : State) (t : Tables) → g.T.Target.stands_for l.fn.target s → IsLawful s → undone s ≡ Some t
      → (mid : State) × g.T.Target.stands_for l.target mid × IsLawful mid × (undone mid ≡ Some t) × ((other : ℕ) → other < l.from → mid.lists other ≡ []);
  went : Went g.T.Target.goes g.T.Target.failures l.fn.target l.target ⊥;
}

abbrev pub decreases-loop-conn : goal.decreases-loop-conn
decreases-loop-conn g l = 65536 - l.from
