use Rattle.std.proofs.Common.{◌≡◌, take}
use Rattle.wat_faults.specs.Faults.{HasCause}
use Rattle.wat_visits.specs.Sourced.{Sourced}
use Rattle.wat_exec.proofs.SpotLemmas.{AreAmong}
use Rattle.wat_exec.proofs.spots.spots_of.Given as goal

abbrev pub invariant-loop-index : goal.invariant-loop-index
invariant-loop-index g l = record {
  among : AreAmong (g.R.RowSource.stands_for l.fn.rows) l.table l.change (take l.index-index l.index-items) l.spots;
  stays : (s : Sourced) → g.R.RowSource.stands_for l.fn.rows s → g.R.RowSource.stands_for l.rows s;
  beside : g.R.RowSource.goes l.fn.rows l.rows;
  cause : HasCause (g.R.RowSource.failures l.fn.rows) (g.R.RowSource.failures l.rows) ⊥;
}
