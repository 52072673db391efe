use Rattle.std.proofs.Common.{◌≡◌, ◌+◌, ◌≤◌, ℕ, length}
use Rattle.wat_log_record.specs.declared.log_record.LogRecord.TheVariants.{UndoTo}
use Rattle.wat_replay.specs.State.{State, IsLawful}
use Rattle.wat_replay.specs.Replay.{Applies}
use Rattle.wat_recover.specs.Goes.{Went}
use Rattle.wat_recover.proofs.undoing.undo_to.Given as goal

abbrev pub invariant-loop-i : goal.invariant-loop-i
invariant-loop-i g l = record {
  undone : (s : State) → g.T.Target.stands_for l.fn.target s → IsLawful s → l.count ≤ length (s.lists l.conn) → (n : ℕ) → n + l._i ≡ length (s.lists l.conn) + l.count
      → (mid : State) × Applies (UndoTo l.conn n) s mid × g.T.Target.stands_for l.target mid;
  went : Went g.T.Target.goes g.T.Target.failures l.fn.target l.target ⊥;
}
