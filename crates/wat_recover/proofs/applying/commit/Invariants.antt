use Rattle.std.proofs.Common.{◌≡◌, ◌+◌, ℕ, length}
use Rattle.wat_replay.specs.State.{State}
use Rattle.wat_recover.specs.Goes.{Went}
use Rattle.wat_recover.proofs.Stepping.{left}
use Rattle.wat_recover.proofs.applying.commit.Given as goal

abbrev pub invariant-loop-i : goal.invariant-loop-i
invariant-loop-i g l = record {
  stands : (s : State) → g.T.Target.stands_for l.fn.target s → (n : ℕ) → n + l._i ≡ length (s.lists l.conn) → g.T.Target.stands_for l.target (left s l.conn n);
  went : Went g.T.Target.goes g.T.Target.failures l.fn.target l.target ⊥;
}
