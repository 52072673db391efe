use Rattle.std.proofs.Common.{subst, List}
use Rattle.wat_list.specs.Has.{HasSame}
use Rattle.wat_locks.specs.declared.held.Held.{Held}
use Rattle.wat_steps.specs.Answering.{without_short}
use Rattle.wat_statement_locks.proofs.LockLemmas.{IsShortBelow, below_fewer, frees_fewer, statement_freed}
use Rattle.wat_statement_locks.proofs.locks.StatementLocks.end_statement.Goals as goal

pub invariant_of-self : goal.invariant_of-self
invariant_of-self c = (
  c.self.invariant.0,
  below_fewer c.self.inside.scans c.self.inside.locks c.free_below.new.locks
      (frees_fewer (IsShortBelow c.args.conn c.self.inside.scans) c.self.inside.locks c.free_below.new.locks c.free_below.ensures.frees) c.self.invariant.1,
  c.free_below.ensures.compatible,
)

pub returns-clause-freed : goal.returns-clause-freed
returns-clause-freed c =
    subst (λ (held : List Held). HasSame c.free_below.new.locks (without_short c.args.conn held)) c.self.view_is
    (statement_freed c.args.conn c.self.inside.scans c.self.inside.locks c.free_below.new.locks c.self.invariant.1 c.free_below.ensures.frees)
