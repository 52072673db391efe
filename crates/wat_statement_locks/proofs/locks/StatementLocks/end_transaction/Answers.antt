use Rattle.std.proofs.Common.{◌≡◌, subst, List}
use Rattle.std.specs.Prelude.{not, ◌==◌}
use Rattle.std.specs.List.{filter}
use Rattle.wat_list.specs.Has.{HasSame}
use Rattle.wat_locks.specs.declared.held.Held.{Held}
use Rattle.wat_statement_locks.proofs.LockLemmas.{below_fewer, frees_fewer, transaction_freed}
use Rattle.wat_statement_locks.proofs.locks.StatementLocks.end_transaction.Goals as goal

pub invariant_of-self : goal.invariant_of-self
invariant_of-self c =
    (c.self.invariant.0, below_fewer c.self.inside.scans c.self.inside.locks c.free_all.new.locks (frees_fewer (λ h. h.conn ≡ c.args.conn) c.self.inside.locks c.free_all.new.locks c.free_all.ensures.frees) c.self.invariant.1, c.free_all.ensures.compatible)

pub returns-clause-freed : goal.returns-clause-freed
returns-clause-freed c =
    subst (λ (held : List Held). HasSame c.free_all.new.locks (filter (λ (h : Held). not (h.conn == c.args.conn)) held)) c.self.view_is
    (transaction_freed c.args.conn c.self.inside.locks c.free_all.new.locks c.free_all.ensures.frees)
