use Rattle.std.proofs.Common.{◌≡◌, subst, List, Some}
use Rattle.wat_locks.specs.declared.held.Held.{Held}
use Rattle.wat_locks.specs.Held.{Frees}
use Rattle.wat_statement_locks.proofs.LockLemmas.{below_fewer, frees_fewer}
use Rattle.wat_statement_locks.proofs.locks.StatementLocks.free_scan.Goals as goal

pub invariant_of-self : goal.invariant_of-self
invariant_of-self c =
    (c.self.invariant.0, below_fewer c.self.inside.scans c.self.inside.locks c.free_scan.new.locks (frees_fewer (λ h. (h.conn ≡ c.args.conn) × (h.short ≡ Some c.args.scan)) c.self.inside.locks c.free_scan.new.locks c.free_scan.ensures.frees) c.self.invariant.1, c.free_scan.ensures.compatible)

pub returns-clause-frees : goal.returns-clause-frees
returns-clause-frees c =
    subst (λ (held : List Held). Frees held c.free_scan.new.locks (λ h. (h.conn ≡ c.args.conn) × (h.short ≡ Some c.args.scan))) c.self.view_is c.free_scan.ensures.frees
