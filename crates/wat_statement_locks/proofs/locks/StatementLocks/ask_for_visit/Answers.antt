use Rattle.std.proofs.Common.{subst}
use Rattle.wat_locks.specs.declared.held.Asked.{Asked}
use Rattle.wat_locks.specs.Held.{Answers, AreFree, Adds}
use Rattle.wat_statement_locks.proofs.LockLemmas.{free_after, long_stand, visit_made}
use Rattle.wat_statement_locks.proofs.locks.StatementLocks.ask_for_visit.Goals as goal

pub regain-requires-clause-free : goal.regain-requires-clause-free
regain-requires-clause-free c =
    let granted = subst (λ (a : Asked). Answers c.args.self.now c.ask.new.self c.args.conn c.args.wants.now a) c.in-Granted.is c.in_ok-against.ensures.answers in
    free_after c.args.conn c.args.scan c.args.wants.now c.args.self.now c.ask.new.self c.free_scan.new.self granted.0 granted.1 c.free_scan.ensures.frees

pub regain-requires-clause-stand : goal.regain-requires-clause-stand
regain-requires-clause-stand c =
    let granted = subst (λ (a : Asked). Answers c.args.self.now c.ask.new.self c.args.conn c.args.wants.now a) c.in-Granted.is c.in_ok-against.ensures.answers in
    long_stand c.args.conn c.args.scan c.args.wants.now c.args.self.now c.ask.new.self c.free_scan.new.self granted.1 c.free_scan.ensures.frees

pub returns-in_ok-regain-in-Granted-clause-answers : goal.returns-in_ok-regain-in-Granted-clause-answers
returns-in_ok-regain-in-Granted-clause-answers c =
    let granted = subst (λ (a : Asked). Answers c.args.self.now c.ask.new.self c.args.conn c.args.wants.now a) c.in-Granted.is c.in_ok-against.ensures.answers in (
      granted.0,
      visit_made c.args.conn c.args.scan c.args.wants.now c.args.self.now c.ask.new.self c.free_scan.new.self c.regain.new.self granted.1 c.free_scan.ensures.frees c.in_ok-regain-in-Granted.ensures.adds,
    )
