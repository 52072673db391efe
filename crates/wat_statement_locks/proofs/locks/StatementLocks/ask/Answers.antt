use Rattle.std.proofs.Common.{◌≤◌, subst, List, arith}
use Rattle.std.specs.Prelude.{IfOk, OnErr}
use Rattle.wat_list.specs.Has.{HasSame}
use Rattle.wat_locks.specs.declared.want.Want.{Want}
use Rattle.wat_locks.specs.declared.held.Held.{Held}
use Rattle.wat_locks.specs.Held.{Answers}
use Rattle.wat_statement_locks.specs.Scans.{AreWantedBelow}
use Rattle.wat_statement_locks.proofs.LockLemmas.{asked_below, below_more_scans, wanted_up}
use Rattle.wat_statement_locks.proofs.locks.StatementLocks.ask.Goals as goal

pub invariant_of-self : goal.invariant_of-self
invariant_of-self c =
    let most = c.max-self-inside.result in
    let old = c.self.inside.locks in
    let up : c.self.inside.scans ≤ most = omega arith in
    let over : c.above.result ≤ most = omega arith in
    let wanted = subst (λ (ws : List Want). AreWantedBelow c.above.result ws) c.as_slice.ensures c.above.ensures.above in (
      omega arith,
      asked_below most c.args.conn c.args.wants.now old c.ask.new.self c.ask.result (below_more_scans c.self.inside.scans most old up c.self.invariant.1)
          (wanted_up c.above.result most c.args.wants.now over wanted) c.ask.ensures.answers c.ask.ensures.err,
      c.ask.ensures.compatible,
    )

pub returns-clause-answers : goal.returns-clause-answers
returns-clause-answers c =
    subst (λ (held : List Held). IfOk c.ask.result (λ asked. Answers held c.ask.new.self c.args.conn c.args.wants.now asked)) c.self.view_is c.ask.ensures.answers

pub returns-clause-err : goal.returns-clause-err
returns-clause-err c = subst (λ (held : List Held). OnErr c.ask.result (HasSame c.ask.new.self held)) c.self.view_is c.ask.ensures.err
