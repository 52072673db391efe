use Rattle.std.proofs.Common.{subst}
use Rattle.wat_locks.specs.declared.held.Asked.{Asked}
use Rattle.wat_core.specs.Telling.{AnswersFor}
use Rattle.wat_core.proofs.TellLemmas.{told_blocked, told_granted}
use Rattle.wat_core.proofs.asking.ask.Goals as goal

pub returns-in-Granted-clause-told : goal.returns-in-Granted-clause-told
returns-in-Granted-clause-told c =
    let answers = subst (λ (a : Asked). AnswersFor c.args.locks.now c.ask_locks.new.locks c.args.conn c.args.scan c.args.wants a) c.in-Granted.is c.in_ok-ask_locks.ensures.answers in
    λ e parts. told_granted e c.args.connections.now.items c.args.locks.now c.ask_locks.new.locks c.args.conn c.args.wants parts c.args.scan answers

pub returns-in-Against-clause-told : goal.returns-in-Against-clause-told
returns-in-Against-clause-told c =
    let answers = subst (λ (a : Asked). AnswersFor c.args.locks.now c.ask_locks.new.locks c.args.conn c.args.scan c.args.wants a) c.in-Against.is c.in_ok-ask_locks.ensures.answers in
    λ e parts. told_blocked e c.args.connections.now.items c.args.locks.now c.ask_locks.new.locks c.args.conn c.args.wants parts c.args.scan c.in-Against.against c.blocked.new.connections.items c.blocked.result
    c.requires.from_one c.requires.within answers c.blocked.ensures.told
