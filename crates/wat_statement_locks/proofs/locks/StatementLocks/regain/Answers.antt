use Rattle.std.proofs.Common.{◌≡◌, subst, List, Bool, false, sym, ◌∙◌, rules}
use Rattle.std.specs.Prelude.{is_some}
use Rattle.std.specs.List.{list_any}
use Rattle.wat_locks.specs.declared.want.Want.{Want}
use Rattle.wat_locks.specs.declared.held.Asked.{Asked}
use Rattle.wat_locks.specs.Held.{Answers}
use Rattle.wat_statement_locks.proofs.LockLemmas.{free_not_named, none_is_short, nothing_comes}
use Rattle.wat_statement_locks.proofs.locks.StatementLocks.regain.Goals as goal

pub returns-then-not-any_short-clause-adds : goal.returns-then-not-any_short-clause-adds
returns-then-not-any_short-clause-adds c =
    let off : c.any_short.result ≡ false = first_of (cc, search rules) in
    let none = subst (λ (ws : List Want). list_any (λ (w : Want). is_some w.short) ws ≡ false) c.as_slice.ensures (sym c.any_short.ensures ∙ off) in
    nothing_comes c.args.conn c.args.wants.now c.args.self.now (λ w there. c.requires.stand w there (none_is_short c.args.wants.now none w there))

pub unreachable-requires : goal.unreachable-requires
unreachable-requires c =
    let answers = subst (λ (a : Asked). Answers c.args.self.now c.ask.new.self c.args.conn c.args.wants.now a) c.in-Against.is c.in_ok-ask.ensures.answers in
    free_not_named c.args.conn c.args.wants.now c.args.self.now c.in-Against.field-0 c.requires.free answers.0
