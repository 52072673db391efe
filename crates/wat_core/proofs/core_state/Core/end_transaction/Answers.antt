use Rattle.std.proofs.Common.{None, not, ◌==◌, sym, ap, ◌∙◌}
use Rattle.std.specs.Prelude.{is_some}
use Rattle.wat_locks.specs.declared.held.Held.{Held}
use Rattle.wat_steps.specs.State.{ConnectionState}
use Rattle.wat_core.proofs.CoreLemmas.{anew_freed, found, over}
use Rattle.wat_core.proofs.core_state.Core.end_transaction.Goals as goal

pub returns-clause-open : goal.returns-clause-open
returns-clause-open c =
    λ e has. c.end_transaction-open.ensures.open
    ∙ ap (λ (k : ConnectionState). is_some k.transaction)
    (sym (found e c.args.self.now c.self.inside.connections.items c.self.inside.locks c.args.conn c.index_mut.result.now c.end_transaction-open.new.self
    (λ (k : ConnectionState). k) c.self.view_is has c.requires.from_one c.requires.within c.index_mut.ensures.value))

pub returns-clause-over : goal.returns-clause-over
returns-clause-over c =
    λ e has. over e c.args.conn _
    (anew_freed e c.args.self.now c.self.inside.connections.items c.self.inside.locks c.args.conn c.index_mut.result.now c.end_transaction-open.new.self
    (λ (k : ConnectionState). record k { transaction = None }) c.self.view_is has c.requires.from_one c.requires.within c.index_mut.ensures.value
    (λ (h : Held). not (h.conn == c.args.conn)) c.end_transaction.new.self c.end_transaction-open.ensures.over c.end_transaction.ensures.freed)
