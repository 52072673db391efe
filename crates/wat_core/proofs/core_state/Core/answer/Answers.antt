use Rattle.std.proofs.Common.{None, not, ◌==◌, ◌&&◌}
use Rattle.std.specs.Prelude.{is_some}
use Rattle.wat_locks.specs.declared.held.Held.{Held}
use Rattle.wat_steps.specs.State.{ConnectionState}
use Rattle.wat_steps.specs.Answering.{with_answer}
use Rattle.wat_core.proofs.CoreLemmas.{anew_freed}
use Rattle.wat_core.proofs.core_state.Core.answer.Goals as goal

pub returns : goal.returns
returns c =
    λ e has. anew_freed e c.args.self.now c.self.inside.connections.items c.self.inside.locks c.args.conn c.index_mut.result.now c.answer.new.self
    (λ (k : ConnectionState). record (with_answer k.left k c.args.answer c.args.acts) { work = None; request = None }) c.self.view_is has c.requires.from_one c.requires.within c.index_mut.ensures.value
    (λ (h : Held). not ((h.conn == c.args.conn) && is_some h.short)) c.end_statement.new.self c.answer.ensures c.end_statement.ensures.freed
