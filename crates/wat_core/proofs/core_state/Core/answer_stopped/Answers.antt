use Rattle.std.proofs.Common.{[]}
use Rattle.wat_conn.specs.declared.answer.Answer.TheVariants.{Stopped}
use Rattle.wat_steps.specs.Answering.{with_answer}
use Rattle.wat_steps.specs.State.{ConnectionState}
use Rattle.wat_core.proofs.CoreLemmas.{anew}
use Rattle.wat_core.proofs.core_state.Core.answer_stopped.Goals as goal

pub returns : goal.returns
returns c =
    λ e has. anew e c.args.self.now c.self.inside.connections.items c.self.inside.locks c.args.conn c.index_mut.result.now c.answer_stopped.new.self (λ (k : ConnectionState). with_answer k.left k (Stopped c.args.reason) [])
    c.self.view_is has c.requires.from_one c.requires.within c.index_mut.ensures.value c.answer_stopped.ensures
