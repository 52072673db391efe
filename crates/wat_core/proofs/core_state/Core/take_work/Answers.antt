use Rattle.std.proofs.Common.{None, sym, ap, ◌∙◌}
use Rattle.wat_steps.specs.State.{ConnectionState}
use Rattle.wat_core.proofs.CoreLemmas.{anew, found}
use Rattle.wat_core.proofs.core_state.Core.take_work.Goals as goal

pub returns-clause-work : goal.returns-clause-work
returns-clause-work c =
    λ e has. c.take_work.ensures.work
    ∙ ap (λ (k : ConnectionState). k.work)
    (sym (found e c.args.self.now c.self.inside.connections.items c.self.inside.locks c.args.conn c.index_mut.result.now c.take_work.new.self (λ (k : ConnectionState). k) c.self.view_is has c.requires.from_one
    c.requires.within c.index_mut.ensures.value))

pub returns-clause-rest : goal.returns-clause-rest
returns-clause-rest c =
    λ e has. anew e c.args.self.now c.self.inside.connections.items c.self.inside.locks c.args.conn c.index_mut.result.now c.take_work.new.self (λ (k : ConnectionState). record k { work = None }) c.self.view_is has
    c.requires.from_one c.requires.within c.index_mut.ensures.value c.take_work.ensures.rest
