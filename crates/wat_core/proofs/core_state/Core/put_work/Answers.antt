use Rattle.std.proofs.Common.{Some}
use Rattle.wat_steps.specs.State.{ConnectionState}
use Rattle.wat_core.proofs.CoreLemmas.{anew}
use Rattle.wat_core.proofs.core_state.Core.put_work.Goals as goal

pub returns : goal.returns
returns c =
    λ e has. anew e c.args.self.now c.self.inside.connections.items c.self.inside.locks c.args.conn c.index_mut.result.now c.put_work.new.self (λ (k : ConnectionState). record k { work = Some c.args.run.run })
    c.self.view_is has c.requires.from_one c.requires.within c.index_mut.ensures.value c.put_work.ensures
