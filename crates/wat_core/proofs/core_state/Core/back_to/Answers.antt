use Rattle.wat_core.proofs.SaveLemmas.{back_at}
use Rattle.wat_core.proofs.core_state.Core.back_to.Goals as goal

pub returns : goal.returns
returns c =
    λ e has. back_at e c.args.self.now c.self.inside.connections.items c.self.inside.locks c.args.conn c.index_mut.result.now c.back_to.new.self c.self.view_is has c.requires.from_one c.requires.within
    c.index_mut.ensures.value c.args.name.now c.back_to.result c.back_to.ensures.back
