use Rattle.wat_core.proofs.SaveLemmas.{release_at}
use Rattle.wat_core.proofs.core_state.Core.release.Goals as goal

pub returns : goal.returns
returns c =
    λ e has. release_at e c.args.self.now c.self.inside.connections.items c.self.inside.locks c.args.conn c.index_mut.result.now c.release.new.self c.self.view_is has c.requires.from_one c.requires.within
    c.index_mut.ensures.value c.args.name.now c.release.result c.release.ensures
