use Rattle.wat_steps.specs.State.{ConnectionState}
use Rattle.wat_core.proofs.CoreLemmas.{found}
use Rattle.wat_core.proofs.core_state.Core.connection.Goals as goal

pub returns : goal.returns
returns c =
    λ e has. found e c.args.self.now c.self.inside.connections.items c.self.inside.locks c.args.conn c.index.result.now c.index.result.now (λ (k : ConnectionState). k) c.self.view_is has c.requires.from_one
    c.requires.within c.index.ensures
