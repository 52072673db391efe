use Rattle.wat_connection.specs.Transactions.{transaction_in, with_open}
use Rattle.wat_steps.specs.State.{ConnectionState}
use Rattle.wat_core.proofs.CoreLemmas.{anew}
use Rattle.wat_core.proofs.core_state.Core.open.Goals as goal

pub returns : goal.returns
returns c =
    λ e has. anew e c.args.self.now c.self.inside.connections.items c.self.inside.locks c.args.conn c.index_mut.result.now c.open.new.self (λ (k : ConnectionState). with_open k (transaction_in k))
    c.self.view_is has c.requires.from_one c.requires.within c.index_mut.ensures.value c.open.ensures
