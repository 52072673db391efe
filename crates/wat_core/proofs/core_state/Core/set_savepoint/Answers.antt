use Rattle.wat_steps.specs.Statements.{with_savepoint}
use Rattle.wat_connection.specs.Transactions.{transaction_in, with_open}
use Rattle.wat_steps.specs.State.{ConnectionState}
use Rattle.wat_core.proofs.CoreLemmas.{anew_if}
use Rattle.wat_core.proofs.core_state.Core.set_savepoint.Goals as goal

pub returns : goal.returns
returns c =
    λ e has. anew_if e c.args.self.now c.self.inside.connections.items c.self.inside.locks c.args.conn c.index_mut.result.now c.set_savepoint.new.self (λ (k : ConnectionState). with_open k (with_savepoint c.args.name (transaction_in k)))
    c.self.view_is has c.requires.from_one c.requires.within c.index_mut.ensures.value c.set_savepoint.result c.set_savepoint.ensures.ok
