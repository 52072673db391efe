use Rattle.std.proofs.Common.{◌++◌}
use Rattle.wat_connection.specs.Transactions.{transaction_in, with_open}
use Rattle.wat_steps.specs.State.{ConnectionState}
use Rattle.wat_core.proofs.CoreLemmas.{anew_if}
use Rattle.wat_core.proofs.core_state.Core.note.Goals as goal

pub returns : goal.returns
returns c =
    λ e has. anew_if e c.args.self.now c.self.inside.connections.items c.self.inside.locks c.args.conn c.index_mut.result.now c.note.new.self (λ (k : ConnectionState). with_open k (record (transaction_in k) { standing = (transaction_in k).standing ++ c.args.changes.items }))
    c.self.view_is has c.requires.from_one c.requires.within c.index_mut.ensures.value c.note.result c.note.ensures.ok
