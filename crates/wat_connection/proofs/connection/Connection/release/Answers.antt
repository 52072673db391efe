use Rattle.wat_connection.proofs.TransactionLemmas.{release_in}
use Rattle.wat_connection.proofs.connection.Connection.release.Goals as goal

pub returns : goal.returns
returns c =
    release_in c.args.name.now c.args.self.now c.take_transaction-transaction.new.self c.put_transaction.new.self c.take_transaction-transaction.result c.release-found.new.self c.release-found.result
    c.take_transaction-transaction.ensures.taken c.take_transaction-transaction.ensures.rest c.put_transaction.ensures c.release-found.ensures
