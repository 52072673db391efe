use Rattle.wat_connection.proofs.TransactionLemmas.{back_in}
use Rattle.wat_connection.proofs.connection.Connection.back_to.Goals as goal

pub returns-clause-back : goal.returns-clause-back
returns-clause-back c =
    back_in c.args.name.now c.args.self.now c.take_transaction-transaction.new.self c.put_transaction.new.self c.take_transaction-transaction.result c.back_to-undone.new.self c.back_to-undone.result
    c.take_transaction-transaction.ensures.taken c.take_transaction-transaction.ensures.rest c.put_transaction.ensures c.back_to-undone.ensures.back
