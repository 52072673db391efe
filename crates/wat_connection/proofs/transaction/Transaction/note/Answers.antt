use Rattle.std.proofs.Common.{◌+◌, ◌<◌, ◌^◌, length, arith}
use Rattle.wat_connection.specs.Savepoints.{saves_of}
use Rattle.wat_connection.proofs.TransactionLemmas.{noted_fits}
use Rattle.wat_connection.proofs.transaction.Transaction.note.Goals as goal

pub invariant_of-self : goal.invariant_of-self
invariant_of-self c =
    let room : length c.self.inside.standing.items + length c.args.changes.items < 2 ^ 32 = omega (arith, c.if-len.false, c.len.ensures, c.len-2.ensures, c.args.changes.ok.0, c.self.inside.standing.ok.0, c.self.invariant.0) in
    noted_fits c.append.result c.self.inside.standing.items c.args.changes.items c.append.new.self.items (saves_of c.self.inside.savepoints.items) c.append.ensures.items c.self.invariant.0 room c.self.invariant.1
