use Rattle.wat_serial.proofs.PlainLemmas.{means_row}
use Rattle.wat_serial.proofs.plain.written_meaning.Goals as goal

pub returns-in-Some : goal.returns-in-Some
returns-in-Some c = means_row c.args.table.now c.args.exprs.now _ c.in-Some.plain c.meant_by_row.result c.in-Some.is c.in_ok-written.ensures c.meant_by_row.ensures
