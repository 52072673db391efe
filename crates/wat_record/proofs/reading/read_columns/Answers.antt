use Rattle.std.proofs.Common.{arith}
use Rattle.wat_record.proofs.ReadingLemmas.{no_columns}
use Rattle.wat_record.proofs.reading.read_columns.Goals as goal

pub returns-in-None : goal.returns-in-None
returns-in-None c =
    no_columns c.args.bytes.now c.loop-i.rest.now c.loop-i.columns c.args.count c.loop-i.invariant.spelled c.loop-i.invariant.each (omega arith)
    (rw c.in-None.is at c.in_ok-column.ensures)
