use Rattle.std.proofs.Common.{arith}
use Rattle.wat_undo.proofs.Spelling.{no_changes}
use Rattle.wat_undo.proofs.reading.read_changes.Goals as goal

pub returns-in-None : goal.returns-in-None
returns-in-None c =
    no_changes c.args.bytes.now c.loop-i.rest.now c.loop-i.changes c.args.count c.loop-i.invariant.spelled c.loop-i.invariant.each (omega arith)
    (rw c.in-None.is at c.in_ok-change.ensures)
