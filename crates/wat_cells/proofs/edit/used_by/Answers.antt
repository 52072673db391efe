use Rattle.std.proofs.Common.{◌+◌, arith}
use Rattle.wat_slot.proofs.Writing.{length-more, length-part}
use Rattle.wat_cells.proofs.edit.used_by.Goals as goal

pub overflow_add-used : goal.overflow_add-used
overflow_add-used c =
    omega (arith, length-more c.args.cells.now c.loop-cell.cell-index c.cell-item.result c.loop-cell-test.true c.cell-item.is, length-part c.args.cells.now (c.loop-cell.cell-index + 1), c.requires, c.len.ensures)

pub overflow_add-used-in-loop-cell : goal.overflow_add-used-in-loop-cell
overflow_add-used-in-loop-cell c =
    omega (arith, length-more c.args.cells.now c.loop-cell.cell-index c.cell-item.result c.loop-cell-test.true c.cell-item.is, length-part c.args.cells.now (c.loop-cell.cell-index + 1), c.requires, c.loop-cell.invariant, c.len.ensures)

pub loop-cell-preserved : goal.loop-cell-preserved
loop-cell-preserved c =
    omega (arith, length-more c.args.cells.now c.loop-cell.cell-index c.cell-item.result c.loop-cell-test.true c.cell-item.is, c.loop-cell.invariant, c.len.ensures)
