use Rattle.std.proofs.Common.{◌≡◌, ◌+◌, ◌++◌, length, take, ◌∙◌, ap, arith}
use Rattle.std.proofs.Math.Facts.{Fits-of_lt}
use Rattle.std.proofs.lemmas.List.{take_all}
use Rattle.wat_slot.specs.Cells.{cells_bytes, cells_front}
use Rattle.wat_slot.proofs.Reading.{few_cells}
use Rattle.wat_slot.proofs.Writing.{room_for, one_cell, is_page, length-more}
use Rattle.wat_slot.proofs.row_page.write_cells.Goals as goal

pub overflow_cast-cells : goal.overflow_cast-cells
overflow_cast-cells c = Fits-of_lt (omega (arith, few_cells c.args.cells.now, c.requires))

pub overflow_cast-len : goal.overflow_cast-len
overflow_cast-len c = Fits-of_lt (omega (arith, c.len-len.ensures, room_for c.args.cells.now c.loop-cell.cell-index c.cell-item.result c.loop-cell-test.true c.cell-item.is c.requires))

pub write_at-requires-in-loop-cell : goal.write_at-requires-in-loop-cell
write_at-requires-in-loop-cell c =
    omega (arith, ap length c.to_be_bytes.ensures, c.loop-cell.invariant.place, room_for c.args.cells.now c.loop-cell.cell-index c.cell-item.result c.loop-cell-test.true c.cell-item.is c.requires)

pub write_at-requires-in-loop-cell-2 : goal.write_at-requires-in-loop-cell-2
write_at-requires-in-loop-cell-2 c =
    omega (arith, ap length c.as_slice.ensures, c.loop-cell.invariant.place, room_for c.args.cells.now c.loop-cell.cell-index c.cell-item.result c.loop-cell-test.true c.cell-item.is c.requires)

pub loop-cell-preserved : goal.loop-cell-preserved
loop-cell-preserved c =
    let cells = c.args.cells.now in
    let i = c.loop-cell.cell-index in
    let cell = c.cell-item.result in
    record {
      place = omega (arith, c.loop-cell.invariant.place, c.len-len.ensures, length-more cells i cell c.loop-cell-test.true c.cell-item.is);
      whole = c.write_at-in-loop-cell-2.ensures.whole;
      written = one_cell cells i cell c.loop-cell-test.true c.cell-item.is c.loop-cell.page c.write_at-in-loop-cell.new.self c.write_at-in-loop-cell-2.new.self c.to_be_bytes.result c.as_slice.result.now c.loop-cell.at c.len-len.result
          c.loop-cell.invariant.written c.loop-cell.invariant.place c.to_be_bytes.ensures c.len-len.ensures c.as_slice.ensures c.write_at-in-loop-cell.ensures.bytes c.write_at-in-loop-cell-2.ensures.bytes;
    }

pub returns : goal.returns
returns c =
    let cells = c.args.cells.now in
    let i = c.loop-cell.invariant in
    let all : take c.loop-cell.cell-index cells ≡ cells = take_all c.loop-cell.cell-index cells c.loop-cell-test.false in
    is_page c.loop-cell.page cells c.loop-cell.at i.whole c.requires (i.place ∙ ap (λ l. 16 + length (cells_bytes l)) all) (i.written ∙ ap (λ l. cells_front (length cells) ++ cells_bytes l) all)
