use Rattle.std.proofs.Common.{◌+◌, ◌<◌, length, arith}
use Rattle.wat_slot.proofs.Writing.{no_room}
use Rattle.wat_slot.proofs.row_page.have_room.Goals as goal
use Rattle.wat_slot.proofs.row_page.have_room.Goals.{then-left-lt2-via-then-left-lt2, then-left-lt2-via-else-left-lt2+then-left-len}

pub returns-then-left-lt2 : goal.returns-then-left-lt2
returns-then-left-lt2 c =
    let cells = c.args.cells.now in
    let cell = c.cell-item.result in
    let less : c.loop-cell.left < 2 + length cell = elim c.then-left-lt2.branch [
      | then-left-lt2-via-then-left-lt2 w ↦ omega (arith, w.if-left-lt2.true)
      | then-left-lt2-via-else-left-lt2+then-left-len w ↦ omega (arith, w.if-left-lt2.false, w.if-left-len.true, c.len-len.ensures)
    ] in
    (λ no. absurd (let never : ⊥ = cc in never), λ room. absurd (no_room cells c.loop-cell.cell-index cell c.loop-cell-test.true c.cell-item.is c.loop-cell.left c.loop-cell.invariant less room))
