use Rattle.std.proofs.Common.{◌≡◌, true, false, sym, ◌∙◌, ap}
use Rattle.wat_slot.specs.Cells.{cells_front}
use Rattle.wat_slot.proofs.Reading.{told_count}
use Rattle.wat_slot.proofs.row_page.count_in.Goals as goal

pub returns-else-same-clause-none : goal.returns-else-same-clause-none
returns-else-same-clause-none c n fits front =
    let count : c.from_be_bytes-count.result ≡ n = c.from_be_bytes-count.ensures ∙ told_count c.args.bytes.now n fits front in
    let yes = c.same.ensures.1 (front ∙ ap cells_front (sym count) ∙ sym c.front.ensures) in
    let no : true ≡ false = sym yes ∙ c.if-same.false in cc
