use Rattle.std.proofs.Common.{take, sym, ◌∙◌, ap, arith}
use Rattle.std.proofs.Math.Facts.{Fits-lt-pow}
use Rattle.std.proofs.lemmas.List.{take_rest}
use Rattle.wat_slot.proofs.Reading.{begins, two_read}
use Rattle.wat_slot.proofs.row_page.first_cell.Goals as goal

pub returns-clause-some : goal.returns-clause-some
returns-clause-some c =
    let bytes = c.args.bytes.now in
    let len = c.from_be_bytes-len.result in
    let rest = take_rest bytes 2 in
    let fits = rw rest at c.if-rest-len.false in
    begins bytes _ len c.if-bytes-lt2.false (λ i. Fits-lt-pow (c.type_inv.bytes i)) (c.from_be_bytes-len.ensures ∙ sym (two_read bytes c.if-bytes-lt2.false)) (omega (arith, c.from_be_bytes-len.type_inv)) fits (ap (take len) rest)
