use Rattle.wat_record.proofs.ReadingLemmas.{no_change_row, no_update}
use Rattle.wat_record.proofs.reading.read_change.Goals as goal

pub returns-in_default-2 : goal.returns-in_default-2
returns-in_default-2 c =
    no_change_row c.args.bytes.now c.in-Some.rest.now c.in-Some-read_number.rest.now c.in-Some.tag.now c.in-Some-read_number.table c.in-Some.ensures.cases.0 c.in-Some-read_number.ensures
    (rw c.in_default-2.is at c.in_ok-row.ensures)

pub returns-in_default-3 : goal.returns-in_default-3
returns-in_default-3 c =
    no_update c.args.bytes.now c.in-Some.rest.now c.in-Some-read_number.rest.now c.in-Some-2.rest.now c.in-Some.tag.now c.in-Some-read_number.table c.in-Some-2.row c.in-Some.ensures.cases.0 c.in-2.is
    c.in-Some-read_number.ensures (rw c.in-Some-2.is at c.in_ok-row.ensures) (rw c.in_default-3.is at c.in_ok-after-in-2.ensures)
