use Rattle.wat_record.proofs.ReadingLemmas.{no_changed, no_undo_to}
use Rattle.wat_record.proofs.reading.read_entry.Goals as goal

pub returns-in-None-2 : goal.returns-in-None-2
returns-in-None-2 c =
    no_changed c.args.bytes.now c.in-Some.rest.now c.in-Some-read_count.rest.now c.in-Some.tag.now c.in-Some-read_count.conn c.in-Some.ensures.cases.0 c.in-1.is c.in-Some-read_count.ensures
    (rw c.in-None-2.is at c.in_ok-change-in-1.ensures)

pub returns-in-None-read_number : goal.returns-in-None-read_number
returns-in-None-read_number c =
    no_undo_to c.args.bytes.now c.in-Some.rest.now c.in-Some-read_count.rest.now c.in-Some.tag.now c.in-Some-read_count.conn c.in-Some.ensures.cases.0 c.in-2.is c.in-Some-read_count.ensures
    c.in-None-read_number.ensures
