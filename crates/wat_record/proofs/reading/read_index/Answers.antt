use Rattle.wat_record.proofs.ReadingLemmas.{no_index_name, no_index_columns, ordinal_begins}
use Rattle.wat_record.proofs.reading.read_index.Goals as goal

pub returns-in_default-2 : goal.returns-in_default-2
returns-in_default-2 c =
    no_index_name c.args.bytes.now c.in-Some.rest.now c.in-Some-read_number.rest.now c.in-Some.number.now c.in-Some-read_number.table
    (ordinal_begins c.args.bytes.now c.in-Some.rest.now c.in-Some.number.now c.in-Some.ensures.cases.0 c.if-number-eq0.false) c.in-Some-read_number.ensures
    (rw c.in_default-2.is at c.in_ok-name.ensures)

pub returns-in_default-3 : goal.returns-in_default-3
returns-in_default-3 c =
    no_index_columns c.args.bytes.now c.in-Some.rest.now c.in-Some-read_number.rest.now c.in-Some-2.rest.now c.in-Some-2.name c.in-Some.number.now c.in-Some-read_number.table
    (ordinal_begins c.args.bytes.now c.in-Some.rest.now c.in-Some.number.now c.in-Some.ensures.cases.0 c.if-number-eq0.false) c.in-Some-read_number.ensures
    (rw c.in-Some-2.is at c.in_ok-name.ensures) (rw c.in_default-3.is at c.in_ok-columns.ensures)
