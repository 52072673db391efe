use Rattle.wat_record.proofs.ReadingLemmas.{no_table_name, no_table_columns, no_table_key}
use Rattle.wat_record.proofs.reading.read_table.Goals as goal

pub returns-in_default-2 : goal.returns-in_default-2
returns-in_default-2 c = no_table_name c.args.bytes.now c.in-Some.rest.now c.in-Some.number c.in-Some.ensures (rw c.in_default-2.is at c.in_ok-name.ensures)

pub returns-in_default-3 : goal.returns-in_default-3
returns-in_default-3 c =
    no_table_columns c.args.bytes.now c.in-Some.rest.now c.in-Some-2.rest.now c.in-Some-2.name c.in-Some.number c.in-Some.ensures
    (rw c.in-Some-2.is at c.in_ok-name.ensures) (rw c.in_default-3.is at c.in_ok-columns.ensures)

pub returns-in_default-4 : goal.returns-in_default-4
returns-in_default-4 c =
    no_table_key c.args.bytes.now c.in-Some.rest.now c.in-Some-2.rest.now c.in-Some-3.rest.now c.in-Some-2.name c.in-Some.number c.in-Some-3.columns c.in-Some.ensures
    (rw c.in-Some-2.is at c.in_ok-name.ensures) (rw c.in-Some-3.is at c.in_ok-columns.ensures) (rw c.in_default-4.is at c.in_ok-key.ensures)
