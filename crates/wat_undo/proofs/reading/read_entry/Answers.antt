use Rattle.wat_undo.proofs.Spelling.{no_entry_conn, no_entry_count, no_entry_changes}
use Rattle.wat_undo.proofs.reading.read_entry.Goals as goal

pub returns-in_default : goal.returns-in_default
returns-in_default c = no_entry_conn c.args.bytes.now c.in_default.ensures

pub returns-in_default-read_number : goal.returns-in_default-read_number
returns-in_default-read_number c = no_entry_count c.args.bytes.now c.in-Some.rest.now c.in-Some.conn c.in-Some.ensures c.in_default-read_number.ensures

pub returns-in-None : goal.returns-in-None
returns-in-None c =
    no_entry_changes c.args.bytes.now c.in-Some.rest.now c.in-Some-read_number.rest.now c.in-Some.conn c.in-Some-read_number.count c.in-Some.ensures c.in-Some-read_number.ensures (rw c.in-None.is at c.in_ok-changes.ensures)
