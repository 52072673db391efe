use Rattle.wat_record.proofs.ReadingLemmas.{no_column_kind, no_column_flag}
use Rattle.wat_record.proofs.reading.read_column.Goals as goal

pub returns-in_default-read_kind : goal.returns-in_default-read_kind
returns-in_default-read_kind c =
    no_column_kind c.args.bytes.now c.in-Some.rest.now c.in-Some.name (rw c.in-Some.is at c.in_ok-name.ensures) c.in_default-read_kind.ensures

pub returns-in_default-read_flag : goal.returns-in_default-read_flag
returns-in_default-read_flag c =
    no_column_flag c.args.bytes.now c.in-Some.rest.now c.in-Some-read_kind.rest.now c.in-Some.name c.in-Some-read_kind.kind (rw c.in-Some.is at c.in_ok-name.ensures) c.in-Some-read_kind.ensures c.in_default-read_flag.ensures
