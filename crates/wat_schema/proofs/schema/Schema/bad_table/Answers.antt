use Rattle.wat_schema.proofs.schema.Schema.bad_table.Goals as goal

pub returns : goal.returns
returns c = rw (c.is_full.ensures, c.as_slice.ensures, c.as_slice-2.ensures) at c.bad_table.ensures
