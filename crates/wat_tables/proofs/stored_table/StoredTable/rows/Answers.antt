use Rattle.std.proofs.Common.{map, ap, ◌∙◌}
use Rattle.std.specs.Map.{values_of}
use Rattle.wat_schema.specs.Tables.{Table}
use Rattle.wat_meaning.specs.Meaning.{alone}
use Rattle.wat_tables.specs.Held.{rows_of}
use Rattle.wat_tables.proofs.Rows.{values_keyed}
use Rattle.wat_tables.proofs.stored_table.StoredTable.rows.Goals as goal

pub returns : goal.returns
returns c =
    c.values.ensures.rest ∙ ap values_of c.self.invariant.keyed ∙ values_keyed c.self.inside.def (rows_of c.self.inside.rows.entries)
    ∙ ap (λ (t : Table). map alone t.rows) c.self.view_is
