use Rattle.std.proofs.Common.{Some, ap, ◌∙◌}
use Rattle.std.specs.Option.{option_map}
use Rattle.wat_schema.specs.Tables.{Table, row_with}
use Rattle.wat_meaning.specs.Meaning.{sole_row}
use Rattle.wat_tables.specs.Held.{rows_of}
use Rattle.wat_tables.proofs.Rows.{row_under}
use Rattle.wat_tables.proofs.stored_table.StoredTable.row.Goals as goal

pub returns-in-Some : goal.returns-in-Some
returns-in-Some c =
    let x : Table = record { def = c.self.inside.def; indexes = c.self.inside.indexes; rows = rows_of c.self.inside.rows.entries } in
    ap Some c.sole_row.ensures ∙ ap (option_map sole_row) c.in-Some.ensures.value ∙ row_under x c.self.inside.rows.entries c.args.key.now c.self.invariant
    ∙ ap (λ (t : Table). row_with t c.args.key.now) c.self.view_is

pub returns-in-None : goal.returns-in-None
returns-in-None c =
    let x : Table = record { def = c.self.inside.def; indexes = c.self.inside.indexes; rows = rows_of c.self.inside.rows.entries } in
    ap (option_map sole_row) c.in-None.ensures.value ∙ row_under x c.self.inside.rows.entries c.args.key.now c.self.invariant
    ∙ ap (λ (t : Table). row_with t c.args.key.now) c.self.view_is
