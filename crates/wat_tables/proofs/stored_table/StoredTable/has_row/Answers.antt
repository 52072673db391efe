use Rattle.std.proofs.Common.{◌≡◌, false, ap, ap₂, sym, ◌∙◌}
use Rattle.std.specs.BTreeMap.{is_at}
use Rattle.std.specs.Map.{lookup}
use Rattle.std.specs.Option.{option_map_or}
use Rattle.std.specs.Ordering.{is_eq}
use Rattle.wat_value.specs.Fits.{key_of}
use Rattle.wat_value.specs.Order.{key_cmp}
use Rattle.wat_schema.specs.Tables.{Table, has_row, row_eq}
use Rattle.wat_meaning.specs.Meaning.{sole_row}
use Rattle.wat_tables.specs.Held.{rows_of}
use Rattle.wat_tables.proofs.Rows.{stands_in}
use Rattle.wat_tables.proofs.stored_table.StoredTable.has_row.Goals as goal

pub returns-in-Some : goal.returns-in-Some
returns-in-Some c =
    let x : Table = record { def = c.self.inside.def; indexes = c.self.inside.indexes; rows = rows_of c.self.inside.rows.entries } in
    c.is_eq.ensures ∙ ap is_eq c.compare_rows.ensures ∙ ap₂ row_eq c.as_slice.ensures c.sole_row.ensures
    ∙ ap (λ o. option_map_or (λ found. row_eq c.args.row.now (sole_row found)) o false) c.in-Some.ensures.value
    ∙ stands_in x c.self.inside.rows.entries c.args.row.now c.args.key.now c.self.invariant (c.requires ∙ ap (λ (t : Table). key_of t.def c.args.row.now) (sym c.self.view_is))
    ∙ ap (λ t. has_row t c.args.row.now) c.self.view_is

pub returns-in-None : goal.returns-in-None
returns-in-None c =
    let x : Table = record { def = c.self.inside.def; indexes = c.self.inside.indexes; rows = rows_of c.self.inside.rows.entries } in
    ap (λ o. option_map_or (λ found. row_eq c.args.row.now (sole_row found)) o false) c.in-None.ensures.value
    ∙ stands_in x c.self.inside.rows.entries c.args.row.now c.args.key.now c.self.invariant (c.requires ∙ ap (λ (t : Table). key_of t.def c.args.row.now) (sym c.self.view_is))
    ∙ ap (λ t. has_row t c.args.row.now) c.self.view_is
