-- What loops over definitions and over rows have written. Only functions within the crate cite this.
use Rattle.std.specs.Prelude.{◌==◌, List, [], ◌∷◌, ◌++◌, map, Option, Some, None}
use Rattle.std.specs.List.{filter, flat_map}
use Rattle.wat_value.specs.declared.definition.TableDef.{TableDef}
use Rattle.wat_value.specs.declared.definition.IndexDef.{IndexDef}
use Rattle.wat_ast.specs.declared.statement.Statement.{Statement}
use Rattle.wat_expr.specs.Evaluation.{Combination}
use Rattle.wat_schema.specs.Catalog.{Catalog}
use Rattle.wat_schema.specs.Tables.{Row, Table, Tables, catalog_of, rows_or_none}
use Rattle.wat_meaning.specs.Meaning.{sole_row, table_called}
use Rattle.wat_dump.specs.Dump.{commit_of, index_made, row_made, table_statements, written}

-- the statement of the row of a combination
abbrev pub combination_statements : Catalog → TableDef → Combination → List Statement
combination_statements c def rows = written c (row_made def (sole_row rows))

-- the statements of those indexes that are the table's
abbrev pub index_statements : Catalog → TableDef → List IndexDef → List Statement
index_statements c def indexes = flat_map (written c) (map index_made (filter (λ index. def.number == index.table) indexes))

abbrev pub row_statements : Catalog → TableDef → List Row → List Statement
row_statements c def rows = flat_map (written c) (map (row_made def) rows)

-- the statements of the table with the definition
abbrev pub statements_called : Tables → List IndexDef → TableDef → List Statement
statements_called t indexes def =
    table_statements (catalog_of t) (record { def = def; indexes = filter (λ index. def.number == index.table) indexes; rows = rows_or_none (table_called t def.name) })
