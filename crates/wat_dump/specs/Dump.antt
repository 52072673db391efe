-- The text of SQL that tables are written as: of each table the statements that make it, by the schema of all.
use Rattle.std.specs.Prelude.{ℕ, List, [], ◌∷◌, ◌++◌, map}
use Rattle.std.specs.List.{flat_map}
use Rattle.std.specs.Option.{option_to_list}
use Rattle.wat_value.specs.declared.definition.TableDef.{TableDef}
use Rattle.wat_value.specs.declared.definition.IndexDef.{IndexDef}
use Rattle.wat_value.specs.declared.change.Change.TheVariants.{Insert}
use Rattle.wat_value.specs.declared.change.SchemaChange.TheVariants.{CreateTable, CreateIndex}
use Rattle.wat_value.specs.declared.change.Act.{Act}
use Rattle.wat_value.specs.declared.change.Act.TheVariants.{OnRow, OnSchema}
use Rattle.wat_ast.specs.declared.statement.Statement.{Statement}
use Rattle.wat_ast.specs.declared.statement.Statement.TheVariants.{Commit}
use Rattle.wat_schema.specs.Catalog.{Catalog}
use Rattle.wat_schema.specs.Tables.{Row, Table, Tables, catalog_of}
use Rattle.wat_written.specs.Written.{statement_of}
use Rattle.wat_script_texts.specs.Texts.{script_text}

abbrev pub table_made : TableDef → Act
table_made def = OnSchema (CreateTable def)

abbrev pub index_made : IndexDef → Act
index_made index = OnSchema (CreateIndex index)

abbrev pub row_made : TableDef → Row → Act
row_made def row = OnRow (Insert def.number row)

-- the acts that make a table: the table, its indexes by number, and its rows in key order
abbrev pub makings : Table → List Act
makings x = table_made x.def ∷ (map index_made x.indexes ++ map (row_made x.def) x.rows)

-- the statement that writes an act over the schema
abbrev pub written : Catalog → Act → List Statement
written c act = option_to_list (statement_of c act)

-- COMMIT, where there are rows
abbrev pub commit_of : List Row → List Statement
commit_of [] = []
commit_of (row ∷ rows) = Commit ∷ []

-- the statements that make a table
abbrev pub table_statements : Catalog → Table → List Statement
table_statements c x = flat_map (written c) (makings x) ++ commit_of x.rows

-- those of all tables, by number
abbrev pub dumped : Tables → List Statement
dumped t = flat_map (table_statements (catalog_of t)) t.tables

-- their text, a statement on each line
abbrev pub dump_text : Tables → List ℕ
dump_text t = script_text (dumped t)
