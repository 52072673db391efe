-- The names of the tables and indexes of a session.
use Rattle.std.specs.Prelude.{◌==◌, List, [], ◌∷◌, ◌++◌, map, if◌then◌else◌}
use Rattle.std.specs.List.{fold}
use Rattle.wat_value.specs.declared.definition.TableDef.{TableDef}
use Rattle.wat_value.specs.declared.definition.IndexDef.{IndexDef}
use Rattle.wat_value.specs.declared.change.SchemaChange.TheVariants.{CreateTable, DropTable, CreateIndex}
use Rattle.wat_value.specs.declared.change.Act.{Act}
use Rattle.wat_value.specs.declared.change.Act.TheVariants.{OnRow, OnSchema}
use Rattle.wat_schema.specs.Tables.{Tables}
use Rattle.wat_conn.specs.declared.session.TableName.{TableName}

abbrev pub name_of : TableDef → List IndexDef → TableName
name_of def indexes = record { number = def.number; name = def.name; indexes = map (λ index. index.name) indexes }

-- a name, with that of the index where it is one of the table
abbrev pub with_index : IndexDef → TableName → TableName
with_index index n = if index.table == n.number then record n { indexes = n.indexes ++ index.name ∷ [] } else n

-- the names after an act: those of a table or an index that it creates come to them, and none goes
abbrev pub after_act : List TableName → Act → List TableName
after_act names (OnSchema (CreateTable def)) = names ++ name_of def [] ∷ []
after_act names (OnSchema (CreateIndex index)) = map (with_index index) names
after_act names (OnSchema (DropTable table)) = names
after_act names (OnRow change) = names

-- the names of the tables that stand, and of each that the acts create, dropped ones too
abbrev pub names_of : Tables → List Act → List TableName
names_of base acts = fold after_act (map (λ x. name_of x.def x.indexes) base.tables) acts
