-- Whether what a log tells of has names for names, as each definition that the program keeps does.
use Rattle.std.specs.Prelude.{Bool, true, ◌&&◌}
use Rattle.std.specs.List.{list_all}
use Rattle.wat_word.specs.Words.{is_name}
use Rattle.wat_value.specs.declared.definition.TableDef.{TableDef}
use Rattle.wat_value.specs.declared.change.Act.{Act}
use Rattle.wat_value.specs.declared.change.Act.TheVariants.{OnRow, OnSchema}
use Rattle.wat_value.specs.declared.change.SchemaChange.TheVariants.{CreateTable, CreateIndex, DropTable}
use Rattle.wat_schema.specs.Catalog.{Catalog}

abbrev pub has_names : TableDef → Bool
has_names def = is_name def.name && list_all (λ column. is_name column.name) def.columns

-- so of each table
abbrev pub all_named : Catalog → Bool
all_named c = list_all (λ t. has_names t.def) c.tables

-- so of what an act creates
abbrev pub act_named : Act → Bool
act_named (OnRow change) = true
act_named (OnSchema (CreateTable def)) = has_names def
act_named (OnSchema (DropTable table)) = true
act_named (OnSchema (CreateIndex index)) = is_name index.name
