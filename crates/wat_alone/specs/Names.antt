-- The names of tables with those of their indexes.
use Rattle.std.specs.Prelude.{◌==◌, List}
use Rattle.std.specs.List.{filter}
use Rattle.wat_value.specs.declared.definition.TableDef.{TableDef}
use Rattle.wat_value.specs.declared.definition.IndexDef.{IndexDef}
use Rattle.wat_conn.specs.declared.session.TableName.{TableName}
use Rattle.wat_history.specs.Naming.{name_of}

-- the name of a table, with those of its indexes among these
abbrev pub named_by : List IndexDef → TableDef → TableName
named_by indexes def = name_of def (filter (λ (index : IndexDef). def.number == index.table) indexes)
