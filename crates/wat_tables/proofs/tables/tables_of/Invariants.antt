use Rattle.std.proofs.Common.{◌≡◌, ◌==◌, map, take}
use Rattle.std.specs.List.{filter}
use Rattle.wat_value.specs.declared.definition.TableDef.{TableDef}
use Rattle.wat_value.specs.declared.definition.IndexDef.{IndexDef}
use Rattle.wat_tables.specs.Acting.{empty_table}
use Rattle.wat_tables.proofs.tables.tables_of.Given as goal

abbrev pub invariant-loop-def : goal.invariant-loop-def
invariant-loop-def l = l.tables.items ≡ map (λ (def : TableDef). empty_table def (filter (λ (index : IndexDef). def.number == index.table) l.fn.indexes)) (take l.def-index l.fn.defs)
