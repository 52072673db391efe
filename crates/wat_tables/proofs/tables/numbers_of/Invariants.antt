use Rattle.std.proofs.Common.{◌≡◌, map, take}
use Rattle.wat_value.specs.declared.definition.TableDef.{TableDef}
use Rattle.wat_tables.proofs.tables.numbers_of.Given as goal

abbrev pub invariant-loop-def : goal.invariant-loop-def
invariant-loop-def l = l.numbers.keys ≡ map (λ (def : TableDef). def.number) (take l.def-index l.fn.defs)
