use Rattle.std.proofs.Common.{◌≡◌, ◌==◌, drop}
use Rattle.std.specs.List.{find}
use Rattle.wat_value.specs.declared.definition.TableDef.{TableDef}
use Rattle.wat_heap.proofs.taking.def_of.Given as goal

abbrev pub invariant-loop-def : goal.invariant-loop-def
invariant-loop-def l = find (λ (def : TableDef). l.table == def.number) l.defs ≡ find (λ (def : TableDef). l.table == def.number) (drop l.def-index l.defs)
