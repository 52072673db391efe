use Rattle.std.proofs.Common.{◌≡◌, ◌==◌, map, take}
use Rattle.std.specs.List.{filter}
use Rattle.wat_value.specs.declared.definition.IndexDef.{IndexDef}
use Rattle.wat_alone.proofs.names.own_indexes.Given as goal

abbrev pub invariant-loop-index : goal.invariant-loop-index
invariant-loop-index l = l.names ≡ map (λ (index : IndexDef). index.name) (filter (λ (index : IndexDef). l.table == index.table) (take l.index-index l.indexes))
