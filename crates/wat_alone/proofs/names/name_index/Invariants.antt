use Rattle.std.proofs.Common.{◌≡◌, map, take}
use Rattle.wat_history.specs.Naming.{with_index}
use Rattle.wat_alone.proofs.names.name_index.Given as goal

abbrev pub invariant-loop-name : goal.invariant-loop-name
invariant-loop-name l = l.all ≡ map (with_index l.index) (take l.name-index l.name-items)
