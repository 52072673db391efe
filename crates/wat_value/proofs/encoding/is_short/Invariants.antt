use Rattle.std.proofs.Common.{◌↔◌, drop}
use Rattle.std.specs.List.{AllByRecursion}
use Rattle.wat_value.specs.Encoding.{IsShortValue}
use Rattle.wat_value.proofs.encoding.is_short.Given as goal

abbrev pub invariant-loop-value : goal.invariant-loop-value
invariant-loop-value l = AllByRecursion IsShortValue l.value-items ↔ AllByRecursion IsShortValue (drop l.value-index l.value-items)
