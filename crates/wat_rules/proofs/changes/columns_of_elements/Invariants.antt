use Rattle.std.proofs.Common.{◌≡◌, take}
use Rattle.std.specs.List.{filter_map}
use Rattle.wat_rules.specs.Changes.{column_of}
use Rattle.wat_rules.proofs.changes.columns_of_elements.Given as goal

abbrev pub invariant-loop-element : goal.invariant-loop-element
invariant-loop-element l = l.columns ≡ filter_map column_of (take l.element-index l.fn.elements)
