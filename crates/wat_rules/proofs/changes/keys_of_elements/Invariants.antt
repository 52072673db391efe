use Rattle.std.proofs.Common.{◌≡◌, take}
use Rattle.wat_rules.specs.Changes.{keys_of}
use Rattle.wat_rules.proofs.changes.keys_of_elements.Given as goal

abbrev pub invariant-loop-element : goal.invariant-loop-element
invariant-loop-element l = l.keys ≡ keys_of (take l.element-index l.fn.elements)
