use Rattle.std.proofs.Common.{◌≡◌, ◌+◌, drop}
use Rattle.std.specs.List.{prefix_len}
use Rattle.wat_value.specs.Order.{key_eq}
use Rattle.wat_group.proofs.grouping.run_length.Given as goal

abbrev pub invariant-loop-length : goal.invariant-loop-length
invariant-loop-length l = l.length + prefix_len (λ entry. key_eq l.key entry.key) (drop l.length l.sorted) ≡ prefix_len (λ entry. key_eq l.key entry.key) l.sorted
