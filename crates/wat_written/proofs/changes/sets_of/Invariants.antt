use Rattle.std.proofs.Common.{◌≡◌}
use Rattle.std.specs.List.{filter_map, range_with_len}
use Rattle.wat_written.specs.Written.{set_unless_key}
use Rattle.wat_written.proofs.changes.sets_of.Given as goal

abbrev pub invariant-loop-number : goal.invariant-loop-number
invariant-loop-number l = l.sets ≡ filter_map (set_unless_key l.fn.def l.fn.row) (range_with_len 0 l.number)
