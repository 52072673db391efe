use Rattle.std.proofs.Common.{◌≡◌, take}
use Rattle.std.specs.List.{filter_map}
use Rattle.wat_written.specs.Written.{all_of, test_of}
use Rattle.wat_written.proofs.changes.tests_of.Given as goal

abbrev pub invariant-loop-number : goal.invariant-loop-number
invariant-loop-number l = l.tests ≡ all_of (filter_map (test_of l.fn.def l.fn.row) (take l.number-index l.fn.numbers))
