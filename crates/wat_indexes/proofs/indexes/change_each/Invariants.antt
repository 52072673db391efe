use Rattle.std.proofs.Common.{◌≡◌, ◌++◌, map, drop, take}
use Rattle.std.specs.Option.{option_copied}
use Rattle.wat_indexes.specs.Kept.{with_row_changed}
use Rattle.wat_indexes.proofs.indexes.change_each.Given as goal

abbrev pub invariant-loop-index : goal.invariant-loop-index
invariant-loop-index l = l.kept ≡ map (with_row_changed l.table (option_copied l.before) (option_copied l.after)) (take l.index-index l.initial.kept) ++ drop l.index-index l.initial.kept
