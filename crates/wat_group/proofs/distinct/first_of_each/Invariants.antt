use Rattle.std.proofs.Common.{◌≡◌, ◌++◌, [], map, drop}
use Rattle.wat_group.proofs.FirstOfEach.{unmet}
use Rattle.wat_group.proofs.distinct.first_of_each.Given as goal

abbrev pub invariant-loop-row : goal.invariant-loop-row
invariant-loop-row l = l.kept ++ unmet (map (λ s. s.now) l.seen.keys) (drop l.row-index l.row-items) ≡ unmet [] l.row-items
