use Rattle.std.proofs.Common.{◌≡◌, ◌+◌, ◌≤◌, ◌++◌, length, map, take, drop, reverse}
use Rattle.wat_connection.proofs.TransactionLemmas.{undo}
use Rattle.wat_connection.proofs.transaction.take_back.Given as goal

abbrev pub invariant-loop-changes : goal.invariant-loop-changes
invariant-loop-changes l =
    (take l.left l.changes.items ≡ take l.left l.fn.changes.items)
    × (l.acts.items ++ map undo (reverse (drop l.left l.changes.items)) ≡ map undo (reverse (drop l.left l.fn.changes.items)))
    × (length l.changes.items ≤ l.left + l.acts.spare)

abbrev pub decreases-loop-changes : goal.decreases-loop-changes
decreases-loop-changes l = length l.changes.items
