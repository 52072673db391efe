use Rattle.std.proofs.Common.{◌≡◌, ◌≤◌, length, take}
use Rattle.wat_history.specs.Connection.{back_from}
use Rattle.wat_connection.specs.Savepoints.{saves_of}
use Rattle.wat_connection.proofs.savepoints.up_to_newest.Given as goal

abbrev pub invariant-loop-left : goal.invariant-loop-left
invariant-loop-left l =
    (l.left ≤ length l.savepoints) × (back_from l.name (saves_of l.savepoints) ≡ back_from l.name (saves_of (take l.left l.savepoints)))

abbrev pub decreases-loop-left : goal.decreases-loop-left
decreases-loop-left l = l.left
