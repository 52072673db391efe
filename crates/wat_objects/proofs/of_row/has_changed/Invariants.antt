use Rattle.std.proofs.Common.{◌≡◌, take, false}
use Rattle.std.specs.List.{list_any}
use Rattle.wat_undo.specs.Kept.{lists_of}
use Rattle.wat_objects.proofs.Looking.{of_this}
use Rattle.wat_objects.proofs.of_row.has_changed.Given as goal

abbrev pub invariant-loop-i : goal.invariant-loop-i
invariant-loop-i l = list_any (of_this l.def l.table l.key) (take l.i (lists_of l.undo l.conn)) ≡ false
