use Rattle.std.proofs.Common.{◌≡◌, ◌≢◌, ◌≤◌, ◌<◌, ◌-◌, ℕ, false}
use Rattle.std.specs.List.{list_any}
use Rattle.wat_undo.specs.Kept.{lists_of}
use Rattle.wat_recover.specs.Asked.{is_of_row}
use Rattle.wat_objects.proofs.of_row.is_changed_by_other.Given as goal

abbrev pub invariant-loop-other : goal.invariant-loop-other
invariant-loop-other l = record {
  small : l.from ≤ 65536;
  none : (other : ℕ) → other < l.from → other ≢ l.conn → list_any (is_of_row l.schema l.table l.key) (lists_of l.undo other) ≡ false;
}

abbrev pub decreases-loop-other : goal.decreases-loop-other
decreases-loop-other l = 65536 - l.from
