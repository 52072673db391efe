use Rattle.std.proofs.Common.{◌≡◌, ◌+◌, ◌≤◌, ℕ, length}
use Rattle.wat_restore.specs.Restored.{Checkpoint}
use Rattle.wat_restore.specs.Safe.{IsSafe}
use Rattle.wat_pages.specs.Pages.{IsPagesOf}
use Rattle.wat_cells.specs.Going.{Goes, Keeps}
use Rattle.wat_log_record.specs.declared.log_record.LogRecord.TheVariants.{UndoTo}
use Rattle.wat_faults.specs.Faults.{HasCause}
use Rattle.wat_replay.specs.State.{State, IsLawful}
use Rattle.wat_replay.specs.Replay.{Applies}
use Rattle.wat_objects.specs.Objects.{pages_of, Holds}
use Rattle.wat_store.proofs.taking_back.undo_changes.Given as goal

abbrev pub invariant-loop-i : goal.invariant-loop-i
invariant-loop-i g l = record {
  undone : g.D.Disk.tells_content → (s : State) → Holds (g.D.Disk.told l.fn.disk) l.fn.objects s → IsLawful s → l.count ≤ length (s.lists l.conn) → (n : ℕ) → n + l._i ≡ length (s.lists l.conn) + l.count
      → (mid : State) × Applies (UndoTo l.conn n) s mid × Holds (g.D.Disk.told l.disk) l.objects mid;
  goes : g.D.Disk.tells_content → Goes (g.D.Disk.told l.fn.disk) (g.D.Disk.told l.disk) (pages_of l.fn.objects) (pages_of l.objects);
  keeps : g.D.Disk.tells_content → Keeps (g.D.Disk.told l.fn.disk) (g.D.Disk.told l.disk) (pages_of l.objects);
  same : (g.D.Disk.told l.disk).faults ≡ (g.D.Disk.told l.fn.disk).faults;
}
