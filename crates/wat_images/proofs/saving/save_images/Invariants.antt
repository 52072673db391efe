use Rattle.std.proofs.Common.{◌≡◌, ◌≤◌, ◌-◌, length, take}
use Rattle.wat_disk.specs.Disk.{SameOthers, EachStop}
use Rattle.wat_faults.specs.Faults.{HasCause}
use Rattle.wat_gate.specs.GateLog.{file_of, IsLogOf}
use Rattle.wat_restore.specs.Restored.{Checkpoint}
use Rattle.wat_restore.specs.Safe.{IsSafe, CanSave, HasSaved, Covers}
use Rattle.wat_images.proofs.saving.save_images.Given as goal

abbrev pub invariant-loop-at : goal.invariant-loop-at
invariant-loop-at g l = record {
  within : l.at ≤ length l.pages;
  known : g.D.Disk.tells_content → IsLogOf (g.D.Disk.told l.disk) l.before;
  file : file_of l.before ≡ 1;
  others : SameOthers 1 (g.D.Disk.told l.fn.disk).content (g.D.Disk.told l.disk).content;
  saved : g.D.Disk.tells_content → (saved : Checkpoint) → IsSafe saved (g.D.Disk.told l.fn.disk) → CanSave saved ((g.D.Disk.told l.fn.disk).content 1) l.pages
      → HasSaved saved (g.D.Disk.told l.fn.disk) (g.D.Disk.told l.disk) (take l.at l.pages);
  stops : g.D.Disk.tells_content → (saved : Checkpoint) → IsSafe saved (g.D.Disk.told l.fn.disk) → CanSave saved ((g.D.Disk.told l.fn.disk).content 1) l.pages
      → EachStop (g.D.Disk.told l.fn.disk) (g.D.Disk.told l.disk) (Covers saved);
  cause : HasCause (g.D.Disk.told l.fn.disk).faults (g.D.Disk.told l.disk).faults ⊥;
}

abbrev pub decreases-loop-at : goal.decreases-loop-at
decreases-loop-at g l = length l.pages - l.at
