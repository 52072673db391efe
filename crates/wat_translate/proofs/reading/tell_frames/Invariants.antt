use Rattle.std.proofs.Common.{◌≡◌, ◌≤◌, ◌-◌}
use Rattle.wat_disk.specs.Disk.{SameFiles, EachStop}
use Rattle.wat_faults.specs.Faults.{HasCause}
use Rattle.wat_gate.specs.GateLog.{file_of, frames_of, IsLogOf, IsGateOf}
use Rattle.wat_translate.specs.Reading.{HasRead}
use Rattle.wat_translate.proofs.reading.tell_frames.Given as goal

abbrev pub invariant-loop-place : goal.invariant-loop-place
invariant-loop-place g l = record {
  known : g.D.Disk.tells_content → IsLogOf (g.D.Disk.told l.disk) l.log;
  place : g.D.Disk.tells_content → IsGateOf (g.D.Disk.told l.disk) l.log l.place;
  read : g.D.Disk.tells_content → HasRead ((g.D.Disk.told l.disk).content (file_of l.log)) l.place.gate l.reader l.text.items;
  within : l.place.gate ≤ frames_of l.log;
  content : SameFiles (g.D.Disk.told l.fn.disk).content (g.D.Disk.told l.disk).content;
  stops : EachStop (g.D.Disk.told l.fn.disk) (g.D.Disk.told l.disk) SameFiles;
  cause : HasCause (g.D.Disk.told l.fn.disk).faults (g.D.Disk.told l.disk).faults ⊥;
}

abbrev pub decreases-loop-place : goal.decreases-loop-place
decreases-loop-place g l = frames_of l.log - l.place.gate
