use Rattle.std.proofs.Common.{◌≤◌, ◌<◌, ◌-◌, ◌*◌, ◌^◌, take}
use Rattle.wat_disk.specs.Disk.{SameFiles, EachStop, MakesCalls}
use Rattle.wat_faults.specs.Faults.{HasCause}
use Rattle.wat_gate.specs.GateLog.{frames_of, bodies_in, IsLogOf, IsGateOf}
use Rattle.wat_commit_log.specs.Opening.{AreBodies}
use Rattle.wat_commit_log.proofs.opening.read_frames.Given as goal

abbrev pub invariant-loop-place : goal.invariant-loop-place
invariant-loop-place g l = record {
  known : g.D.Disk.tells_content → IsLogOf (g.D.Disk.told l.disk) l.log;
  place : g.D.Disk.tells_content → IsGateOf (g.D.Disk.told l.disk) l.log l.place;
  read : g.D.Disk.tells_content → AreBodies (take l.place.gate (bodies_in (g.D.Disk.told l.disk) l.log)) l.tables;
  within : l.place.gate ≤ frames_of l.log;
  content : SameFiles (g.D.Disk.told l.fn.disk).content (g.D.Disk.told l.disk).content;
  stops : EachStop (g.D.Disk.told l.fn.disk) (g.D.Disk.told l.disk) SameFiles;
  calls : (g.D.Disk.told l.fn.disk).moment < 2 ^ 64 → MakesCalls (4 * l.place.gate) (g.D.Disk.told l.fn.disk) (g.D.Disk.told l.disk);
  cause : HasCause (g.D.Disk.told l.fn.disk).faults (g.D.Disk.told l.disk).faults ⊥;
}

abbrev pub decreases-loop-place : goal.decreases-loop-place
decreases-loop-place g l = frames_of l.log - l.place.gate
