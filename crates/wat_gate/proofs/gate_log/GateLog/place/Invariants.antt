use Rattle.std.proofs.Common.{◌≡◌, ◌+◌, ◌*◌, length}
use Rattle.wat_disk.specs.Disk.{SameFiles, EachStop, StillLeaves, MakesCalls}
use Rattle.wat_faults.specs.Faults.{HasCause}
use Rattle.wat_gate.specs.Bodies.{IsAtGate}
use Rattle.wat_gate.proofs.gate_log.GateLog.place.Given as goal

abbrev pub invariant-loop-passed : goal.invariant-loop-passed
invariant-loop-passed g l = record {
  walk : g.D.Disk.tells_content → IsAtGate ((g.D.Disk.told l.fn.disk).content l.file.0) l.at l.passed;
  size : g.D.Disk.tells_content → l.len ≡ length ((g.D.Disk.told l.fn.disk).content l.file.0);
  content : SameFiles (g.D.Disk.told l.fn.disk).content (g.D.Disk.told l.disk).content;
  stops : EachStop (g.D.Disk.told l.fn.disk) (g.D.Disk.told l.disk) SameFiles;
  unsynced : StillLeaves (g.D.Disk.told l.fn.disk) (g.D.Disk.told l.disk);
  calls : MakesCalls (2 * l.passed + 1) (g.D.Disk.told l.fn.disk) (g.D.Disk.told l.disk);
  cause : HasCause (g.D.Disk.told l.fn.disk).faults (g.D.Disk.told l.disk).faults ⊥;
}
