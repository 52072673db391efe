use Rattle.std.proofs.Common.{◌≡◌, ◌≤◌, ◌-◌}
use Rattle.std.specs.Prelude.{None}
use Rattle.wat_faults.specs.Faults.{HasCause}
use Rattle.wat_gate.specs.Bodies.{bodies}
use Rattle.wat_gate.specs.GateLog.{IsGateOf}
use Rattle.wat_log.specs.Log.{IsOpenLog, gate_of, log_frames}
use Rattle.wat_replay.specs.State.{State, IsLawful}
use Rattle.wat_repeating.specs.OnPages.{told_of, refusal_of, Stands, Moves}
use Rattle.wat_repeating.proofs.Records.{Reached}
use Rattle.wat_repeating.proofs.repeating.repeat.Given as goal

abbrev pub invariant-loop-place : goal.invariant-loop-place
invariant-loop-place g l = record {
  going : refusal_of l.on ≡ None;
  moves : Moves l.fn.on l.on;
  cause : HasCause (told_of l.fn.on).faults (told_of l.on).faults ⊥;
  log : g.D.Disk.tells_content → IsOpenLog (told_of l.on) l.log;
  place : g.D.Disk.tells_content → IsGateOf (told_of l.on) (gate_of l.log) l.place;
  later : l.fn.from.gate ≤ l.place.gate;
  state : (s : State) → Stands l.fn.on s → IsLawful s → Reached (bodies ((told_of l.fn.on).content 2)) l.fn.from.gate l.place.gate s (Stands l.on);
}

abbrev pub decreases-loop-place : goal.decreases-loop-place
decreases-loop-place g l = log_frames l.log - l.place.gate
