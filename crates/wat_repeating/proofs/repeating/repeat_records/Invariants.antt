use Rattle.std.proofs.Common.{◌≡◌}
use Rattle.std.specs.Prelude.{None}
use Rattle.std.specs.List.{AllByRecursion}
use Rattle.wat_faults.specs.Faults.{HasCause}
use Rattle.wat_log_record.specs.Encoding.{IsWritable}
use Rattle.wat_replay.specs.State.{State, IsLawful}
use Rattle.wat_repeating.specs.OnPages.{told_of, refusal_of, Stands, Moves}
use Rattle.wat_repeating.proofs.Records.{Led}
use Rattle.wat_repeating.proofs.repeating.repeat_records.Given as goal

abbrev pub invariant-loop-entry : goal.invariant-loop-entry
invariant-loop-entry g l = record {
  going : refusal_of l.on ≡ None;
  moves : Moves l.fn.on l.on;
  cause : HasCause (told_of l.fn.on).faults (told_of l.on).faults ⊥;
  state : AllByRecursion IsWritable l.entries → (s : State) → Stands l.fn.on s → IsLawful s → Led l.entries l.entry-index s (Stands l.on);
}
