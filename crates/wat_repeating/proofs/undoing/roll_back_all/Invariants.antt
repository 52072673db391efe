use Rattle.std.proofs.Common.{◌≡◌, ◌≤◌, ◌<◌, ◌-◌, ◌*◌, ℕ, [], length, Some}
use Rattle.std.specs.Prelude.{None}
use Rattle.wat_faults.specs.Faults.{HasCause}
use Rattle.wat_log.specs.Log.{gate_of, noted_bytes}
use Rattle.wat_schema.specs.Tables.{Tables}
use Rattle.wat_replay.specs.State.{State, IsLawful, undone}
use Rattle.wat_repeating.specs.OnPages.{told_of, refusal_of, Stands, Moves}
use Rattle.wat_repeating.specs.Repeated.{RollsBack}
use Rattle.wat_repeating.proofs.undoing.roll_back_all.Given as goal

abbrev pub invariant-loop-conn : goal.invariant-loop-conn
invariant-loop-conn g l = record {
  small : l.from ≤ 65536;
  short : length (noted_bytes l.log) ≤ 3 * l.from;
  gate : gate_of l.log ≡ gate_of l.fn.log;
  going : refusal_of l.on ≡ None;
  moves : Moves l.fn.on l.on;
  cause : HasCause (told_of l.fn.on).faults (told_of l.on).faults ⊥;
  state : (s : State) → Stands l.fn.on s → IsLawful s
      → (mid : State) × Stands l.on mid × IsLawful mid × RollsBack l.log s mid × ((t : Tables) → undone s ≡ Some t → undone mid ≡ Some t) × ((other : ℕ) → other < l.from → mid.lists other ≡ []);
}

abbrev pub decreases-loop-conn : goal.decreases-loop-conn
decreases-loop-conn g l = 65536 - l.from
