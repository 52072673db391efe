-- What is known of files that are read, and of a database that is brought up.
use Rattle.std.specs.Prelude.{◌≡◌, ℕ, List, [], Some, drop}
use Rattle.wat_disk.specs.Disk.{Told}
use Rattle.wat_disk.specs.declared.disk.Disk.{Ghosts}
use Rattle.wat_gate.specs.Bodies.{bodies}
use Rattle.wat_gate.specs.GateLog.{IsGateOf}
use Rattle.wat_pages.specs.Pages.{limit_of, stored_of, header_of, IsPagesOf}
use Rattle.wat_schema.specs.Tables.{Tables}
use Rattle.wat_log.specs.declared.record_log.Log.{Log}
use Rattle.wat_log.specs.Log.{gate_of, noted_bytes, IsOpenLog}
use Rattle.wat_replay.specs.State.{State, IsLawful, undone}
use Rattle.wat_files.specs.Formed.{AppliesBodies}
use Rattle.wat_keeping.specs.Kept.{IsKept}
use Rattle.wat_objects.specs.declared.objects.Objects.{Objects}
use Rattle.wat_objects.specs.Objects.{pages_of, Holds}
use Rattle.wat_repeating.specs.declared.on_pages.OnPages.{OnPages}
use Rattle.wat_repeating.specs.OnPages.{told_of, Stands}
use Rattle.wat_repeating.specs.Repeated.{RollsBack}
use Rattle.wat_opening.specs.Opening.{settled}

-- The pages and the log read as they were left, nothing is noted, and the header of the last checkpoint has the place of a gate of the log.
pub record AreRead (told : Told) (objects : Objects) (log : Log) : Type 0 where
  pub pages : IsPagesOf told (pages_of objects)
  pub records : IsOpenLog told log
  pub noted : noted_bytes log ≡ []
  pub place : IsGateOf told (gate_of log) (record { gate = (header_of (pages_of objects)).frames; at = (header_of (pages_of objects)).place })

-- the bodies of the log behind the last checkpoint
abbrev pub later_in : Told → Objects → List (List ℕ)
later_in told objects = drop (header_of (pages_of objects)).frames (bodies (told.content 2))

-- The objects hold what the pages of the last checkpoint stand for. The records behind it lead on to a state, and whatever a stop now may leave is a database of these tables.
pub record IsRead (told : Told) (objects : Objects) (limit : ℕ) (t : Tables) : Type 0 where
  pub saved : State
  pub now : State
  pub holds : Holds told objects saved
  pub lawful : IsLawful saved
  pub later : AppliesBodies (later_in told objects) saved now
  pub kept : IsKept (limit_of (pages_of objects)) (stored_of (pages_of objects)) told [] now t
  pub limited : limit_of (pages_of objects) ≡ limit

-- The records of the log from a gate on lead from the one state to another, of which these tables are committed. The pages hold these then, with no change left, and the log has noted the rolling back.
pub record BringsUp {D : Type 0} {g : Ghosts D} (x y : OnPages D g) (from : ℕ) (log : Log) (s : State) : Type 0 where
  pub now : State
  pub tables : Tables
  pub applied : AppliesBodies (drop from (bodies ((told_of x).content 2))) s now
  pub lawful : IsLawful now
  pub committed : undone now ≡ Some tables
  pub stands : Stands y (settled tables)
  pub rolls : RollsBack log now (settled tables)
