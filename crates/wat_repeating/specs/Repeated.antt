-- Where repeating fails, and what rolling back leaves in the log.
use Rattle.std.specs.Prelude.{◌≡◌, ℕ, List, map}
use Rattle.std.specs.List.{AllByRecursion}
use Rattle.wat_log_record.specs.declared.log_record.LogRecord.TheVariants.{Rollback}
use Rattle.wat_log.specs.declared.record_log.Log.{Log}
use Rattle.wat_log.specs.Log.{HasNoted}
use Rattle.wat_replay.specs.State.{State}
use Rattle.wat_replay.specs.Replay.{AppliesAll}
use Rattle.wat_replay.specs.Committed.{CommitsNothing}
use Rattle.wat_files.specs.Formed.{AppliesBody}

-- The place is that of the frame in the log, and its records don't apply to the state.
pub record StopsThere (here : ℕ) (body : List ℕ) (s : State) (file at : ℕ) : Type 0 where
  pub in_log : file ≡ 2
  pub place : at ≡ here
  pub none : (next : State) → AppliesBody body s next → ⊥

-- These records are noted: one of rolling back for each of some connections. They commit nothing, and lead from the one state to the other.
pub record RollsBack (log : Log) (s last : State) : Type 0 where
  pub conns : List ℕ
  pub noted : HasNoted log (map Rollback conns)
  pub applied : AppliesAll (map Rollback conns) s last
  pub quiet : AllByRecursion CommitsNothing (map Rollback conns)
