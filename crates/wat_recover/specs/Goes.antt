-- What a call on a target leaves beside its state, and what an application of a record answers.
use Rattle.std.specs.Prelude.{◌≡◌, ℕ, List, [], ◌∷◌, ◌++◌, Bool, true, false}
use Rattle.wat_faults.specs.Faults.{HasCause}
use Rattle.wat_value.specs.declared.change.Change.{Change}
use Rattle.wat_log_record.specs.declared.log_record.LogRecord.{LogRecord}
use Rattle.wat_replay.specs.State.{State, Lists, with_list}
use Rattle.wat_replay.specs.Replay.{Applies}

-- A call went on, and a failure was counted exactly where it failed.
pub record Went {X : Type 0} (goes : X → X → Type 0) (failures : X → ℕ) (old new : X) (failed : Type 0) : Type 0 where
  pub beside : goes old new
  pub cause : HasCause (failures old) (failures new) failed

-- A connection's last change was taken off its list.
pub record Popped (conn : ℕ) (change : Change) (old new : Lists) : Type 0 where
  pub rest : List Change
  pub was : old conn ≡ rest ++ change ∷ []
  pub is : new ≡ with_list conn rest old

-- Where the record was made, the next state stands. Where it wasn't, it applies to none, and the state stands as before.
abbrev pub Answers : (State → Type 0) → LogRecord → State → Bool → Type 0
Answers stands entry s true = (next : State) × Applies entry s next × stands next
Answers stands entry s false = ((next : State) → Applies entry s next → ⊥) × stands s
