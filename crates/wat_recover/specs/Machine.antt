-- The state that a machine is in.
use Rattle.wat_schema.specs.Tables.{Tables}
use Rattle.wat_replay.specs.State.{State}
use Rattle.wat_recover.specs.Listed.{lists_of}
use Rattle.wat_recover.specs.declared.machine.Machine.{Machine}

abbrev pub state_of : {T : Type 0} → (T → Tables) → Machine T → State
state_of tables m = record { tables = tables m.tables; lists = lists_of m.lists }
