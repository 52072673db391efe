-- The lock table guards a scan.
use Rattle.std.specs.Prelude.{◌≡◌, ℕ, true, List, ◌⊎◌}
use Rattle.wat_list.specs.Has.{Has}
use Rattle.wat_value.specs.declared.value.Value.{Value}
use Rattle.wat_value.specs.Changes.{RowName}
use Rattle.wat_isolation.specs.Rows.{Cut, Within, before}
use Rattle.wat_isolation.specs.Logs.{Scan}
use Rattle.wat_isolation.specs.Machine as machine
use Rattle.wat_isolation.specs.Sql.{sql, IndexName}
use Rattle.wat_locks.specs.declared.held.Held.{Held}
use Rattle.wat_locks.specs.Held.{entry}
use Rattle.wat_level.specs.Wanted.{long_want, read_lock, write_lock, phantom_lock}
use Rattle.wat_protocol.specs.Locked.{place_of}

-- the connection has a long Phantom on the first position past the cut, or on the end
abbrev pub LocksGap : machine.State sql → List Held → ℕ → IndexName → Cut sql → Type 0
LocksGap s held c i cut = (q : machine.Place sql) × machine.IsFirst sql s i cut q × Has (entry c (long_want (phantom_lock i.table i.index (place_of q)))) held

-- it has a long Read or Write on the row
abbrev pub LocksRow : List Held → ℕ → RowName → Type 0
LocksRow held c r = Has (entry c (long_want (read_lock r.table r.key))) held ⊎ Has (entry c (long_want (write_lock r.table r.key))) held

-- the gap that each key of the scan lies in, the row of each position there, and past a finished scan the gap behind it
pub record IsGuarded (s : machine.State sql) (held : List Held) (c : ℕ) (at : Scan sql) : Type 0 where
  pub gaps : (key : List Value) → Within sql at.lo at.hi key → LocksGap s held c at.index (before sql key)
  pub rows : (key : List Value) → Within sql at.lo at.hi key → machine.IsPos sql s at.index key → LocksRow held c (s.scheme.row_of at.index key)
  pub past : at.done ≡ true → LocksGap s held c at.index at.hi
