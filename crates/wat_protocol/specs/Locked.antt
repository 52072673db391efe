-- The locks of the law of isolation, as they are wanted and as they are held.
use Rattle.std.specs.Prelude.{ℕ, List, [], Option, None, Some}
use Rattle.std.specs.List.{filter_map}
use Rattle.wat_list.specs.Has.{Has}
use Rattle.wat_value.specs.declared.place.Place.{Place}
use Rattle.wat_value.specs.declared.place.Place.TheVariants.{At, End}
use Rattle.wat_isolation.specs.Machine as machine
use Rattle.wat_isolation.specs.Sql.{sql}
use Rattle.wat_locks.specs.declared.lock.LockKind.{LockKind}
use Rattle.wat_locks.specs.declared.lock.LockKind.TheVariants.{Read, Write, Phantom, AntiPhantom}
use Rattle.wat_locks.specs.declared.lock.Resource.{Resource}
use Rattle.wat_locks.specs.declared.lock.Resource.TheVariants.{Row, Gap}
use Rattle.wat_locks.specs.declared.lock.Lock.{Lock}
use Rattle.wat_locks.specs.declared.want.Want.{Want}
use Rattle.wat_locks.specs.declared.held.Held.{Held}
use Rattle.wat_locks.specs.Held.{entry}
use Rattle.wat_level.specs.Wanted.{IsWanted, long_want}

-- a position of the law as a place
abbrev pub place_of : machine.Place sql → Place
place_of (machine.Place.At key) = At key
place_of machine.Place.End = End

-- a place as a position of the law
abbrev pub position_of : Place → machine.Place sql
position_of (At key) = machine.Place.At key
position_of End = machine.Place.End

-- a lock of the law as it is wanted and held
abbrev pub lock_of : machine.Lock sql → Lock
lock_of (machine.Lock.Read r) = record { kind = Read; resource = Row r.table r.key }
lock_of (machine.Lock.Write r) = record { kind = Write; resource = Row r.table r.key }
lock_of (machine.Lock.Phantom i p) = record { kind = Phantom; resource = Gap i.table i.index (place_of p) }
lock_of (machine.Lock.Anti i p) = record { kind = AntiPhantom; resource = Gap i.table i.index (place_of p) }

-- the lock of the law that it is: on a row Read or Write, on a gap Phantom or AntiPhantom
abbrev pub law_lock : LockKind → Resource → Option (machine.Lock sql)
law_lock Read (Row table key) = Some (machine.Lock.Read (record { table = table; key = key }))
law_lock Write (Row table key) = Some (machine.Lock.Write (record { table = table; key = key }))
law_lock Phantom (Gap table index place) = Some (machine.Lock.Phantom (record { table = table; index = index }) (position_of place))
law_lock AntiPhantom (Gap table index place) = Some (machine.Lock.Anti (record { table = table; index = index }) (position_of place))
law_lock _ _ = None

-- where it is kept to the end of the transaction
abbrev pub where_long : Option ℕ → Option (machine.Lock sql) → Option (machine.Lock sql)
where_long None lock = lock
where_long (Some scan) lock = None

-- the wanted locks that are kept to the end of the transaction, as locks of the law
abbrev pub long_locks : List Want → List (machine.Lock sql)
long_locks wants = filter_map (λ w. where_long w.short (law_lock w.lock.kind w.lock.resource)) wants

-- each wanted lock is among these
abbrev pub HasWanted : List Want → List (machine.Lock sql) → Type 0
HasWanted wants locks = (lock : machine.Lock sql) → IsWanted (lock_of lock) wants → Has lock locks

-- each lock that a connection keeps to the end of its transaction is among the entries, as a long one
abbrev pub AreHeld : machine.State sql → List Held → Type 0
AreHeld s held = (c : ℕ) (lock : machine.Lock sql) → Has lock (s.conns c).locks → Has (entry c (long_want (lock_of lock))) held

-- the locks that come with an event
abbrev pub event_locks : machine.Event sql → List (machine.Lock sql)
event_locks (machine.Event.Begin_scan c i lo) = []
event_locks (machine.Event.Visit c at rest p found wants) = wants
event_locks (machine.Event.Past c at rest hi q wants) = wants
event_locks (machine.Event.Look c r wants) = wants
event_locks (machine.Event.Peek c r wants) = wants
event_locks (machine.Event.Change c r after wants next) = wants
event_locks (machine.Event.Undo c last rest) = []
event_locks (machine.Event.Commit c) = []
event_locks (machine.Event.Leave c) = []
event_locks (machine.Event.Alter g f) = []
