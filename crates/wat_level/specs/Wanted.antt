-- Locks by their names, and wants.
use Rattle.std.specs.Prelude.{◌≡◌, ℕ, List, [], ◌∷◌, None, Some}
use Rattle.std.specs.declared.cmp.Ordering.TheVariants.{Less}
use Rattle.wat_list.specs.Has.{Has}
use Rattle.wat_value.specs.declared.value.Value.{Value}
use Rattle.wat_value.specs.declared.place.Place.{Place}
use Rattle.wat_locks.specs.declared.lock.LockKind.TheVariants.{Read, Write, Phantom, AntiPhantom}
use Rattle.wat_locks.specs.declared.lock.Resource.TheVariants.{Row, Gap}
use Rattle.wat_locks.specs.declared.lock.Lock.{Lock}
use Rattle.wat_locks.specs.Order.{lock_cmp}
use Rattle.wat_locks.specs.declared.want.Want.{Want}
use Rattle.wat_level.specs.Placed.{placed_all}

-- on a row, by its table and primary key
abbrev pub read_lock : ℕ → List Value → Lock
read_lock table key = record { kind = Read; resource = Row table key }

abbrev pub write_lock : ℕ → List Value → Lock
write_lock table key = record { kind = Write; resource = Row table key }

-- on the gap before a place of an index
abbrev pub phantom_lock : ℕ → ℕ → Place → Lock
phantom_lock table index place = record { kind = Phantom; resource = Gap table index place }

abbrev pub anti_phantom_lock : ℕ → ℕ → Place → Lock
anti_phantom_lock table index place = record { kind = AntiPhantom; resource = Gap table index place }

-- kept to the end of the transaction
abbrev pub long_want : Lock → Want
long_want lock = record { lock = lock; short = None }

-- freed at the scan's next visit, or when the statement ends
abbrev pub short_want : ℕ → Lock → Want
short_want scan lock = record { lock = lock; short = Some scan }

-- the lock is wanted, long or short
abbrev pub IsWanted : Lock → List Want → Type 0
IsWanted lock wants = (w : Want) × Has w wants × (w.lock ≡ lock)

-- each want's lock comes before those of all later ones
abbrev pub IsRising : List Want → Type 0
IsRising [] = Unit {0}
IsRising (w ∷ ws) = ((v : Want) → Has v ws → lock_cmp w.lock v.lock ≡ Less) × IsRising ws

-- the wants in the order of their locks, each lock once
abbrev pub in_order : List Want → List Want
in_order wants = placed_all [] wants
