-- Worked cases: one table with rows 10, 30 and 50 under its primary key, scans of the keys 20 to 39, and what another connection does beside them.
use Rattle.std.specs.Prelude.{◌≡◌, ℕ, false, cond, nat_eq, List, [], ◌∷◌, Option, Some, None}
use Rattle.wat_isolation.specs.Rows.{Tables, Cut, before, upto}
use Rattle.wat_isolation.specs.Logs.{Scan, Item}
use Rattle.wat_isolation.specs.Machine.{Place, Place.At, Lock, Lock.Read, Lock.Phantom, Standing, Event, Event.Begin_scan, Event.Visit, Event.Past, Event.Change}
use Rattle.wat_isolation.specs.Small.{numbers}

abbrev pub three_rows : Tables numbers
three_rows r = cond (nat_eq r 10) (Some 10) (cond (nat_eq r 30) (Some 30) (cond (nat_eq r 50) (Some 50) None))

-- a scan from key 20 that has read nothing yet
abbrev pub begun : Scan numbers
begun = record { index = 0; lo = before numbers 20; hi = before numbers 20; done = false; rows = [] }

-- that has read row 30
abbrev pub come_to_thirty : Scan numbers
come_to_thirty = record { index = 0; lo = before numbers 20; hi = upto numbers 30; done = false; rows = (30, 30) ∷ [] }

-- A connection with this log scans from key 20 up to the last key, and finds this first position past it.
abbrev pub scan : ℕ → List (Item numbers) → ℕ → Place numbers → List (Event numbers)
scan c log last past =
    Begin_scan c 0 (before numbers 20)
    ∷ Visit c begun log 30 ((30, 30) ∷ []) (Read 30 ∷ Phantom 0 (At 30) ∷ [])
    ∷ Past c come_to_thirty log (upto numbers last) past (Phantom 0 past ∷ [])
    ∷ []

-- a row that has its key as its content
abbrev pub insert : ℕ → ℕ → List (Lock numbers) → (ℕ → Place numbers) → Event numbers
insert c row wants next = Change c row (Some row) wants next

abbrev pub update : ℕ → ℕ → ℕ → List (Lock numbers) → (ℕ → Place numbers) → Event numbers
update c row content wants next = Change c row (Some content) wants next

abbrev pub delete : ℕ → ℕ → List (Lock numbers) → (ℕ → Place numbers) → Event numbers
delete c row wants next = Change c row None wants next

-- row 40 was inserted
abbrev pub forty : Standing numbers
forty = record { row = 40; was = None; became = Some 40 }
