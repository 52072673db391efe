-- Vacant positions as an engine keeps them: a list of keys with the connection that left each.
use Rattle.std.specs.Prelude.{◌≡◌, ℕ, List, [], ◌∷◌, ◌⊎◌, Option, Some}
use Rattle.wat_isolation.specs.World.{World}
use Rattle.wat_list.specs.Has.{Has}
use Rattle.wat_isolation.specs.Rows.{key_at, IsLive}
use Rattle.wat_isolation.specs.Logs.{Version}
use Rattle.wat_isolation.specs.Machine.{State, Event, Event.Begin_scan, Event.Visit, Event.Past, Event.Look, Event.Peek, Event.Change, Event.Undo, Event.Commit, Event.Leave, Event.Alter, happens}

pub record VacantKey (w : World) : Type 0 where
  pub by : ℕ
  pub index : w.Index
  pub key : w.Key

-- What the list is to keep: each key in it is one that its connection's transaction touched, and each that a transaction touched is live or in it.
pub record IsVacant (w : World) (s : State w) (list : List (VacantKey w)) : Type 0 where
  pub sound : (e : VacantKey w) → Has e list → (v : Option w.Content) × Version w (s.scheme.row_of e.index e.key) v (s.conns e.by).log × (key_at w s.scheme e.index (s.scheme.row_of e.index e.key) v ≡ Some e.key)
  pub full : (c : ℕ) (i : w.Index) (x : w.Key) (v : Option w.Content) → Version w (s.scheme.row_of i x) v (s.conns c).log → key_at w s.scheme i (s.scheme.row_of i x) v ≡ Some x → IsLive w s.scheme i s.now x ⊎ Has (record { by = c; index = i; key = x }) list

-- the keys that row r leaves when its content goes from one to another were added, and nothing else
pub record AddsLeft (w : World) (s : State w) (c : ℕ) (r : w.Row) (after : Option w.Content) (list list' : List (VacantKey w)) : Type 0 where
  pub keep : (e : VacantKey w) → Has e list → Has e list'
  pub leaves : (i : w.Index) (x : w.Key) → key_at w s.scheme i r (s.now r) ≡ Some x → (key_at w s.scheme i r after ≡ Some x → ⊥) → Has (record { by = c; index = i; key = x }) list'
  pub no_more : (e : VacantKey w) → Has e list' → Has e list ⊎ ((e.by ≡ c) × (key_at w s.scheme e.index r (s.now r) ≡ Some e.key))

-- the keys of one connection were dropped, and nothing else
pub record DropsOf (w : World) (c : ℕ) (list list' : List (VacantKey w)) : Type 0 where
  pub keep : (e : VacantKey w) → Has e list → (e.by ≡ c → ⊥) → Has e list'
  pub no_more : (e : VacantKey w) → Has e list' → Has e list × (e.by ≡ c → ⊥)

-- What becomes of the list at an event: a change and an undoing add the keys that the row leaves, the end of a transaction drops its keys,
-- a schema statement finds none, and reading leaves the list.
abbrev pub Notes : (w : World) → State w → Event w → List (VacantKey w) → List (VacantKey w) → Type 0
Notes w s (Begin_scan c i lo) list list' = list' ≡ list
Notes w s (Visit c at rest p found wants) list list' = list' ≡ list
Notes w s (Past c at rest hi q wants) list list' = list' ≡ list
Notes w s (Look c r wants) list list' = list' ≡ list
Notes w s (Peek c r wants) list list' = list' ≡ list
Notes w s (Change c r after wants next) list list' = AddsLeft w s c r after list list'
Notes w s (Undo c last rest) list list' = AddsLeft w s c last.row last.was list list'
Notes w s (Commit c) list list' = DropsOf w c list list'
Notes w s (Leave c) list list' = DropsOf w c list list'
Notes w s (Alter g f) list list' = list' ≡ []

-- the list from before these events to after them
abbrev pub NotesAll : (w : World) → List (Event w) → State w → List (VacantKey w) → List (VacantKey w) → Type 0
NotesAll w [] s list list' = list' ≡ list
NotesAll w (e ∷ es) s list list' = (mid : List (VacantKey w)) × Notes w s e list mid × NotesAll w es (happens w s e) mid list'

-- the key is in the list, of whichever connection
abbrev pub IsVacantIn : (w : World) → List (VacantKey w) → w.Index → w.Key → Type 0
IsVacantIn w list i x = (c : ℕ) × Has (record { by = c; index = i; key = x }) list
