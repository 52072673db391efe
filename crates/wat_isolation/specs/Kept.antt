-- What each event keeps.
use Rattle.std.specs.Prelude.{◌≡◌, ℕ, true, List, [], ◌∷◌, ◌⊎◌, Option, Some}
use Rattle.wat_isolation.specs.World.{World}
use Rattle.wat_list.specs.Has.{Has}
use Rattle.wat_isolation.specs.Rows.{Tables, set_row, key_at, Cut, before, Within}
use Rattle.wat_isolation.specs.Logs.{Scan, view, Alone, ChangesApply, After, Serial, Version, Scanned, LookedUp}
use Rattle.wat_isolation.specs.Machine.{Place, Place.At, Lock, Lock.Read, Lock.Write, Lock.Phantom, Lock.Anti, Conflict, Standing, State, IsPos, IsFirst}

-- the connection holds Phantom on the first position past the cut
abbrev pub GuardsGap : (w : World) → State w → ℕ → w.Index → Cut w → Type 0
GuardsGap w s c i cut = (q : Place w) × IsFirst w s i cut q × Has (Phantom i q) (s.conns c).locks

-- the connection holds Read or Write on the row
abbrev pub KeepsRow : (w : World) → State w → ℕ → w.Row → Type 0
KeepsRow w s c r = Has (Read r) (s.conns c).locks ⊎ Has (Write r) (s.conns c).locks

-- a scan's keys are guarded: the gap before the first position not before each, the row of each position, and past a finished scan the gap there
pub record Guarded (w : World) (s : State w) (c : ℕ) (at : Scan w) : Type 0 where
  pub gaps : (x : w.Key) → Within w at.lo at.hi x → GuardsGap w s c at.index (before w x)
  pub rows : (x : w.Key) → Within w at.lo at.hi x → IsPos w s at.index x → KeepsRow w s c (s.scheme.row_of at.index x)
  pub past : at.done ≡ true → GuardsGap w s c at.index at.hi

-- the tables with the changes that stand
abbrev pub redo : (w : World) → List (Standing w) → Tables w → Tables w
redo w [] f = f
redo w (u ∷ us) f = set_row w (redo w us f) u.row u.became

-- each change that stands found what it was made on
abbrev pub Was : (w : World) → List (Standing w) → Tables w → Type 0
Was w [] f = Unit {0}
Was w (u ∷ us) f = (redo w us f u.row ≡ u.was) × Was w us f

-- a transaction sees its tables with the changes that stand, and these can be undone
pub record Stand (w : World) (base : Tables w) (us : List (Standing w)) (f : Tables w) : Type 0 where
  pub sees : (r : w.Row) → f r ≡ redo w us base r
  pub was : Was w us base

pub record Kept (w : World) (s : State w) : Type 0 where
  -- no two connections hold locks in conflict
  pub compatible : (c d : ℕ) (l m : Lock w) → Has l (s.conns c).locks → Has m (s.conns d).locks → Conflict w l m → c ≡ d
  -- a row that a connection may write is now as its own transaction has it
  pub own : (c : ℕ) (r : w.Row) → Has (Write r) (s.conns c).locks → s.now r ≡ view w s.base (s.conns c).log r
  -- any other row is as the commits left it
  pub still : (r : w.Row) → (s.now r ≡ s.base r) ⊎ ((c : ℕ) × Has (Write r) (s.conns c).locks)
  -- a changed row is write-locked
  pub touched : (c : ℕ) (r : w.Row) (v : Option w.Content) → Version w r v (s.conns c).log → Has (Write r) (s.conns c).locks
  -- a key that a row had at one time of the transaction and not at another has AntiPhantom
  pub moved : (c : ℕ) (i : w.Index) (x : w.Key) (r : w.Row) (v u : Option w.Content) → Version w r v (s.conns c).log → Version w r u (s.conns c).log → key_at w s.scheme i r v ≡ Some x → (key_at w s.scheme i r u ≡ Some x → ⊥) → Has (Anti i (At x)) (s.conns c).locks
  -- a row that was looked up is locked
  pub looked : (c : ℕ) (r : w.Row) → LookedUp w r (s.conns c).log → KeepsRow w s c r
  -- each open transaction did what it does alone after the commits so far
  pub open_serial : (c : ℕ) → Alone w s.scheme s.base (s.conns c).log
  pub guarded : (c : ℕ) (at : Scan w) → Scanned w at (s.conns c).log → Guarded w s c at
  -- what it sees are the tables with its changes that stand, on any tables on which its changes apply
  pub stands : (c : ℕ) (base : Tables w) → ChangesApply w base (s.conns c).log → Stand w base (s.conns c).standing (view w base (s.conns c).log)
  pub standing : (c : ℕ) (u : Standing w) → Has u (s.conns c).standing → Version w u.row u.was (s.conns c).log

-- what holds after every list of events: the tables are those after the commits, and the commits are serial
pub record Holds (w : World) (base : Tables w) (s : State w) : Type 0 where
  pub kept : Kept w s
  pub after : s.base ≡ After w base s.history
  pub serial : Serial w base s.history

-- the keys of a scan are as before: the same positions, and the same rows at them
pub record SameAt (w : World) (s t : State w) (at : Scan w) : Type 0 where
  pub stay : (x : w.Key) → Within w at.lo at.hi x → IsPos w s at.index x → IsPos w t at.index x
  pub none_new : (x : w.Key) → Within w at.lo at.hi x → IsPos w t at.index x → IsPos w s at.index x
  pub rows : (x : w.Key) → Within w at.lo at.hi x → IsPos w s at.index x → s.now (s.scheme.row_of at.index x) ≡ t.now (s.scheme.row_of at.index x)
