-- Many connections over one set of tables, with row locks, phantom and anti-phantom locks.
use Rattle.std.specs.Prelude.{◌≡◌, ℕ, true, false, List, [], ◌∷◌, ◌++◌, ◌⊎◌, Option, Some, nat_eq}
use Rattle.wat_isolation.specs.World.{World, put}
use Rattle.wat_list.specs.Has.{Has}
use Rattle.wat_isolation.specs.Rows.{Scheme, Tables, set_row, key_at, IsLive, Lookup, Cut, IsCut, upto}
use Rattle.wat_isolation.specs.Logs.{Scan, Item, Item.Saw, Item.Did, Item.Looked, Item.Peeked, Committed, Committed.Ran, Committed.Altered, view, Version}

-- a key of an index, or its end
pub data Place (w : World) : Type 0 where
  At : w.Key → Place w
  End : Place w

pub data Lock (w : World) : Type 0 where
  Read : w.Row → Lock w
  Write : w.Row → Lock w
  Phantom : w.Index → Place w → Lock w
  Anti : w.Index → Place w → Lock w

abbrev pub Conflict : (w : World) → Lock w → Lock w → Type 0
Conflict w (Read r) (Write q) = r ≡ q
Conflict w (Write r) (Read q) = r ≡ q
Conflict w (Write r) (Write q) = r ≡ q
Conflict w (Phantom i p) (Anti j q) = (i ≡ j) × (p ≡ q)
Conflict w (Anti i p) (Phantom j q) = (i ≡ j) × (p ≡ q)
Conflict w (Read r) (Read q) = ⊥
Conflict w (Read r) (Phantom j q) = ⊥
Conflict w (Read r) (Anti j q) = ⊥
Conflict w (Write r) (Phantom j q) = ⊥
Conflict w (Write r) (Anti j q) = ⊥
Conflict w (Phantom i p) (Read q) = ⊥
Conflict w (Phantom i p) (Write q) = ⊥
Conflict w (Phantom i p) (Phantom j q) = ⊥
Conflict w (Anti i p) (Read q) = ⊥
Conflict w (Anti i p) (Write q) = ⊥
Conflict w (Anti i p) (Anti j q) = ⊥

-- a change that stands: the row, what it was before and after
pub record Standing (w : World) : Type 0 where
  pub row : w.Row
  pub was : Option w.Content
  pub became : Option w.Content

-- a connection: its open transaction's log, the changes that stand, the last one first, and its locks
pub record Connection (w : World) : Type 0 where
  pub log : List (Item w)
  pub standing : List (Standing w)
  pub locks : List (Lock w)

abbrev pub idle : (w : World) → Connection w
idle w = record { log = []; standing = []; locks = [] }

pub record State (w : World) : Type 0 where
  pub scheme : Scheme w
  pub base : Tables w  -- after the commits so far
  pub now : Tables w  -- with all open changes
  pub conns : ℕ → Connection w
  pub history : List (Committed w)  -- committed, the last one first

abbrev pub start : (w : World) → Scheme w → Tables w → State w
start w g base = record { scheme = g; base = base; now = base; conns = λ c. idle w; history = [] }

abbrev pub set_conn : (w : World) → (ℕ → Connection w) → ℕ → Connection w → ℕ → Connection w
set_conn w f c k = put nat_eq f c k

-- A position of an index: the key of a row now, or a key that a row had before or after a change of an open transaction.
-- The second are the vacant positions, and live keys among them.
abbrev pub IsPos : (w : World) → State w → w.Index → w.Key → Type 0
IsPos w s i x = IsLive w s.scheme i s.now x ⊎ ((c : ℕ) × (v : Option w.Content) × Version w (s.scheme.row_of i x) v (s.conns c).log × (key_at w s.scheme i (s.scheme.row_of i x) v ≡ Some x))

-- the first position past a cut, or the end
abbrev pub IsFirst : (w : World) → State w → w.Index → Cut w → Place w → Type 0
IsFirst w s i cut (At p) = (cut p ≡ false) × IsPos w s i p × ((y : w.Key) → cut y ≡ false → w.less y p ≡ true → IsPos w s i y → ⊥)
IsFirst w s i cut End = (y : w.Key) → cut y ≡ false → IsPos w s i y → ⊥

-- no other connection holds a lock in conflict
abbrev pub Free : (w : World) → State w → ℕ → Lock w → Type 0
Free w s c l = (d : ℕ) (m : Lock w) → Has m (s.conns d).locks → Conflict w l m → c ≡ d

abbrev pub AllFree : (w : World) → State w → ℕ → List (Lock w) → Type 0
AllFree w s c wants = (l : Lock w) → Has l wants → Free w s c l

-- What a change of row r to this content asks: Write on the row, AntiPhantom on a key that it leaves, on a key that it comes to and on the next position past that,
-- and Phantom on that key where the connection holds Phantom on that next position. Insert, update and delete are one.
pub record AsksForChange (w : World) (s : State w) (c : ℕ) (r : w.Row) (after : Option w.Content) (wants : List (Lock w)) (next : w.Index → Place w) : Type 0 where
  pub write : Has (Write r) wants
  pub leaves : (i : w.Index) (x : w.Key) → key_at w s.scheme i r (s.now r) ≡ Some x → (key_at w s.scheme i r after ≡ Some x → ⊥) → Has (Anti i (At x)) wants
  pub comes : (i : w.Index) (x : w.Key) → key_at w s.scheme i r after ≡ Some x → (key_at w s.scheme i r (s.now r) ≡ Some x → ⊥) → Has (Anti i (At x)) wants
  pub is_next : (i : w.Index) (x : w.Key) → key_at w s.scheme i r after ≡ Some x → (key_at w s.scheme i r (s.now r) ≡ Some x → ⊥) → IsFirst w s i (upto w x) (next i)
  pub past : (i : w.Index) (x : w.Key) → key_at w s.scheme i r after ≡ Some x → (key_at w s.scheme i r (s.now r) ≡ Some x → ⊥) → Has (Anti i (next i)) wants
  pub inherits : (i : w.Index) (x : w.Key) → key_at w s.scheme i r after ≡ Some x → (key_at w s.scheme i r (s.now r) ≡ Some x → ⊥) → Has (Phantom i (next i)) (s.conns c).locks → Has (Phantom i (At x)) wants

-- what a visit takes in: the row of the position, where it stands and its key is that position
abbrev pub Takes : (w : World) → Scheme w → w.Index → Tables w → w.Key → List (w.Key × w.Content) → Type 0
Takes w g i f p found = (found ≡ []) × (IsLive w g i f p → ⊥) ⊎ ((v : w.Content) × Lookup w g i f p v × (found ≡ (p, v) ∷ []))

pub data Event (w : World) : Type 0 where
  -- a scan at level 3 begins
  Begin_scan : (c : ℕ) → (i : w.Index) → (lo : Cut w) → Event w
  -- the scan at the head of the log visits a position, with Read on its row, Phantom on it and maybe Write
  Visit : (c : ℕ) → (at : Scan w) → (rest : List (Item w)) → (p : w.Key) → (found : List (w.Key × w.Content)) → (wants : List (Lock w)) → Event w
  -- it finds the first position past its interval
  Past : (c : ℕ) → (at : Scan w) → (rest : List (Item w)) → (hi : Cut w) → (q : Place w) → (wants : List (Lock w)) → Event w
  -- a row is looked up with a lock that is kept: an insert that finds its row standing
  Look : (c : ℕ) → (r : w.Row) → (wants : List (Lock w)) → Event w
  -- a row is read at a level below 3, with locks or none
  Peek : (c : ℕ) → (r : w.Row) → (wants : List (Lock w)) → Event w
  -- a row is inserted, updated or deleted, at any level
  Change : (c : ℕ) → (r : w.Row) → (after : Option w.Content) → (wants : List (Lock w)) → (next : w.Index → Place w) → Event w
  -- the last change that stands is undone
  Undo : (c : ℕ) → (last : Standing w) → (rest : List (Standing w)) → Event w
  Commit : (c : ℕ) → Event w
  -- a transaction all of whose changes were undone ends
  Leave : (c : ℕ) → Event w
  -- a schema statement, with no transaction open
  Alter : (g : Scheme w) → (f : Tables w → Tables w) → Event w

abbrev pub visited : (w : World) → Scan w → w.Key → List (w.Key × w.Content) → Scan w
visited w at p found = record { index = at.index; lo = at.lo; hi = upto w p; done = false; rows = at.rows ++ found }

abbrev pub finished : (w : World) → Scan w → Cut w → Scan w
finished w at hi = record { index = at.index; lo = at.lo; hi = hi; done = true; rows = at.rows }

-- the connection with this log, these changes that stand, and these more locks
abbrev pub grown : (w : World) → State w → ℕ → List (Item w) → List (Standing w) → List (Lock w) → Connection w
grown w s c log standing wants = record { log = log; standing = standing; locks = wants ++ (s.conns c).locks }

abbrev pub with_conn : (w : World) → State w → ℕ → Connection w → State w
with_conn w s c k = record { scheme = s.scheme; base = s.base; now = s.now; conns = set_conn w s.conns c k; history = s.history }

pub record MayVisit (w : World) (s : State w) (c : ℕ) (at : Scan w) (rest : List (Item w)) (p : w.Key) (found : List (w.Key × w.Content)) (wants : List (Lock w)) : Type 0 where
  pub head : (s.conns c).log ≡ Saw at ∷ rest
  pub is_pos : IsPos w s at.index p
  pub further : at.hi p ≡ false
  pub least : (y : w.Key) → at.hi y ≡ false → w.less y p ≡ true → IsPos w s at.index y → ⊥
  pub takes : Takes w s.scheme at.index s.now p found
  pub read : Has (Read (s.scheme.row_of at.index p)) wants
  pub phantom : Has (Phantom at.index (At p)) wants
  pub free : AllFree w s c wants

pub record MayPast (w : World) (s : State w) (c : ℕ) (at : Scan w) (rest : List (Item w)) (hi : Cut w) (q : Place w) (wants : List (Lock w)) : Type 0 where
  pub head : (s.conns c).log ≡ Saw at ∷ rest
  pub cut : IsCut w hi
  pub further : (y : w.Key) → at.hi y ≡ true → hi y ≡ true
  pub none_left : (y : w.Key) → at.hi y ≡ false → hi y ≡ true → IsPos w s at.index y → ⊥
  pub first : IsFirst w s at.index hi q
  pub phantom : Has (Phantom at.index q) wants
  pub free : AllFree w s c wants

-- the event may happen now
abbrev pub May : (w : World) → State w → Event w → Type 0
May w s (Begin_scan c i lo) = IsCut w lo
May w s (Visit c at rest p found wants) = MayVisit w s c at rest p found wants
May w s (Past c at rest hi q wants) = MayPast w s c at rest hi q wants
May w s (Look c r wants) = (Has (Read r) wants ⊎ Has (Write r) wants) × AllFree w s c wants
May w s (Peek c r wants) = AllFree w s c wants
May w s (Change c r after wants next) = AsksForChange w s c r after wants next × AllFree w s c wants
May w s (Undo c last rest) = (s.conns c).standing ≡ last ∷ rest
May w s (Commit c) = Unit {0}
May w s (Leave c) = (s.conns c).standing ≡ []
May w s (Alter g f) = (c : ℕ) → s.conns c ≡ idle w

abbrev pub happens : (w : World) → State w → Event w → State w
happens w s (Begin_scan c i lo) = with_conn w s c (grown w s c (Saw (record { index = i; lo = lo; hi = lo; done = false; rows = [] }) ∷ (s.conns c).log) (s.conns c).standing [])
happens w s (Visit c at rest p found wants) = with_conn w s c (grown w s c (Saw (visited w at p found) ∷ rest) (s.conns c).standing wants)
happens w s (Past c at rest hi q wants) = with_conn w s c (grown w s c (Saw (finished w at hi) ∷ rest) (s.conns c).standing wants)
happens w s (Look c r wants) = with_conn w s c (grown w s c (Looked r (s.now r) ∷ (s.conns c).log) (s.conns c).standing wants)
happens w s (Peek c r wants) = with_conn w s c (grown w s c (Peeked r (s.now r) ∷ (s.conns c).log) (s.conns c).standing wants)
happens w s (Change c r after wants next) =
    record {
      scheme = s.scheme;
      base = s.base;
      now = set_row w s.now r after;
      conns = set_conn w s.conns c (grown w s c (Did r (s.now r) after ∷ (s.conns c).log) (record { row = r; was = s.now r; became = after } ∷ (s.conns c).standing) wants);
      history = s.history;
    }
happens w s (Undo c last rest) =
    record {
      scheme = s.scheme;
      base = s.base;
      now = set_row w s.now last.row last.was;
      conns = set_conn w s.conns c (grown w s c (Did last.row (s.now last.row) last.was ∷ (s.conns c).log) rest []);
      history = s.history;
    }
happens w s (Commit c) =
    record { scheme = s.scheme; base = view w s.base (s.conns c).log; now = s.now; conns = set_conn w s.conns c (idle w); history = Ran s.scheme (s.conns c).log ∷ s.history }
happens w s (Leave c) = with_conn w s c (idle w)
happens w s (Alter g f) = record { scheme = g; base = f s.base; now = f s.base; conns = s.conns; history = Altered f ∷ s.history }

-- the state after these events
abbrev pub run : (w : World) → List (Event w) → State w → State w
run w [] s = s
run w (e ∷ es) s = run w es (happens w s e)

-- each event may happen when it comes: one that conflicts does not happen
abbrev pub Runs : (w : World) → List (Event w) → State w → Type 0
Runs w [] s = Unit {0}
Runs w (e ∷ es) s = May w s e × Runs w es (happens w s e)

-- the connection makes the event
abbrev pub IsBy : (w : World) → Event w → ℕ → Type 0
IsBy w (Begin_scan c i lo) d = c ≡ d
IsBy w (Visit c at rest p found wants) d = c ≡ d
IsBy w (Past c at rest hi q wants) d = c ≡ d
IsBy w (Look c r wants) d = c ≡ d
IsBy w (Peek c r wants) d = c ≡ d
IsBy w (Change c r after wants next) d = c ≡ d
IsBy w (Undo c last rest) d = c ≡ d
IsBy w (Commit c) d = c ≡ d
IsBy w (Leave c) d = c ≡ d
IsBy w (Alter g f) d = ⊥
