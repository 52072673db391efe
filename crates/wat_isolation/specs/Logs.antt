-- What a transaction did, newest first, and when a history of such logs is serial.
use Rattle.std.specs.Prelude.{◌≡◌, Bool, true, List, [], ◌∷◌, ◌⊎◌, Option}
use Rattle.wat_isolation.specs.World.{World}
use Rattle.wat_list.specs.Has.{Has}
use Rattle.wat_isolation.specs.Rows.{Scheme, Tables, set_row, Lookup, Cut, IsCut, Within, Rising}

-- a scan: its index, the cut where it began, the cut up to which it has read, whether it has found the first position past that, and its rows so far
pub record Scan (w : World) : Type 0 where
  pub index : w.Index
  pub lo : Cut w
  pub hi : Cut w
  pub done : Bool
  pub rows : List (w.Key × w.Content)

pub data Item (w : World) : Type 0 where
  -- a scan at level 3, as far as it has come
  Saw : Scan w → Item w
  -- a row had this content, and got this one
  Did : w.Row → Option w.Content → Option w.Content → Item w
  -- a row was found so under a lock that is kept
  Looked : w.Row → Option w.Content → Item w
  -- a row read at a lower level
  Peeked : w.Row → Option w.Content → Item w

-- the tables after a transaction's own changes
abbrev pub view : (w : World) → Tables w → List (Item w) → Tables w
view w base [] = base
view w base (Saw s ∷ l) = view w base l
view w base (Did r b a ∷ l) = set_row w (view w base l) r a
view w base (Looked r v ∷ l) = view w base l
view w base (Peeked r v ∷ l) = view w base l

-- a scan answers as the plain scan of these tables: the rows within its cuts, in the order of their keys
pub record IsPlainScan (w : World) (g : Scheme w) (f : Tables w) (s : Scan w) : Type 0 where
  pub cut : IsCut w s.hi
  pub up : (x : w.Key) → s.lo x ≡ true → s.hi x ≡ true
  pub rising : Rising w s.rows
  pub sound : (x : w.Key) (v : w.Content) → Has (x, v) s.rows → Within w s.lo s.hi x × Lookup w g s.index f x v
  pub full : (x : w.Key) (v : w.Content) → Within w s.lo s.hi x → Lookup w g s.index f x v → Has (x, v) s.rows

-- run alone on these tables, the transaction does what it did: each scan answers by the tables with its own earlier changes, each look-up too, and each change applies
abbrev pub Alone : (w : World) → Scheme w → Tables w → List (Item w) → Type 0
Alone w g base [] = Unit {0}
Alone w g base (Saw s ∷ l) = Alone w g base l × IsPlainScan w g (view w base l) s
Alone w g base (Did r b a ∷ l) = Alone w g base l × (view w base l r ≡ b)
Alone w g base (Looked r v ∷ l) = Alone w g base l × (view w base l r ≡ v)
Alone w g base (Peeked r v ∷ l) = Alone w g base l

-- each change applies
abbrev pub ChangesApply : (w : World) → Tables w → List (Item w) → Type 0
ChangesApply w base [] = Unit {0}
ChangesApply w base (Saw s ∷ l) = ChangesApply w base l
ChangesApply w base (Did r b a ∷ l) = ChangesApply w base l × (view w base l r ≡ b)
ChangesApply w base (Looked r v ∷ l) = ChangesApply w base l
ChangesApply w base (Peeked r v ∷ l) = ChangesApply w base l

-- a committed transaction under the indexes of its time, or a change of the schema
pub data Committed (w : World) : Type 0 where
  Ran : Scheme w → List (Item w) → Committed w
  Altered : (Tables w → Tables w) → Committed w

-- the tables after these entries, the last one first
abbrev pub After : (w : World) → Tables w → List (Committed w) → Tables w
After w base [] = base
After w base (Ran g log ∷ earlier) = view w (After w base earlier) log
After w base (Altered f ∷ earlier) = f (After w base earlier)

-- each transaction did what it does alone on the tables after the earlier ones
abbrev pub Serial : (w : World) → Tables w → List (Committed w) → Type 0
Serial w base [] = Unit {0}
Serial w base (Ran g log ∷ earlier) = Serial w base earlier × Alone w g (After w base earlier) log
Serial w base (Altered f ∷ earlier) = Serial w base earlier

-- the row had this content before or after one of the changes
abbrev pub Version : (w : World) → w.Row → Option w.Content → List (Item w) → Type 0
Version w r v [] = ⊥
Version w r v (Saw s ∷ l) = Version w r v l
Version w r v (Did q b a ∷ l) = (q ≡ r) × (b ≡ v) ⊎ ((q ≡ r) × (a ≡ v) ⊎ Version w r v l)
Version w r v (Looked q u ∷ l) = Version w r v l
Version w r v (Peeked q u ∷ l) = Version w r v l

abbrev pub Scanned : (w : World) → Scan w → List (Item w) → Type 0
Scanned w s [] = ⊥
Scanned w s (Saw t ∷ l) = (t ≡ s) ⊎ Scanned w s l
Scanned w s (Did r b a ∷ l) = Scanned w s l
Scanned w s (Looked r v ∷ l) = Scanned w s l
Scanned w s (Peeked r v ∷ l) = Scanned w s l

-- the row was looked up under a lock that is kept
abbrev pub LookedUp : (w : World) → w.Row → List (Item w) → Type 0
LookedUp w r [] = ⊥
LookedUp w r (Saw t ∷ l) = LookedUp w r l
LookedUp w r (Did q b a ∷ l) = LookedUp w r l
LookedUp w r (Looked q v ∷ l) = (q ≡ r) ⊎ LookedUp w r l
LookedUp w r (Peeked q v ∷ l) = LookedUp w r l
