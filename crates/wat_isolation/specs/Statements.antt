-- From what a transaction did, item by item, to what its statements answered.
use Rattle.std.specs.Prelude.{Bool, cond, List, [], ◌∷◌, ◌++◌}
use Rattle.wat_isolation.specs.World.{World}
use Rattle.wat_list.specs.Has.{Has}
use Rattle.wat_isolation.specs.Rows.{Scheme, Tables, Lookup, Rising}
use Rattle.wat_isolation.specs.Logs.{Item, view, Alone}

-- a statement, its items in the log, newest first, and what it answered
pub record StatementLog (w : World) (S R : Type 0) : Type 0 where
  pub asked : S
  pub items : List (Item w)
  pub said : R

-- the log of these statements, the last one first
abbrev pub all_items : (w : World) (S R : Type 0) → List (StatementLog w S R) → List (Item w)
all_items w S R [] = []
all_items w S R (t ∷ ts) = t.items ++ all_items w S R ts

-- on every tables on which its items are as they were, the statement means what it answered
abbrev pub Determined : (w : World) (S R : Type 0) → Scheme w → (S → Tables w → R → Type 0) → StatementLog w S R → Type 0
Determined w S R g means t = (f : Tables w) → Alone w g f t.items → means t.asked f t.said

-- each statement answers what it means over the tables with the transaction's earlier changes
abbrev pub EachMeans : (w : World) (S R : Type 0) → (S → Tables w → R → Type 0) → Tables w → List (StatementLog w S R) → Type 0
EachMeans w S R means f [] = Unit {0}
EachMeans w S R means f (t ∷ ts) = EachMeans w S R means f ts × means t.asked (view w f (all_items w S R ts)) t.said

-- all rows of a table, in the order of an index
pub record IsAll (w : World) (g : Scheme w) (i : w.Index) (f : Tables w) (rows : List (w.Key × w.Content)) : Type 0 where
  pub rising : Rising w rows
  pub sound : (x : w.Key) (v : w.Content) → Has (x, v) rows → Lookup w g i f x v
  pub full : (x : w.Key) (v : w.Content) → Lookup w g i f x v → Has (x, v) rows

abbrev pub only : {A : Type 0} → (A → Bool) → List A → List A
only p [] = []
only p (x ∷ xs) = cond (p x) (x ∷ only p xs) (only p xs)

abbrev pub each : {A B : Type 0} → (A → List B) → List A → List B
each f [] = []
each f (x ∷ xs) = f x ++ each f xs

-- a join of two sources, as nested scans: for each outer row that was taken in, the inner rows taken in for it that pass, beside it
abbrev pub nested : {A B C : Type 0} → (A → List B) → (A → B → Bool) → (A → B → C) → List A → List C
nested inner passes pair outer = each (λ a. each (λ b. pair a b ∷ []) (only (passes a) (inner a))) outer
