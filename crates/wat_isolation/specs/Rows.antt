-- Rows, their keys in the indexes, and cuts between keys.
use Rattle.std.specs.Prelude.{◌≡◌, Bool, true, false, not, List, [], ◌∷◌, Option, Some, None, ◌⊎◌}
use Rattle.wat_list.specs.Has.{Has}
use Rattle.wat_isolation.specs.World.{World, put}

-- The indexes of all tables: the key of a row in an index (none: the row is of another table), and the row that a key belongs to.
pub record Scheme (w : World) : Type 0 where
  pub key : w.Index → w.Row → w.Content → Option w.Key
  pub row_of : w.Index → w.Key → w.Row
  pub owned : (i : w.Index) (r : w.Row) (v : w.Content) (x : w.Key) → key i r v ≡ Some x → row_of i x ≡ r

-- the content of each row that stands
abbrev pub Tables : World → Type 0
Tables w = w.Row → Option w.Content

abbrev pub set_row : (w : World) → Tables w → w.Row → Option w.Content → Tables w
set_row w f r v = put w.same f r v

-- the key that a row with this content has in an index
abbrev pub key_at : (w : World) → Scheme w → w.Index → w.Row → Option w.Content → Option w.Key
key_at w g i r None = None
key_at w g i r (Some v) = g.key i r v

-- a row stands at this key of the index
abbrev pub IsLive : (w : World) → Scheme w → w.Index → Tables w → w.Key → Type 0
IsLive w g i f x = key_at w g i (g.row_of i x) (f (g.row_of i x)) ≡ Some x

-- a row with this content stands there
abbrev pub Lookup : (w : World) → Scheme w → w.Index → Tables w → w.Key → w.Content → Type 0
Lookup w g i f x v = (f (g.row_of i x) ≡ Some v) × (g.key i (g.row_of i x) v ≡ Some x)

-- a cut: the keys before it
abbrev pub Cut : World → Type 0
Cut w = w.Key → Bool

abbrev pub IsCut : (w : World) → Cut w → Type 0
IsCut w c = (x y : w.Key) → w.less x y ≡ true → c y ≡ true → c x ≡ true

abbrev pub before : (w : World) → w.Key → Cut w
before w x y = w.less y x

abbrev pub upto : (w : World) → w.Key → Cut w
upto w x y = not (w.less x y)

-- the key lies from the one cut to the other
abbrev pub Within : (w : World) → Cut w → Cut w → w.Key → Type 0
Within w lo hi x = (lo x ≡ false) × (hi x ≡ true)

-- the keys ascend
abbrev pub Rising : (w : World) → List (w.Key × w.Content) → Type 0
Rising w [] = Unit {0}
Rising w (e ∷ es) = ((d : w.Key × w.Content) → Has d es → w.less e.0 d.0 ≡ true) × Rising w es
