-- The order of values, of keys and of places.
use Rattle.std.specs.Prelude.{ℕ, List, Bool}
use Rattle.std.specs.declared.cmp.Ordering.{Ordering}
use Rattle.std.specs.declared.cmp.Ordering.TheVariants.{Less, Equal, Greater}
use Rattle.std.specs.Ordering.{nat_cmp, int_cmp, eq_by_cmp}
use Rattle.std.specs.Cmp.Lexicographic.{slice_cmp}
use Rattle.wat_value.specs.declared.value.Value.{Value}
use Rattle.wat_value.specs.declared.value.Value.TheVariants.{Null, Int, Text}
use Rattle.wat_value.specs.declared.place.Place.{Place}
use Rattle.wat_value.specs.declared.place.Place.TheVariants.{At, End}

-- Null first, then integers, then texts
abbrev pub rank : Value → ℕ
rank Null = 0
rank (Int n) = 1
rank (Text t) = 2

-- two integers by size, two texts byte by byte, and any other two values by rank
abbrev pub value_cmp : Value → Value → Ordering
value_cmp (Int m) (Int n) = int_cmp m n
value_cmp (Text s) (Text t) = slice_cmp nat_cmp s t
value_cmp v w = nat_cmp (rank v) (rank w)

-- the values are level in that order, and so the same
abbrev pub value_eq : Value → Value → Bool
value_eq = eq_by_cmp value_cmp

-- value by value, and a key before each longer one that begins with it
abbrev pub key_cmp : List Value → List Value → Ordering
key_cmp = slice_cmp value_cmp

-- two keys are level in that order, and so the same
abbrev pub key_eq : List Value → List Value → Bool
key_eq = eq_by_cmp key_cmp

-- by key, with the end behind all keys
abbrev pub place_cmp : Place → Place → Ordering
place_cmp (At a) (At b) = key_cmp a b
place_cmp (At a) End = Less
place_cmp End (At b) = Greater
place_cmp End End = Equal

-- two places are level in that order, and so the same
abbrev pub place_eq : Place → Place → Bool
place_eq = eq_by_cmp place_cmp
