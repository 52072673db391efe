-- Which keys an interval holds, and the first key that a bound admits.
use Rattle.std.specs.Prelude.{◌≡◌, Bool, true, ◌&&◌, List, length, take, Option, Some, None}
use Rattle.std.specs.List.{find}
use Rattle.std.specs.declared.cmp.Ordering.{Ordering}
use Rattle.std.specs.Ordering.{is_lt, is_le, is_gt, is_ge}
use Rattle.wat_value.specs.declared.value.Value.{Value}
use Rattle.wat_value.specs.declared.bound.Bound.{Bound}
use Rattle.wat_value.specs.declared.bound.Bound.TheVariants.{Free, Including, Excluding}
use Rattle.wat_value.specs.declared.bound.Interval.{Interval}
use Rattle.wat_value.specs.declared.place.Place.{Place}
use Rattle.wat_value.specs.declared.place.Place.TheVariants.{At, End}
use Rattle.wat_value.specs.Order.{key_cmp}

-- as many of the key's first values as the bound has, against the bound
abbrev pub prefix_cmp : List Value → List Value → Ordering
prefix_cmp key bound = key_cmp (take (length bound) key) bound

-- the key is above the lower bound, which admits it
abbrev pub is_above : Bound → List Value → Bool
is_above Free key = true
is_above (Including bound) key = is_ge (prefix_cmp key bound)
is_above (Excluding bound) key = is_gt (prefix_cmp key bound)

-- the key is below the upper bound
abbrev pub is_below : Bound → List Value → Bool
is_below Free key = true
is_below (Including bound) key = is_le (prefix_cmp key bound)
is_below (Excluding bound) key = is_lt (prefix_cmp key bound)

-- the key is between the bounds
abbrev pub holds : Interval → List Value → Bool
holds i key = is_above i.lower key && is_below i.upper key

-- the place is at the least of these keys that the lower bound admits, or the end where it admits none
abbrev pub IsFirstFrom : (List Value → Type 0) → Bound → Place → Type 0
IsFirstFrom IsKey bound (At key) = (is_above bound key ≡ true) × IsKey key × ((other : List Value) → is_above bound other ≡ true → is_lt (key_cmp other key) ≡ true → IsKey other → ⊥)
IsFirstFrom IsKey bound End = (other : List Value) → is_above bound other ≡ true → IsKey other → ⊥

abbrev pub place_of : Option (List Value) → Place
place_of None = End
place_of (Some key) = At key

-- that place among keys in order
abbrev pub first_from : Bound → List (List Value) → Place
first_from bound keys = place_of (find (is_above bound) keys)
