-- What values, keys and places give to a hash function.
use Rattle.std.specs.Prelude.{List, ◌++◌}
use Rattle.std.specs.Hash as fed
use Rattle.std.specs.Hash.{HashWrites}
use Rattle.wat_value.specs.declared.value.Value.{Value}
use Rattle.wat_value.specs.declared.value.Value.TheVariants.{Null, Int, Text}
use Rattle.wat_value.specs.declared.place.Place.{Place}
use Rattle.wat_value.specs.declared.place.Place.TheVariants.{At, End}

-- 0 for Null, 1 before an integer, 2 before a text
abbrev pub value_hash : Value → HashWrites
value_hash Null = fed.u8 0
value_hash (Int n) = fed.u8 1 ++ fed.i64 n
value_hash (Text t) = fed.u8 2 ++ fed.str t

-- the count of the values, and each of them
abbrev pub key_hash : List Value → HashWrites
key_hash = fed.slice value_hash

-- 0 before a key, 1 for the end
abbrev pub place_hash : Place → HashWrites
place_hash (At key) = fed.u8 0 ++ key_hash key
place_hash End = fed.u8 1
