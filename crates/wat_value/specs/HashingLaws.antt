-- Values that are the same are hashed alike, and so are keys and places.
use Rattle.std.proofs.Common.{◌≡◌, List, ap}
use Rattle.std.specs.Prelude.{IsTrue}
use Rattle.wat_value.specs.declared.value.Value.{Value}
use Rattle.wat_value.specs.declared.place.Place.{Place}
use Rattle.wat_value.specs.Order.{value_cmp, value_eq, key_cmp, key_eq, place_cmp, place_eq}
use Rattle.wat_value.specs.OrderLaws.{value_cmp_level, key_cmp_level, place_cmp_level, equal_of}
use Rattle.wat_value.specs.Hashing.{value_hash, key_hash, place_hash}

pub value_hash_alike : (v w : Value) → IsTrue (value_eq v w) → value_hash v ≡ value_hash w
value_hash_alike v w same = ap value_hash (value_cmp_level v w (equal_of (value_cmp v w) same))

pub key_hash_alike : (a b : List Value) → IsTrue (key_eq a b) → key_hash a ≡ key_hash b
key_hash_alike a b same = ap key_hash (key_cmp_level a b (equal_of (key_cmp a b) same))

pub place_hash_alike : (p q : Place) → IsTrue (place_eq p q) → place_hash p ≡ place_hash q
place_hash_alike p q same = ap place_hash (place_cmp_level p q (equal_of (place_cmp p q) same))
