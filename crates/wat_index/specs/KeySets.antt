-- Sets of keys, each as the list of its keys in strict order.
use Rattle.std.specs.Prelude.{◌∷◌, ◌++◌, List, filter}
use Rattle.std.specs.Ordering.{is_lt, is_gt}
use Rattle.wat_value.specs.declared.value.Value.{Value}
use Rattle.wat_value.specs.Order.{key_cmp}

abbrev pub Key : Type 0
Key = List Value

-- the keys that stand before this one, and those that stand behind it
abbrev pub before : Key → List Key → List Key
before key keys = filter (λ other. is_lt (key_cmp other key)) keys

abbrev pub behind : Key → List Key → List Key
behind key keys = filter (λ other. is_gt (key_cmp other key)) keys

-- the keys, and this one
abbrev pub with_key : Key → List Key → List Key
with_key key keys = before key keys ++ key ∷ behind key keys

-- the keys without this one
abbrev pub without_key : Key → List Key → List Key
without_key key keys = before key keys ++ behind key keys
