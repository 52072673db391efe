-- The keys that an index in memory stands for.
use Rattle.std.specs.Prelude.{◌≡◌, true, List}
use Rattle.wat_list.specs.Rising.{rising}
use Rattle.wat_value.specs.Order.{key_cmp}
use Rattle.wat_index.specs.KeySets.{Key}

-- these keys, in strict order
pub record Holds (index keys : List Key) : Type 0 where
  pub same : index ≡ keys
  pub in_order : rising key_cmp keys ≡ true
