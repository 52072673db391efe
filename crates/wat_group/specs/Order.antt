-- The order of the lines of a result.
use Rattle.std.specs.Prelude.{List}
use Rattle.std.specs.declared.cmp.Ordering.{Ordering}
use Rattle.std.specs.declared.cmp.Ordering.TheVariants.{Less, Greater}
use Rattle.std.specs.Cmp.Lexicographic.{slice_cmp}
use Rattle.wat_value.specs.declared.value.Value.{Value}
use Rattle.wat_value.specs.Order.{value_cmp}
use Rattle.wat_group.specs.declared.line.OrderKey.{OrderKey}
use Rattle.wat_group.specs.declared.line.OrderKey.TheVariants.{Ascending, Descending}

-- Null first, and DESC reversed; no two lines have keys of two directions in one place
abbrev pub order_key_cmp : OrderKey → OrderKey → Ordering
order_key_cmp (Ascending v) (Ascending w) = value_cmp v w
order_key_cmp (Descending v) (Descending w) = value_cmp w v
order_key_cmp (Ascending v) (Descending w) = Less
order_key_cmp (Descending v) (Ascending w) = Greater

-- by the first ORDER BY item that tells two lines apart
abbrev pub order_keys_cmp : List OrderKey → List OrderKey → Ordering
order_keys_cmp = slice_cmp order_key_cmp
