-- The order of lines is total.
use Rattle.std.proofs.Common.{◌≡◌, refl}
use Rattle.std.specs.declared.cmp.Ordering.TheVariants.{Less, Equal}
use Rattle.std.specs.Ordering.{ordering_reverse}
use Rattle.std.specs.Cmp.{IsTotalOrder, back_total}
use Rattle.std.specs.Cmp.Lexicographic.{lists_total}
use Rattle.wat_value.specs.OrderLaws.{value_cmp_total}
use Rattle.wat_group.specs.declared.line.OrderKey.{OrderKey}
use Rattle.wat_group.specs.declared.line.OrderKey.TheVariants.{Ascending, Descending}
use Rattle.wat_group.specs.Order.{order_key_cmp, order_keys_cmp}

antisymm : (x y : OrderKey) → order_key_cmp x y ≡ ordering_reverse (order_key_cmp y x)
antisymm (Ascending v) (Ascending w) = value_cmp_total.antisymm v w
antisymm (Ascending v) (Descending w) = refl
antisymm (Descending v) (Ascending w) = refl
antisymm (Descending v) (Descending w) = value_cmp_total.antisymm w v

trans : (x y z : OrderKey) → order_key_cmp x y ≡ Less → order_key_cmp y z ≡ Less → order_key_cmp x z ≡ Less
trans (Ascending u) (Ascending v) (Ascending w) p q = value_cmp_total.trans u v w p q
trans (Ascending u) (Ascending v) (Descending w) p q = refl
trans (Ascending u) (Descending v) (Ascending w) p q = cc
trans (Ascending u) (Descending v) (Descending w) p q = refl
trans (Descending u) (Ascending v) z p q = cc
trans (Descending u) (Descending v) (Ascending w) p q = cc
trans (Descending u) (Descending v) (Descending w) p q = value_cmp_total.trans w v u q p

congr : (x y z : OrderKey) → order_key_cmp x y ≡ Equal → order_key_cmp x z ≡ order_key_cmp y z
congr (Ascending u) (Ascending v) (Ascending w) e = value_cmp_total.congr u v w e
congr (Ascending u) (Ascending v) (Descending w) e = refl
congr (Ascending u) (Descending v) z e = cc
congr (Descending u) (Ascending v) z e = cc
congr (Descending u) (Descending v) (Ascending w) e = refl
congr (Descending u) (Descending v) (Descending w) e = (back_total value_cmp_total).congr u v w e

pub order_key_cmp_total : IsTotalOrder order_key_cmp
order_key_cmp_total = record { antisymm = antisymm; trans = trans; congr = congr }

pub order_keys_cmp_total : IsTotalOrder order_keys_cmp
order_keys_cmp_total = lists_total order_key_cmp_total
