use Rattle.std.proofs.Common.{rules}
use Rattle.std.specs.Cmp.{on_total}
use Rattle.std.specs.Ordering.{on}
use Rattle.wat_group.specs.Order.{order_keys_cmp}
use Rattle.wat_group.specs.OrderLaws.{order_keys_cmp_total}
use Rattle.wat_group.specs.declared.line.Line.{Line}
use Rattle.wat_group.proofs.Sorting.{from_sort_by}
use Rattle.wat_group.proofs.ordering.sort.Goals as goal

pub returns : goal.returns
returns c =
    let order = λ (line : Line). line.order in
    from_sort_by (on order order_keys_cmp) (on_total order order_keys_cmp_total) _ _ c.in_ok-sort_by.ensures.sorted c.in_ok-sort_by.ensures.stable (λ a r f' k. search rules)
