use Rattle.std.specs.Cmp.{on_total}
use Rattle.std.specs.Ordering.{on}
use Rattle.std.proofs.lemmas.List.Sorted.{IsPermutation-sym}
use Rattle.sqlite_keyed.proofs.SortLemmas.{IsPermutation-sort_by}
use Rattle.wat_value.specs.Order.{key_cmp}
use Rattle.wat_value.specs.OrderLaws.{key_cmp_total}
use Rattle.wat_group.specs.declared.line.Line.{Line}
use Rattle.wat_group.specs.Order.{order_keys_cmp}
use Rattle.wat_group.specs.OrderLaws.{order_keys_cmp_total}
use Rattle.wat_group.specs.Query.{keys_at}
use Rattle.wat_group.proofs.Sorting.{ascending-sort_by, stable_order, sorted_from_ascending}
use Rattle.wat_group.proofs.laws.order_laws.Goals as goal

pub returns-clause-keys_permuted : goal.returns-clause-keys_permuted
returns-clause-keys_permuted c defs met = IsPermutation-sym _ _ (IsPermutation-sort_by (on (keys_at defs) key_cmp) (on_total (keys_at defs) key_cmp_total) met)

pub returns-clause-keys_sorted : goal.returns-clause-keys_sorted
returns-clause-keys_sorted c defs met =
    let cmp = on (keys_at defs) key_cmp in
    let total = on_total (keys_at defs) key_cmp_total in
    sorted_from_ascending cmp total _ (ascending-sort_by cmp total met)

pub returns-clause-keys_stable : goal.returns-clause-keys_stable
returns-clause-keys_stable c defs met = stable_order (on (keys_at defs) key_cmp) (on_total (keys_at defs) key_cmp_total) met

pub returns-clause-lines_permuted : goal.returns-clause-lines_permuted
returns-clause-lines_permuted c lines =
    let order = λ (line : Line). line.order in
    IsPermutation-sym _ _ (IsPermutation-sort_by (on order order_keys_cmp) (on_total order order_keys_cmp_total) lines)

pub returns-clause-lines_sorted : goal.returns-clause-lines_sorted
returns-clause-lines_sorted c lines =
    let order = λ (line : Line). line.order in
    let total = on_total order order_keys_cmp_total in
    sorted_from_ascending (on order order_keys_cmp) total _ (ascending-sort_by (on order order_keys_cmp) total lines)

pub returns-clause-lines_stable : goal.returns-clause-lines_stable
returns-clause-lines_stable c lines =
    let order = λ (line : Line). line.order in
    stable_order (on order order_keys_cmp) (on_total order order_keys_cmp_total) lines
