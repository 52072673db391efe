use Rattle.std.proofs.Common.{◌≡◌, List, [], map, true≢false, sym, ◌∙◌, subst, ap, Some}
use Rattle.std.specs.Cmp.{on_total}
use Rattle.std.specs.List.{list_any}
use Rattle.std.specs.Ordering.{on}
use Rattle.sqlite_trees.specs.Tree.{IsAscending}
use Rattle.wat_value.specs.Order.{key_cmp}
use Rattle.wat_value.specs.OrderLaws.{key_cmp_total}
use Rattle.wat_group.specs.declared.keyed.Keyed.{Keyed}
use Rattle.wat_group.specs.Query.{unless, fails_before_groups, group_values, groups_at, over_all}
use Rattle.wat_walk.specs.Lent.{lent}
use Rattle.wat_group.specs.Private.{IsAtMost, keyed_as, rows_in, under, classes}
use Rattle.wat_group.proofs.Sorting.{ascending-sort_by}
use Rattle.wat_group.proofs.Unless.{from_some}
use Rattle.wat_group.proofs.GroupsOfRuns.{groups_are}
use Rattle.wat_group.proofs.grouping.groups.Goals as goal

pub cut-requires : goal.cut-requires
cut-requires c =
    let key = λ (k : Keyed). k.key in
    subst (IsAscending IsAtMost) (sym (c.deref.ensures.value ∙ c.in_ok-sort_by_keys.ensures)) (ascending-sort_by (on key key_cmp) (on_total key key_cmp_total) c.in-Some.keyed.items)

pub returns : goal.returns
returns c =
    let q = c.args.query.now in
    let rows = lent c.args.rows.now in
    let keyed = c.in-Some.keyed.items in
    let found : Some (keyed_as keyed) ≡ unless (list_any (fails_before_groups q) rows) (map (under (group_values q)) rows) = rw c.in-Some.is at c.in_ok-keyed.ensures in
    let sound = from_some (list_any (fails_before_groups q) rows) (map (under (group_values q)) rows) (keyed_as keyed) found in
    let some : ¬ (q.group ≡ []) = λ e. true≢false (sym (c.if-is_empty.ensures.1 e)) in
    let sorted = c.deref.ensures.value ∙ c.in_ok-sort_by_keys.ensures in
    ap Some (c.in_ok-groups-2.ensures ∙ ap (λ (l : List Keyed). map over_all (map rows_in (classes l))) sorted ∙ groups_are q keyed rows some sound.1)
    ∙ sym (ap (λ b. unless b (groups_at q rows)) sound.0)
