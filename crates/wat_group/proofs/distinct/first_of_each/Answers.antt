use Rattle.std.proofs.Common.{◌≡◌, ◌+◌, ◌++◌, ◌||◌, ◌∷◌, [], drop, true, false, sym, ap, ◌∙◌, append-nil}
use Rattle.std.proofs.lemmas.List.{at_drop_all}
use Rattle.wat_value.specs.Order.{key_eq}
use Rattle.wat_group.specs.Query.{Row, first_of_each}
use Rattle.wat_group.proofs.FirstOfEach.{is_among, unmet, seen_rows, among_after, among_by_keys, met_step, new_step, unmet-none, not_true, not_false}
use Rattle.wat_group.proofs.distinct.first_of_each.Goals as goal

pub loop-row-preserved-then-not-branch : goal.loop-row-preserved-then-not-branch
loop-row-preserved-then-not-branch c =
    let keys = c.loop-row.seen.keys in
    let x = c.row-item.result in
    let k = c.as_slice.result in
    let after : (y : Row) → is_among (seen_rows c.insert.new.self.keys) y ≡ key_eq y x || is_among (seen_rows keys) y =
    λ y. ap (λ ks. is_among (seen_rows ks) y) c.in_ok-insert.ensures.keys ∙ among_after keys k y ∙ ap (λ r. key_eq y r || is_among (seen_rows keys) y) c.as_slice.ensures in
    let met : is_among (seen_rows keys) x ≡ true =
    sym (among_by_keys keys k ∙ ap (is_among (seen_rows keys)) c.as_slice.ensures) ∙ not_true _ (sym c.if-not-branch.true ∙ c.in_ok-insert.ensures.added) in
    met_step c.loop-row.kept (seen_rows keys) (seen_rows c.insert.new.self.keys) c.as_slice-row-items.result.now _ c.loop-row.row-index x c.loop-row-test.true c.row-item.is after c.loop-row.invariant met

pub loop-row-preserved : goal.loop-row-preserved
loop-row-preserved c =
    let keys = c.loop-row.seen.keys in
    let x = c.row-item.result in
    let k = c.as_slice.result in
    let after : (y : Row) → is_among (seen_rows c.insert.new.self.keys) y ≡ key_eq y x || is_among (seen_rows keys) y =
    λ y. ap (λ ks. is_among (seen_rows ks) y) c.in_ok-insert.ensures.keys ∙ among_after keys k y ∙ ap (λ r. key_eq y r || is_among (seen_rows keys) y) c.as_slice.ensures in
    let new : is_among (seen_rows keys) x ≡ false =
    sym (among_by_keys keys k ∙ ap (is_among (seen_rows keys)) c.as_slice.ensures) ∙ not_false _ (sym c.if-not-branch.false ∙ c.in_ok-insert.ensures.added) in
    let kept = c.in_ok-push.ensures.ok ∙ ap (λ r. c.loop-row.kept ++ r ∷ []) c.in_ok-copy.ensures in
    ap (λ l. l ++ unmet (seen_rows c.insert.new.self.keys) (drop (c.loop-row.row-index + 1) c.as_slice-row-items.result.now)) kept
    ∙ new_step c.loop-row.kept (seen_rows keys) (seen_rows c.insert.new.self.keys) c.as_slice-row-items.result.now _ c.loop-row.row-index x c.loop-row-test.true c.row-item.is after c.loop-row.invariant new

pub returns : goal.returns
returns c =
    let rows = c.as_slice-row-items.result.now in
    sym (append-nil c.loop-row.kept) ∙ sym (at_drop_all (λ rest. c.loop-row.kept ++ unmet (seen_rows c.loop-row.seen.keys) rest) rows c.loop-row.row-index c.loop-row-test.false)
    ∙ c.loop-row.invariant ∙ unmet-none rows ∙ ap (first_of_each key_eq) c.as_slice-row-items.ensures
