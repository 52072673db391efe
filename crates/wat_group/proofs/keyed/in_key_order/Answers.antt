use Rattle.std.proofs.Common.{◌≡◌, ◌++◌, map, arith, sym, ap, ◌∙◌, append-nil}
use Rattle.std.proofs.lemmas.List.{at_drop_all}
use Rattle.wat_group.specs.Query.{keys_at, in_key_order}
use Rattle.wat_walk.specs.Lent.{lent}
use Rattle.wat_group.specs.Private.{keyed_as, rows_in, under}
use Rattle.wat_group.proofs.Keying.{rows_sorted}
use Rattle.wat_group.proofs.keyed.in_key_order.Goals as goal

pub returns : goal.returns
returns c =
    let key = keys_at c.args.defs.now in
    let keyed = c.loop-rows.keyed.items in
    let rows = c.as_slice-rows-items.result.now in
    let all : keyed_as keyed ≡ map (under key) rows =
    sym (append-nil _) ∙ sym (at_drop_all (λ rest. keyed_as keyed ++ map (under key) rest) rows c.loop-rows.rows-index (omega arith)) ∙ c.loop-rows.invariant in
    let entries = c.deref-entry-items.result.now in
    let out : lent c.loop-entry.ordered.items ≡ rows_in entries =
    sym (append-nil _) ∙ sym (at_drop_all (λ rest. lent c.loop-entry.ordered.items ++ rows_in rest) entries c.loop-entry.entry-index (omega arith)) ∙ c.loop-entry.invariant in
    let sorted = rows_sorted key keyed rows all in
    out ∙ ap rows_in (c.deref-entry-items.ensures.value ∙ c.in_ok-sort_by_keys.ensures) ∙ sorted ∙ ap (in_key_order c.args.defs.now) c.as_slice-rows-items.ensures
