use Rattle.std.proofs.Common.{◌≤◌, length, ap, arith}
use Rattle.std.specs.Option.{option_and_then}
use Rattle.wat_schema.specs.Catalog.{empty_catalog}
use Rattle.wat_schema.specs.Making.{followed_by, with_indexes_of, with_tables_of}
use Rattle.wat_schema.proofs.Stored.{tables_on, tables_stop, indexes_on, indexes_stop, not_followed}
use Rattle.wat_schema.proofs.schema.Schema.made_of.Goals as goal

pub loop-i-preserved : goal.loop-i-preserved
loop-i-preserved c =
    tables_on c.args.defs.now c.loop-i.i c.item.result.now c.loop-i.schema c.add_table.new.self (with_tables_of c.args.defs.now empty_catalog) c.loop-i.invariant c.item.ensures
    (rw c.if-not-branch.false at c.in_ok-add_table.ensures)

pub returns-then-not-branch : goal.returns-then-not-branch
returns-then-not-branch c =
    ap (λ made. option_and_then (followed_by c.args.next) (option_and_then (with_indexes_of c.args.indexes.now) made))
    (tables_stop c.args.defs.now c.loop-i.i c.item.result.now c.loop-i.schema (with_tables_of c.args.defs.now empty_catalog) c.loop-i.invariant c.item.ensures
    (rw c.if-not-branch.true at c.in_ok-add_table.ensures))

pub loop-i-2-preserved : goal.loop-i-2-preserved
loop-i-2-preserved c =
    indexes_on c.args.indexes.now c.loop-i-2.i c.item-in-loop-i-2.result.now c.loop-i-2.schema c.add_index.new.self
    (option_and_then (with_indexes_of c.args.indexes.now) (with_tables_of c.args.defs.now empty_catalog)) c.loop-i-2.invariant c.item-in-loop-i-2.ensures
    (rw c.if-not-branch-2.false at c.in_ok-add_index.ensures)

pub returns-then-not-branch-2 : goal.returns-then-not-branch-2
returns-then-not-branch-2 c =
    ap (option_and_then (followed_by c.args.next))
    (indexes_stop c.args.indexes.now c.loop-i-2.i c.item-in-loop-i-2.result.now c.loop-i-2.schema
    (option_and_then (with_indexes_of c.args.indexes.now) (with_tables_of c.args.defs.now empty_catalog)) c.loop-i-2.invariant c.item-in-loop-i-2.ensures
    (rw c.if-not-branch-2.true at c.in_ok-add_index.ensures))

pub returns-then-next : goal.returns-then-next
returns-then-next c =
    let all : length c.args.indexes.now ≤ c.loop-i-2.i = omega arith in
    not_followed c.args.indexes.now c.loop-i-2.i c.args.next c.next.result c.loop-i-2.schema (option_and_then (with_indexes_of c.args.indexes.now) (with_tables_of c.args.defs.now empty_catalog))
    c.loop-i-2.invariant all c.next.ensures.number c.if-next.true
