use Rattle.std.proofs.Common.{◌≡◌, ◌==◌, ◌&&◌, nat_le, map, List, true, false, length, ap, sym, ◌∙◌}
use Rattle.wat_value.specs.declared.definition.TableDef.{TableDef}
use Rattle.wat_schema.specs.Catalog.{ascend}
use Rattle.wat_catalog_chain.proofs.Walks.{no_bytes, none_behind, none_longer, none_in_order, spells}
use Rattle.wat_catalog_chain.proofs.reading.read_definitions.Goals as goal

pub returns-then-not-is_empty-clause-none : goal.returns-then-not-is_empty-clause-none
returns-then-not-is_empty-clause-none c =
    none_longer c.args.payload.now c.in-Some.rest.now c.in-Some-2.rest.now c.in-Some.count c.args.next c.in-Some-2.found.tables c.in-Some-2.found.indexes c.in-Some.ensures (rw c.in-Some-2.is at c.in_ok-found.ensures)
    (λ none. let is : c.is_empty.result ≡ true = c.is_empty.ensures ∙ ap (λ l. length l == 0) none in let isnt : c.is_empty.result ≡ false = c.if-not-is_empty.true in cc)

pub returns-then-not-are_in_order-clause-none : goal.returns-then-not-are_in_order-clause-none
returns-then-not-are_in_order-clause-none c =
    none_in_order c.args.payload.now c.in-Some.rest.now c.in-Some-2.rest.now c.in-Some.count c.args.next c.in-Some-2.found.tables c.in-Some-2.found.indexes c.in-Some.ensures (rw c.in-Some-2.is at c.in_ok-found.ensures)
    (ap (λ (ds : List TableDef). nat_le 1 c.args.next && ascend 0 (map (λ def. def.number) ds) c.args.next) (sym c.as_slice.ensures) ∙ sym c.are_in_order.ensures ∙ c.if-not-are_in_order.true)

pub returns-else-not-are_in_order-clause-spelled : goal.returns-else-not-are_in_order-clause-spelled
returns-else-not-are_in_order-clause-spelled c =
    spells c.args.payload.now c.in-Some.rest.now c.in-Some-2.rest.now c.in-Some.count c.args.next c.in-Some-2.found.tables c.in-Some-2.found.indexes c.in-Some.ensures (rw c.in-Some-2.is at c.in_ok-found.ensures)
    (no_bytes c.in-Some-2.rest.now c.is_empty.result c.is_empty.ensures c.if-not-is_empty.false)
    (ap (λ (ds : List TableDef). nat_le 1 c.args.next && ascend 0 (map (λ def. def.number) ds) c.args.next) (sym c.as_slice.ensures) ∙ sym c.are_in_order.ensures ∙ c.if-not-are_in_order.false)

pub returns-in-None-clause-none : goal.returns-in-None-clause-none
returns-in-None-clause-none c = none_behind c.args.payload.now c.in-Some.rest.now c.in-Some.count c.args.next c.in-Some.ensures (rw c.in-None.is at c.in_ok-found.ensures)
