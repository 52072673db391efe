use Rattle.std.proofs.Common.{◌+◌, ◌∷◌, drop, sym, ◌∙◌, ap}
use Rattle.std.proofs.lemmas.List.{drop_more, drop_all}
use Rattle.wat_value.specs.declared.definition.TableDef.{TableDef}
use Rattle.wat_catalog_chain.proofs.Walks.{next_of, within, may_write, writes_more, writes_all}
use Rattle.wat_catalog_chain.proofs.writing.schema_payload.Goals as goal

pub split_at-requires : goal.split_at-requires
split_at-requires c =
    let items = c.as_slice-def-items.result.now in
    let left = drop_more items c.loop-def.def-index c.def-item.result c.loop-def-test.true ∙ ap (λ (d : TableDef). d ∷ drop (c.loop-def.def-index + 1) items) (sym c.def-item.is) in
    within (next_of c.args.schema.now c.loop-def.out.items c.def-item.result (drop c.loop-def.def-index items) (drop (c.loop-def.def-index + 1) items) c.loop-def.rest.now c.loop-def.invariant left) c.leading.result c.leading.ensures

pub push_listing-requires : goal.push_listing-requires
push_listing-requires c =
    let items = c.as_slice-def-items.result.now in
    let left = drop_more items c.loop-def.def-index c.def-item.result c.loop-def-test.true ∙ ap (λ (d : TableDef). d ∷ drop (c.loop-def.def-index + 1) items) (sym c.def-item.is) in
    may_write (next_of c.args.schema.now c.loop-def.out.items c.def-item.result (drop c.loop-def.def-index items) (drop (c.loop-def.def-index + 1) items) c.loop-def.rest.now c.loop-def.invariant left) c.leading.result c.leading.ensures
    c.split_at.result.0.now c.split_at.ensures.front

pub loop-def-preserved : goal.loop-def-preserved
loop-def-preserved c =
    let items = c.as_slice-def-items.result.now in
    let left = drop_more items c.loop-def.def-index c.def-item.result c.loop-def-test.true ∙ ap (λ (d : TableDef). d ∷ drop (c.loop-def.def-index + 1) items) (sym c.def-item.is) in
    writes_more (next_of c.args.schema.now c.loop-def.out.items c.def-item.result (drop c.loop-def.def-index items) (drop (c.loop-def.def-index + 1) items) c.loop-def.rest.now c.loop-def.invariant left) c.leading.result c.leading.ensures
    c.split_at.result.0.now c.split_at.result.1.now c.push_listing.new.out.items c.split_at.ensures.front c.split_at.ensures.back c.in_ok-push_listing.ensures.ok c.in_ok-push_listing.ensures.encodable

pub returns : goal.returns
returns c =
    let items = c.as_slice-def-items.result.now in
    writes_all c.args.schema.now c.loop-def.out.items (drop c.loop-def.def-index items) c.loop-def.rest.now c.catalog_law.ensures c.loop-def.invariant (drop_all c.loop-def.def-index items c.loop-def-test.false)
