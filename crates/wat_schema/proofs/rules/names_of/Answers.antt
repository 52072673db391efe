use Rattle.std.proofs.Common.{◌≡◌, true, ap, refl, ◌∙◌}
use Rattle.wat_value.specs.declared.definition.Column.{Column}
use Rattle.wat_schema.specs.Catalog.{repeats}
use Rattle.wat_schema.specs.Definitions.{same_name}
use Rattle.wat_schema.proofs.Once.{name_again, name_next, name_once}
use Rattle.wat_schema.proofs.rules.names_of.Goals as goal

pub returns-then-not-fresh : goal.returns-then-not-fresh
returns-then-not-fresh c =
    let again : repeats same_name c.args.columns.now ≡ true =
    name_again (λ (column : Column). column.name) c.args.columns.now c.loop-column.column-index c.column-item.result c.loop-column-test.true c.loop-column.names c.loop-column.invariant.called
    _ (c.as_str.ensures.text ∙ ap (λ (x : Column). x.name) c.column-item.is) c.in_ok-fresh.fresh c.in_ok-fresh.ensures.fresh c.if-not-fresh.true in
    rw again refl

pub loop-column-preserved : goal.loop-column-preserved
loop-column-preserved c = record {
  called =
      name_next (λ (column : Column). column.name) c.args.columns.now c.loop-column.column-index c.column-item.result c.loop-column-test.true c.loop-column.names c.loop-column.invariant.called
      _ (c.as_str.ensures.text ∙ ap (λ (x : Column). x.name) c.column-item.is) c.in_ok-fresh.fresh c.in_ok-fresh.ensures.fresh _ c.in_ok-fresh.ensures.added c.if-not-fresh.false;
  once =
      name_once (λ (column : Column). column.name) c.args.columns.now c.loop-column.column-index c.column-item.result c.loop-column-test.true c.loop-column.names c.loop-column.invariant.called
      _ (c.as_str.ensures.text ∙ ap (λ (x : Column). x.name) c.column-item.is) c.in_ok-fresh.fresh c.in_ok-fresh.ensures.fresh c.if-not-fresh.false c.loop-column.invariant.once;
}
