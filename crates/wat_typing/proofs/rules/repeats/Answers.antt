use Rattle.std.proofs.Common.{sym, ◌∙◌}
use Rattle.wat_schema.proofs.Once.{name_again, name_next, name_once}
use Rattle.wat_schema.proofs.LookUps.{map_id}
use Rattle.wat_schema.specs.Catalog.{Name}
use Rattle.wat_typing.proofs.rules.repeats.Goals as goal

pub returns-then-not-fresh : goal.returns-then-not-fresh
returns-then-not-fresh c =
    sym (name_again (λ (n : Name). n) c.args.names.now c.loop-name.name-index c.name-item.result c.loop-name-test.true c.loop-name.before (c.loop-name.invariant.before ∙ sym (map_id _))
    _ (c.as_str.ensures.text ∙ c.name-item.is) c.in_ok-fresh.fresh c.in_ok-fresh.ensures.fresh c.if-not-fresh.true)

pub loop-name-preserved : goal.loop-name-preserved
loop-name-preserved c = record {
  before =
      name_next (λ (n : Name). n) c.args.names.now c.loop-name.name-index c.name-item.result c.loop-name-test.true c.loop-name.before (c.loop-name.invariant.before ∙ sym (map_id _))
      _ (c.as_str.ensures.text ∙ c.name-item.is) c.in_ok-fresh.fresh c.in_ok-fresh.ensures.fresh _ c.in_ok-fresh.ensures.added c.if-not-fresh.false
      ∙ map_id _;
  once =
      name_once (λ (n : Name). n) c.args.names.now c.loop-name.name-index c.name-item.result c.loop-name-test.true c.loop-name.before (c.loop-name.invariant.before ∙ sym (map_id _))
      _ (c.as_str.ensures.text ∙ c.name-item.is) c.in_ok-fresh.fresh c.in_ok-fresh.ensures.fresh c.if-not-fresh.false c.loop-name.invariant.once;
}
