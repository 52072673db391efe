use Rattle.std.proofs.Common.{◌≡◌, Some, sym, ap, ◌∙◌}
use Rattle.wat_schema.specs.declared.refusal.Refusal.TheVariants.{Ambiguous}
use Rattle.wat_schema.proofs.Once.{name_next}
use Rattle.wat_scope.specs.declared.scope.Visible.{Visible}
use Rattle.wat_names.proofs.Again.{named_here, named_later}
use Rattle.wat_names.proofs.columns.named_again.Goals as goal

pub loop-source-preserved : goal.loop-source-preserved
loop-source-preserved c = record {
  called =
      name_next (λ (source : Visible). source.name) c.as_slice-source-items.result.now c.loop-source.source-index c.source-item.result c.loop-source-test.true c.loop-source.before c.loop-source.invariant.called
      _ (c.as_str.ensures.text ∙ ap (λ (x : Visible). x.name) c.source-item.is) c.in_ok-fresh.fresh c.in_ok-fresh.ensures.fresh _ c.in_ok-fresh.ensures.added c.if-not-fresh.false;
  rest =
      sym (named_later c.as_slice-source-items.result.now c.loop-source.source-index c.source-item.result c.loop-source-test.true c.loop-source.before c.loop-source.invariant.called
      _ (c.as_str.ensures.text ∙ ap (λ (x : Visible). x.name) c.source-item.is) c.in_ok-fresh.fresh c.in_ok-fresh.ensures.fresh c.if-not-fresh.false)
      ∙ c.loop-source.invariant.rest;
}

pub returns-then-not-fresh : goal.returns-then-not-fresh
returns-then-not-fresh c =
    ap (λ r. Some r) (c.in_ok-ambiguous.ensures ∙ ap (λ (x : Visible). Ambiguous x.name) c.source-item.is)
    ∙ sym (named_here c.as_slice-source-items.result.now c.loop-source.source-index c.source-item.result c.loop-source-test.true c.loop-source.before c.loop-source.invariant.called
    _ (c.as_str.ensures.text ∙ ap (λ (x : Visible). x.name) c.source-item.is) c.in_ok-fresh.fresh c.in_ok-fresh.ensures.fresh c.if-not-fresh.true)
    ∙ c.loop-source.invariant.rest
