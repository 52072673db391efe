use Rattle.std.proofs.Common.{◌∙◌, sym, unwrap_or}
use Rattle.wat_schema.specs.Tables.{apply}
use Rattle.wat_alone.proofs.MakingLemmas.{made-more}
use Rattle.wat_alone.proofs.making.make_all.Goals as goal

pub loop-act-preserved : goal.loop-act-preserved
loop-act-preserved c =
    c.in_ok-apply.ensures.after ∙ (λ j. unwrap_or (apply (c.act-item.is j) (c.loop-act.invariant j)) (c.loop-act.invariant j))
    ∙ sym (made-more c.args.acts.now c.loop-act.act-index c.act-item.result c.args.tables.now c.loop-act-test.true)
