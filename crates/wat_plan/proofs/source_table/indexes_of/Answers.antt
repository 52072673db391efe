use Rattle.std.proofs.Common.{◌++◌, ◌∷◌, [], sym, ap, ◌∙◌}
use Rattle.std.specs.Option.{option_copied}
use Rattle.wat_plan.proofs.SourceLemmas.{index_next, index_past, indexes_end}
use Rattle.wat_plan.proofs.source_table.indexes_of.Goals as goal
use Rattle.wat_plan.proofs.source_table.indexes_of.Goals.{in-Some+in_ok-copy+in_ok-push, in_default}

pub loop-number-preserved : goal.loop-number-preserved
loop-number-preserved c =
    let schema = c.args.schema.now in
    let indexes = c.loop-number.indexes in
    elim c.match-index.branch [
      | in-Some+in_ok-copy+in_ok-push w ↦
          rw w.indexes-is
          (w.in_ok-push.ensures.ok
          ∙ (ap (λ z. indexes ++ z ∷ []) w.in_ok-copy.ensures
          ∙ index_next schema c.args.table c.loop-number.number c.catalog_law.ensures c.loop-number.auto.number indexes c.loop-number.invariant w.in-Some.index.now (sym c.index.ensures ∙ ap option_copied w.in-Some.is)))
      | in_default w ↦
          rw w.indexes-is
          (index_past schema c.args.table c.loop-number.number c.catalog_law.ensures c.loop-number.auto.number indexes c.loop-number.invariant (sym c.index.ensures ∙ ap option_copied w.in_default.is))
    ]

pub returns : goal.returns
returns c = indexes_end c.args.schema.now c.args.table c.loop-number.number c.catalog_law.ensures c.loop-number.auto.number c.loop-number.indexes c.loop-number.invariant c.loop-number-test.false
