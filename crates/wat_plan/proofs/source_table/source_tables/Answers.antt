use Rattle.std.proofs.Common.{Some, sym, ap, ◌∙◌}
use Rattle.wat_ast.specs.declared.query.Source.{Source}
use Rattle.wat_schema.specs.Catalog.{listing_named}
use Rattle.wat_conjuncts.proofs.LimitLemmas.{some_next, none_next}
use Rattle.wat_plan.proofs.source_table.source_tables.Goals as goal
use Rattle.wat_plan.proofs.source_table.source_tables.Goals.{in-Some+in_ok-push, in_default}

pub loop-source-preserved : goal.loop-source-preserved
loop-source-preserved c =
    let h = λ (s : Source). listing_named c.args.schema.now s.table in
    let items = c.as_slice-source-items.result.now in
    let i = c.loop-source.source-index in
    let found = c.in_ok-table.ensures ∙ ap (listing_named c.args.schema.now) c.as_str.ensures.text in
    elim c.match-branch-2.branch [
      | in-Some+in_ok-push w ↦
          rw w.tables-is
          (w.in_ok-push.ensures.ok ∙ some_next h items i c.source-item.result (Some w.in-Some.table) c.loop-source.tables c.loop-source-test.true c.source-item.is (sym w.in-Some.is ∙ found) c.loop-source.invariant)
      | in_default w ↦
          rw w.tables-is
          (none_next h items i c.source-item.result c.loop-source.tables c.loop-source-test.true c.source-item.is (sym found ∙ w.in_default.is) c.loop-source.invariant)
    ]
