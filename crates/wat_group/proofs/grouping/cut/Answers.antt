use Rattle.std.proofs.Common.{◌≡◌, arith, take, drop, subst, sym, ap, ◌∙◌, length-drop}
use Rattle.std.proofs.lemmas.List.{take_rest, drop-drop}
use Rattle.sqlite_trees.specs.Tree.{IsAscending}
use Rattle.wat_group.specs.Private.{over_of, rows_in, IsAtMost}
use Rattle.wat_expr.specs.Evaluation.{over_group}
use Rattle.wat_group.proofs.Runs.{IsRun, same_key, run_at, group_pushed}
use Rattle.wat_group.proofs.grouping.cut.Goals as goal

run_here : (c : goal.In_ok-push) → IsRun c.index-sorted-start.result (drop c.loop-start.start c.args.sorted.now) c.run_length-length.result
run_here c =
    let sorted = c.args.sorted.now in
    let p = c.index-sorted-start.result in
    let run = run_at sorted c.loop-start.start p c.loop-start-test.true c.index-sorted-start.is c.loop-start.invariant.ascending in
    let long : c.run_length-length.result ≡ same_key p (drop c.loop-start.start sorted) = c.run_length-length.ensures ∙ ap (same_key p) (take_rest sorted c.loop-start.start) in
    subst (IsRun p (drop c.loop-start.start sorted)) (sym long) run

pub loop-start-smaller : goal.loop-start-smaller
loop-start-smaller c =
    let run = run_here c in
    let rest = length-drop c.loop-start.start c.args.sorted.now in
    omega arith

pub loop-start-preserved : goal.loop-start-preserved
loop-start-preserved c =
    let sorted = c.args.sorted.now in
    let start = c.loop-start.start in
    let n = c.run_length-length.result in
    let p = c.index-sorted-start.result in
    let run = run_here c in
    let rest = length-drop start sorted in
    let below = c.loop-start.invariant.within in
    let further = drop-drop n start sorted in
    let group : over_of c.in_ok-group_of.field-0 ≡ over_group p.rows.now (rows_in (take n (drop start sorted))) =
    c.in_ok-group_of.ensures ∙ ap (λ l. over_group p.rows.now (rows_in (take n l))) (take_rest sorted start) in
    let pushed = group_pushed c.loop-start.groups.items c.in_ok-group_of.field-0 p (drop start sorted) n _ run group c.loop-start.invariant.groups in
    record {
      within = omega arith;
      ascending = subst (IsAscending IsAtMost) further run.ascending;
      groups = rw (c.in_ok-push.ensures.items, ← further) pushed;
    }
