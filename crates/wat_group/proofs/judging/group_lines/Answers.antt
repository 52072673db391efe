use Rattle.std.proofs.Common.{◌+◌, ◌++◌, drop, sym, ap, ◌∙◌}
use Rattle.wat_group.specs.Private.{over_of}
use Rattle.wat_group.proofs.JudgedLemmas.{from_dropped, from_kept, kept_lines, next_fails, lines_dropped, lines_kept}
use Rattle.wat_group.proofs.judging.group_lines.Goals as goal

pub loop-group-preserved-in-Dropped : goal.loop-group-preserved-in-Dropped
loop-group-preserved-in-Dropped c =
    let q = c.args.query.now in
    let gs = c.args.groups.now in
    let i = c.loop-group.group-index in
    let g = c.group-item.result in
    let why = from_dropped q (over_of g) (sym c.in_ok-judge.ensures ∙ c.in-Dropped.is) in
    record {
      no_error = next_fails q gs i g c.loop-group-test.true c.group-item.is why.0 ∙ c.loop-group.invariant.no_error;
      lines = ap (λ l. c.loop-group.lines.items ++ l) (lines_dropped q gs i g c.loop-group-test.true c.group-item.is why.1) ∙ c.loop-group.invariant.lines;
    }

pub loop-group-preserved : goal.loop-group-preserved
loop-group-preserved c =
    let q = c.args.query.now in
    let gs = c.args.groups.now in
    let i = c.loop-group.group-index in
    let g = c.group-item.result in
    let why = from_kept q (over_of g) c.in-Kept.line (sym c.in_ok-judge.ensures ∙ c.in-Kept.is) in
    record {
      no_error = next_fails q gs i g c.loop-group-test.true c.group-item.is why.0 ∙ c.loop-group.invariant.no_error;
      lines = ap (λ l. l ++ kept_lines q (drop (i + 1) gs)) c.in_ok-push.ensures.items
          ∙ lines_kept q gs i g c.loop-group-test.true c.group-item.is c.loop-group.lines.items c.in-Kept.line why.1 why.2 ∙ c.loop-group.invariant.lines;
    }
