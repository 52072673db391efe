use Rattle.std.proofs.Common.{◌≡◌, arith}
use Rattle.wat_gen.proofs.Beginning.{filled, on_ok, rows_more}
use Rattle.wat_gen.proofs.opening.push_filling.Goals as goal

pub loop-i-preserved : goal.loop-i-preserved
loop-i-preserved c =
    rows_more c.push-2.new.self c.loop-i.statements c.push-in-loop-i.new.self c.loop-i.i c.loop-i.invariant c.in_ok-push-3.ensures.ok

pub returns : goal.returns
returns c =
    let all_rows : c.loop-i.i ≡ 100 = omega arith in
    on_ok c.push-3.result _ _ (filled c.args.statements.now c.push.new.self c.push-2.new.self c.loop-i.statements c.push-3.new.self c.loop-i.i c.in_ok-push.ensures.ok c.in_ok-push-2.ensures.ok c.loop-i.invariant all_rows) c.push-3.ensures.ok
