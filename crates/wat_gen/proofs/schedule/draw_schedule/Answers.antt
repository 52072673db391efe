use Rattle.std.proofs.Common.{◌≡◌, ◌∙◌, sym, ap, ◌*◌, List, replicate, arith}
use Rattle.wat_schedule.specs.declared.item.Item.{Item}
use Rattle.wat_gen.specs.Schedule.{drawn_schedule, drawn_turn, turn_of}
use Rattle.wat_gen.proofs.Drawing.{behind, behind_more}
use Rattle.wat_gen.proofs.schedule.draw_schedule.Goals as goal

pub loop-2-preserved : goal.loop-2-preserved
loop-2-preserved c =
    let at = c.loop-2 in
    behind_more (replicate 103 (turn_of 1)) drawn_turn at.counter c.args.draws.now.number at.draws.number c.turn.new.self.number at.items c.turn.result at.invariant c.turn.ensures ∙ ap (λ (l : List Item). (l, c.turn.new.self.number)) (sym c.in_ok-push-2.ensures.ok)

pub returns : goal.returns
unfolding drawn_schedule
returns c =
    let all_turns : c.loop-2.counter ≡ 32 * c.args.count = omega (arith, c.from-end.ensures) in
    ap (λ n. behind (replicate 103 (turn_of 1)) n drawn_turn c.args.draws.now.number) (sym all_turns) ∙ c.loop-2.invariant
