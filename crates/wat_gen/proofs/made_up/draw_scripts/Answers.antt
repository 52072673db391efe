use Rattle.std.proofs.Common.{◌≡◌, ◌∙◌, sym, ap, ◌+◌, ◌-◌, map, arith}
use Rattle.std.specs.List.{range_with_len}
use Rattle.wat_gen.specs.Numbers.{for_each}
use Rattle.wat_gen.specs.Session.{drawn_script, drawn_scripts, script_text}
use Rattle.wat_gen.proofs.Drawing.{scripts_more, the_same}
use Rattle.wat_gen.proofs.made_up.draw_scripts.Goals as goal

pub loop-script-preserved : goal.loop-script-preserved
loop-script-preserved c =
    let at = c.loop-script in
    let count = c.args.count in
    let x = c.args.draws.now.number in
    let z = c.draw_script.new.draws.number in
    let text = c.in_ok-script_of.field-0 in
    let next : at.script ≡ 1 + (at.script - 1) = omega arith in
    let after : (at.script - 1) + 1 ≡ at.script + 1 - 1 = omega arith in
    let written = c.in_ok-script_of.ensures ∙ ap script_text c.as_slice.ensures in
    let more = scripts_more count (at.script - 1) at.script x at.draws.number z at.scripts text c.in_ok-statements.statements next at.invariant c.in_ok-statements.ensures written in
    the_same count _ _ x z _ c.push.new.self after (sym c.in_ok-push.ensures.ok) more

pub returns-clause-number : goal.returns-clause-number
unfolding drawn_scripts
returns-clause-number c =
    let all : c.loop-script.script - 1 ≡ 8 = omega arith in
    c.loop-script.invariant.number ∙ ap (λ n. (for_each (range_with_len 1 n) (drawn_script c.args.count) c.args.draws.now.number).1) all

pub returns-clause-scripts : goal.returns-clause-scripts
unfolding drawn_scripts
returns-clause-scripts c =
    let all : c.loop-script.script - 1 ≡ 8 = omega arith in
    c.loop-script.invariant.texts_are ∙ ap (λ n. map script_text (for_each (range_with_len 1 n) (drawn_script c.args.count) c.args.draws.now.number).0) all
