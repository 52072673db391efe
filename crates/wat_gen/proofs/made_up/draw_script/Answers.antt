use Rattle.wat_gen.proofs.Drawing.{script_from}
use Rattle.wat_gen.proofs.made_up.draw_script.Goals as goal

pub returns : goal.returns
returns c =
    script_from c.args.count c.args.script c.args.draws.now.number c.draw_transactions.new.draws.number c.new-statements.result c.push_opening.new.statements c.append.new.self c.in_ok-draw_transactions.field-0 c.new-statements.ensures c.in_ok-push_opening.ensures c.in_ok-draw_transactions.ensures c.in_ok-append.ensures
