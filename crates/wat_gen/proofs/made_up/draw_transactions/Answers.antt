use Rattle.std.proofs.Common.{◌∙◌, sym, ap, List, ◌++◌, arith}
use Rattle.std.proofs.lemmas.List.{take_all}
use Rattle.wat_gen.specs.declared.statement.Statement.{Statement}
use Rattle.wat_gen.proofs.Counting.{transaction_size}
use Rattle.wat_gen.proofs.Drawing.{no_transactions, transactions_more}
use Rattle.wat_gen.proofs.made_up.draw_transactions.Goals as goal

pub loop-init : goal.loop-init
loop-init c =
    let x = c.args.draws.now.number in
    no_transactions x ∙ ap (λ (l : List Statement). (l, x)) (sym c.new-statements.ensures)

pub loop-preserved : goal.loop-preserved
loop-preserved c =
    let drawn = c.transaction-statement-items in
    let size = transaction_size c.loop.draws.number drawn.new.self.number drawn.result drawn.ensures in
    let whole = c.loop-statement.invariant ∙ ap (λ (l : List Statement). c.loop.statements ++ l) (take_all c.loop-statement.statement-index drawn.result (omega arith)) in
    transactions_more c.loop.counter c.args.draws.now.number c.loop.draws.number drawn.new.self.number c.loop.statements drawn.result c.loop.invariant drawn.ensures ∙ ap (λ (l : List Statement). (l, drawn.new.self.number)) (sym whole)
