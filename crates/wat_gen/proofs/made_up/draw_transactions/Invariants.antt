use Rattle.std.proofs.Common.{◌≡◌, ◌++◌, take}
use Rattle.wat_gen.specs.Numbers.{Gives}
use Rattle.wat_gen.specs.Statements.{drawn_transactions}
use Rattle.wat_gen.proofs.made_up.draw_transactions.Given as goal

abbrev pub invariant-loop-statement : goal.invariant-loop-statement
invariant-loop-statement l =
    l.statements ≡ l.initial.statements ++ take l.statement-index l.statement-items

abbrev pub invariant-loop : goal.invariant-loop
invariant-loop l =
    Gives (drawn_transactions l.counter) l.fn.draws.number l.statements l.draws.number
