use Rattle.std.proofs.Common.{◌≡◌, arith}
use Rattle.wat_gen.specs.Numbers.{draw}
use Rattle.wat_gen.specs.Statements.{drawn_of_kind, drawn_statement}
use Rattle.wat_gen.proofs.Drawing.{gives_bind, gives_kind}
use Rattle.wat_gen.proofs.draws.Draws.statement.Goals as goal

pub returns-in-0 : goal.returns-in-0
unfolding drawn_statement
returns-in-0 c =
    gives_bind (draw 4) drawn_of_kind _ _ _ _ _ c.draw.ensures.drawn (gives_kind c.draw.result 0 _ _ _ c.in-0.is c.insert.ensures)

pub returns-in-1 : goal.returns-in-1
unfolding drawn_statement
returns-in-1 c =
    gives_bind (draw 4) drawn_of_kind _ _ _ _ _ c.draw.ensures.drawn (gives_kind c.draw.result 1 _ _ _ c.in-1.is c.update.ensures)

pub returns-in-2 : goal.returns-in-2
unfolding drawn_statement
returns-in-2 c =
    gives_bind (draw 4) drawn_of_kind _ _ _ _ _ c.draw.ensures.drawn (gives_kind c.draw.result 2 _ _ _ c.in-2.is c.delete.ensures)

pub returns-in_default : goal.returns-in_default
unfolding drawn_statement
returns-in_default c =
    let kind : c.draw.result ≡ 3 = omega arith in
    gives_bind (draw 4) drawn_of_kind _ _ _ _ _ c.draw.ensures.drawn (gives_kind c.draw.result 3 _ _ _ kind c.count.ensures)
