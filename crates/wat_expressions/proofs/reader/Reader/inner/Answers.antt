use Rattle.std.proofs.Common.{subst}
use Rattle.wat_ast.specs.declared.expression.Expr.{Expr}
use Rattle.wat_grammar.specs.Phrase.{Outcome}
use Rattle.wat_syntax.specs.Lexeme.{Lexeme}
use Rattle.wat_cursor.specs.Reading.{Reads}
use Rattle.wat_expressions.proofs.Levels.{inside_is}
use Rattle.wat_expressions.proofs.reader.Reader.inner.Goals as goal

pub returns : goal.returns
returns g c = subst (λ (o : Outcome Lexeme Expr). Reads o c.nested.result c.nested.new.arg3) (inside_is c.args.self.now.levels c.args.nest c.args.cursor.now c.requires.open)
    (c.requires.nests.reads _ _ _ _ _ c.nested.ensures)
