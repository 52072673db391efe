use Rattle.std.proofs.Common.{◌≡◌, ◌-◌}
use Rattle.wat_grammar.specs.Phrase.{read_within}
use Rattle.wat_syntax.specs.Sql.{sql, expression, expression_operator, conjunction}
use Rattle.wat_cursor.proofs.Chains.{grouped}
use Rattle.wat_expressions.proofs.reader.Reader.expression.Given as goal

abbrev pub invariant-operations : goal.invariant-operations
invariant-operations g l = grouped l.left l.self.levels expression_operator conjunction (l._turn-end - l._turn) l.cursor ≡ read_within sql l.self.levels expression l.fn.cursor
