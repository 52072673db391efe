use Rattle.std.proofs.Common.{◌≡◌, ◌-◌}
use Rattle.wat_grammar.specs.Phrase.{read_within}
use Rattle.wat_syntax.specs.Sql.{sql, sum, sum_operator, term}
use Rattle.wat_cursor.proofs.Chains.{grouped}
use Rattle.wat_expressions.proofs.reader.Reader.sum.Given as goal

abbrev pub invariant-operations : goal.invariant-operations
invariant-operations g l = grouped l.left l.self.levels sum_operator term (l._turn-end - l._turn) l.cursor ≡ read_within sql l.self.levels sum l.fn.cursor
