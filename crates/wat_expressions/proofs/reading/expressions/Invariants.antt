use Rattle.std.proofs.Common.{◌≡◌, ◌-◌}
use Rattle.wat_grammar.specs.Phrase.{read_within}
use Rattle.wat_syntax.specs.Sql.{sql, list, expression, max_nesting}
use Rattle.wat_cursor.proofs.Lists.{listed}
use Rattle.wat_expressions.proofs.reading.expressions.Given as goal

abbrev pub invariant-items : goal.invariant-items
invariant-items l = listed l.found max_nesting expression (l._turn-end - l._turn) l.cursor ≡ read_within sql max_nesting (list expression) l.fn.cursor
