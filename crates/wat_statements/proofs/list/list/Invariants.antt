use Rattle.std.proofs.Common.{◌≡◌, ◌-◌}
use Rattle.wat_grammar.specs.Phrase.{read_within}
use Rattle.wat_syntax.specs.Sql.{sql, list, max_nesting}
use Rattle.wat_cursor.proofs.Lists.{listed}
use Rattle.wat_statements.proofs.list.list.Given as goal

abbrev pub invariant-items : goal.invariant-items
invariant-items g l = listed l.found max_nesting g.P.Part.rule (l._turn-end - l._turn) l.cursor ≡ read_within sql max_nesting (list g.P.Part.rule) l.fn.cursor
