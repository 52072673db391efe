use Rattle.std.proofs.Common.{◌≡◌, ◌-◌}
use Rattle.wat_grammar.specs.Phrase.{read_within}
use Rattle.wat_syntax.specs.Sql.{sql, ruled, column_rule, max_nesting}
use Rattle.wat_cursor.proofs.Turns.{folded, turns}
use Rattle.wat_statements.specs.ColumnRules.{rules_of, column_rules}
use Rattle.wat_statements.proofs.create.column_rules.Given as goal

abbrev pub invariant-rules : goal.invariant-rules
invariant-rules l = folded ruled (rules_of l.rules) (turns max_nesting column_rule (l._turn-end - l._turn) l.cursor) ≡ read_within sql max_nesting column_rules l.fn.cursor
