use Rattle.std.proofs.Common.{◌≡◌, ◌-◌}
use Rattle.wat_grammar.specs.Phrase.{nested, read_within}
use Rattle.wat_syntax.specs.declared.nest.Nest.TheVariants.{Whole}
use Rattle.wat_syntax.specs.Sql.{sql, list}
use Rattle.wat_cursor.proofs.Lists.{listed}
use Rattle.wat_expressions.proofs.reader.Reader.inner_list.Given as goal

abbrev pub invariant-items : goal.invariant-items
invariant-items g l = listed l.found l.self.levels (nested Whole) (l._turn-end - l._turn) l.cursor ≡ read_within sql l.self.levels (list (nested Whole)) l.fn.cursor
