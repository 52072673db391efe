-- The rules of a column, as they are read.
use Rattle.std.specs.Prelude.{◌≡◌, ◌≢◌, List, fold, Result, Ok, Err}
use Rattle.wat_grammar.specs.Phrase.{Outcome, many, map}
use Rattle.wat_syntax.specs.Lexeme.{Lexeme}
use Rattle.wat_syntax.specs.Sql.{Sql, ColumnRules, not_null, null, primary_key, no_rules, ruled, column_rule}
use Rattle.wat_cursor.specs.declared.fault.Fault.{Fault}
use Rattle.wat_cursor.specs.declared.fault.Fault.TheVariants.{Memory}
use Rattle.wat_statements.specs.declared.create.Rule.{Rule}
use Rattle.wat_statements.specs.declared.create.Rule.TheVariants.{NotNull, Null, PrimaryKey}
use Rattle.wat_statements.specs.declared.create.Rules.{Rules}

-- what a rule makes of the rules before it
abbrev pub change_of : Rule → ColumnRules → ColumnRules
change_of NotNull = not_null
change_of Null = null
change_of PrimaryKey = primary_key

abbrev pub rules_of : Rules → ColumnRules
rules_of r = record { nullable = r.nullable; key = r.key }

-- the rules of a column, one after the other
abbrev pub column_rules : Sql ColumnRules
column_rules = map (fold ruled no_rules) (many column_rule)

-- The outcome, where a value stands for what is read, unless memory ran out.
abbrev pub ReadsAs : {A B : Type 0} → (A → B) → Outcome Lexeme B → Result A Fault → List Lexeme → Type 0
ReadsAs f outcome (Ok a) new = outcome ≡ Ok (f a, new)
ReadsAs f outcome (Err e) new = e ≢ Memory → outcome ≡ Err new
