use Rattle.std.proofs.Common.{◌≡◌, ◌≢◌, ◌+◌, ◌-◌, true, false, [], ◌∷◌, Err, sym, ◌∙◌, ap, rules, arith}
use Rattle.std.proofs.lemmas.Grind.{common_steps}
use Rattle.wat_grammar.specs.Phrase.{sees, read_within}
use Rattle.wat_syntax.specs.declared.kind.Kind.TheVariants as k
use Rattle.wat_syntax.specs.Sql.{sql, ColumnRules, ruled, column_rule, max_nesting}
use Rattle.wat_cursor.specs.declared.fault.Fault.TheVariants.{Memory}
use Rattle.wat_cursor.proofs.Turns.{folded, turns, stops, fails, goes_on}
use Rattle.wat_statements.specs.ColumnRules.{change_of, rules_of, column_rules}
use Rattle.wat_statements.proofs.Firsts.{first_rule}
use Rattle.wat_statements.proofs.create.column_rules.Goals as goal

pub returns-then-not-sees_any : goal.returns-then-not-sees_any
returns-then-not-sees_any c =
    let none : sees sql (k.Not ∷ k.Null ∷ k.Primary ∷ []) c.rules.cursor ≡ false = first_of (search rules, grind arith) in
    sym c.rules.invariant ∙ stops ruled max_nesting column_rule _ first_rule (rules_of c.rules.rules) c.rules.cursor _ none

pub returns-in_err-rule : goal.returns-in_err-rule
returns-in_err-rule c =
    let go : sees sql (k.Not ∷ k.Null ∷ k.Primary ∷ []) c.rules.cursor ≡ true = first_of (search rules, grind arith) in
    let e : c.in_err-rule.field-0.0 ≢ Memory → read_within sql max_nesting column_rules c.args.cursor.now ≡ Err c.column_rule.new.cursor =
    λ h. sym c.rules.invariant ∙ fails ruled max_nesting column_rule _ first_rule (rules_of c.rules.rules) c.rules.cursor _ _ c.rules-test.true go _ (c.in_err-rule.ensures h) in
    first_of (search rules, grind (arith, common_steps))

pub rules-preserved : goal.rules-preserved
rules-preserved c =
    let go : sees sql (k.Not ∷ k.Null ∷ k.Primary ∷ []) c.rules.cursor ≡ true = first_of (search rules, grind arith) in
    ap (λ (r : ColumnRules). folded ruled r (turns max_nesting column_rule (c.len-turn-end.result - (c.rules._turn + 1)) c.column_rule.new.cursor)) c.and-rules.ensures
    ∙ goes_on ruled max_nesting column_rule _ first_rule (rules_of c.rules.rules) c.rules.cursor _ _ c.rules-test.true go (change_of c.in_ok-rule.rule) _ c.in_ok-rule.ensures
    ∙ c.rules.invariant
