use Rattle.std.proofs.Common.{◌≡◌, ◌≢◌, ◌+◌, ◌-◌, true, false, [], ◌∷◌, Err, sym, ◌∙◌, ap, rules, arith}
use Rattle.std.proofs.lemmas.Grind.{common_steps}
use Rattle.wat_grammar.specs.Phrase.{sees, read_within}
use Rattle.wat_syntax.specs.declared.kind.Kind.TheVariants as k
use Rattle.wat_syntax.specs.Sql.{sql, conjunction, conjunction_operator, negation}
use Rattle.wat_cursor.specs.declared.fault.Fault.TheVariants.{Memory}
use Rattle.wat_cursor.proofs.Chains.{grouped, stops, no_operator, no_operand, goes_on}
use Rattle.wat_expressions.proofs.Firsts.{first_conjunction}
use Rattle.wat_expressions.proofs.reader.Reader.conjunction.Goals as goal

pub returns-then-not-sees_any : goal.returns-then-not-sees_any
returns-then-not-sees_any g c =
    let no : sees sql (k.And ∷ []) c.operations.cursor ≡ false = first_of (search rules, grind arith) in
    sym c.operations.invariant ∙ stops c.args.self.now.levels conjunction_operator negation _ first_conjunction c.operations.left c.operations.cursor _ no

pub returns-in_err-op : goal.returns-in_err-op
returns-in_err-op g c =
    let go : sees sql (k.And ∷ []) c.operations.cursor ≡ true = first_of (search rules, grind arith) in
    let e : c.in_err-op.field-0.0 ≢ Memory → read_within sql c.args.self.now.levels conjunction c.args.cursor.now ≡ Err c.conjunction_operator.new.cursor =
    λ h. sym c.operations.invariant ∙ no_operator c.args.self.now.levels conjunction_operator negation _ first_conjunction c.operations.left c.operations.cursor _ _ c.operations-test.true go _ (c.in_err-op.ensures c.args.self.now.levels h) in
    first_of (search rules, grind (arith, common_steps))

pub returns-in_err-right : goal.returns-in_err-right
returns-in_err-right g c =
    let go : sees sql (k.And ∷ []) c.operations.cursor ≡ true = first_of (search rules, grind arith) in
    let e : c.in_err-right.field-0.0 ≢ Memory → read_within sql c.args.self.now.levels conjunction c.args.cursor.now ≡ Err c.negation-in-operations.new.cursor =
    λ h. sym c.operations.invariant ∙ no_operand c.args.self.now.levels conjunction_operator negation _ first_conjunction c.operations.left c.operations.cursor _ _ c.operations-test.true go _ _
    (c.in_ok-op.ensures c.args.self.now.levels) _ (c.in_err-right.ensures h) in
    first_of (search rules, grind (arith, common_steps))

pub operations-preserved : goal.operations-preserved
operations-preserved g c =
    let go : sees sql (k.And ∷ []) c.operations.cursor ≡ true = first_of (search rules, grind arith) in
    ap (λ e. grouped e c.args.self.now.levels conjunction_operator negation (c.len-turn-end.result - (c.operations._turn + 1)) c.negation-in-operations.new.cursor) c.in_ok-left-2.ensures
    ∙ goes_on c.args.self.now.levels conjunction_operator negation _ first_conjunction c.operations.left c.operations.cursor _ _ c.operations-test.true go _ _ (c.in_ok-op.ensures c.args.self.now.levels) _ _ c.in_ok-right.ensures
    ∙ c.operations.invariant
