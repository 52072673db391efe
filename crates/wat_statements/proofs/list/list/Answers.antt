use Rattle.std.proofs.Common.{◌≡◌, ◌≢◌, ℕ, ◌+◌, ◌-◌, true, false, [], ◌∷◌, ◌++◌, length, Ok, Err, sym, ◌∙◌, ap, rules, arith}
use Rattle.std.proofs.lemmas.Grind.{common_steps}
use Rattle.wat_grammar.specs.Phrase.{sees, read_within}
use Rattle.wat_syntax.specs.declared.kind.Kind.TheVariants as k
use Rattle.wat_syntax.specs.Sql.{sql, list, max_nesting}
use Rattle.wat_cursor.specs.Reading.{rest_of}
use Rattle.wat_cursor.specs.declared.fault.Fault.TheVariants.{Memory}
use Rattle.wat_cursor.proofs.Lists.{listed, begins, stops, no_item, goes_on}
use Rattle.wat_statements.proofs.list.list.Goals as goal

pub items-init : goal.items-init
items-init g c =
    let found : c.push.new.self ≡ c.in_ok-first.first ∷ [] = first_of (search rules, grind arith) in
    let one : read_within sql max_nesting g.P.Part.rule c.args.cursor.now ≡ Ok (c.in_ok-first.first, c.read.new.cursor) = first_of (search rules, grind arith) in
    let turns : c.len-turn-end.result - 0 ≡ length c.read.new.cursor = omega arith in
    ap (λ front. listed front max_nesting g.P.Part.rule (c.len-turn-end.result - 0) c.read.new.cursor) found
    ∙ ap (λ (n : ℕ). listed (c.in_ok-first.first ∷ []) max_nesting g.P.Part.rule n c.read.new.cursor) turns
    ∙ begins max_nesting g.P.Part.rule c.in_ok-first.first c.read.new.cursor c.args.cursor.now one

pub returns-then-not-sees : goal.returns-then-not-sees
returns-then-not-sees g c =
    let none : sees sql (k.Comma ∷ []) c.items.cursor ≡ false = first_of (search rules, grind arith) in
    sym c.items.invariant ∙ stops max_nesting g.P.Part.rule c.items.found c.items.cursor _ none

pub returns-in_err-next : goal.returns-in_err-next
returns-in_err-next g c =
    let go : sees sql (k.Comma ∷ []) c.items.cursor ≡ true = first_of (search rules, grind arith) in
    let e : c.in_err-next.field-0.0 ≢ Memory → read_within sql max_nesting (list g.P.Part.rule) c.args.cursor.now ≡ Err c.read-in-items.new.cursor =
    λ h. sym c.items.invariant ∙ no_item max_nesting g.P.Part.rule c.items.found c.items.cursor _ _ c.items-test.true go _
    (ap (λ ts. read_within sql max_nesting g.P.Part.rule ts) (sym c.advance.ensures) ∙ c.in_err-next.ensures h) in
    first_of (search rules, grind (arith, common_steps))

pub items-preserved : goal.items-preserved
items-preserved g c =
    let go : sees sql (k.Comma ∷ []) c.items.cursor ≡ true = first_of (search rules, grind arith) in
    let found : c.push-in-items.new.self ≡ c.items.found ++ c.in_ok-next.next ∷ [] = first_of (search rules, grind arith) in
    let one : read_within sql max_nesting g.P.Part.rule (rest_of c.items.cursor) ≡ Ok (c.in_ok-next.next, c.read-in-items.new.cursor) = first_of (search rules, grind arith) in
    ap (λ front. listed front max_nesting g.P.Part.rule (c.len-turn-end.result - (c.items._turn + 1)) c.read-in-items.new.cursor) found
    ∙ goes_on max_nesting g.P.Part.rule c.items.found c.items.cursor _ _ c.items-test.true go _ _ one
    ∙ c.items.invariant
