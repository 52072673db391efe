use Rattle.std.proofs.Common.{◌≡◌, ◌+◌, ◌-◌, true, false, [], ◌∷◌, ◌++◌, Ok, sym, ◌∙◌, ap, rules, arith}
use Rattle.wat_grammar.specs.Phrase.{sees}
use Rattle.wat_syntax.specs.declared.kind.Kind.TheVariants as k
use Rattle.wat_grammar.specs.Phrase.{read_within}
use Rattle.wat_syntax.specs.Sql.{sql, expression, max_nesting}
use Rattle.wat_cursor.specs.Reading.{rest_of}
use Rattle.wat_cursor.proofs.Lists.{listed, stops, goes_on}
use Rattle.wat_expressions.proofs.reading.expressions.Goals as goal

pub returns-then-not-sees : goal.returns-then-not-sees
returns-then-not-sees c =
    let no : sees sql (k.Comma ∷ []) c.items.cursor ≡ false = first_of (search rules, grind arith) in
    sym c.items.invariant ∙ stops max_nesting expression c.items.found c.items.cursor _ no

pub items-preserved : goal.items-preserved
items-preserved c =
    let go : sees sql (k.Comma ∷ []) c.items.cursor ≡ true = first_of (search rules, grind arith) in
    let found : c.push-in-items.new.self ≡ c.items.found ++ c.in_ok-next.next ∷ [] = first_of (search rules, grind arith) in
    let one : read_within sql max_nesting expression (rest_of c.items.cursor) ≡ Ok (c.in_ok-next.next, c.expression-in-items.new.cursor) = first_of (search rules, grind arith) in
    ap (λ front. listed front max_nesting expression (c.len-turn-end.result - (c.items._turn + 1)) c.expression-in-items.new.cursor) found
    ∙ goes_on max_nesting expression c.items.found c.items.cursor _ _ c.items-test.true go _ _ one
    ∙ c.items.invariant
