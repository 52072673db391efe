-- What spells a tree with numbers below zero gives what the tree is read as.
use Rattle.std.proofs.Common.{◌≡◌, ◌≤◌, ℕ, Bool, true, List, length, Ok, sym, ◌∙◌, subst, lit≤}
use Rattle.wat_ast.specs.declared.statement.Statement.{Statement}
use Rattle.wat_grammar.specs.Phrase.{DerivesWithin}
use Rattle.wat_lex.specs.declared.token.Token.{Token as Place}
use Rattle.wat_lex.specs.Parts.{tokens_within}
use Rattle.wat_lex.specs.Tokens.{tokens_of}
use Rattle.wat_syntax.specs.Lexeme.{Lexeme, lexemes_of}
use Rattle.wat_syntax.specs.Parsed.{parsed}
use Rattle.wat_syntax.specs.Sql as g
use Rattle.wat_syntax.specs.Sql.{sql, max_nesting}
use Rattle.wat_spell.specs.Statements.{statement_tokens, spelled_text}
use Rattle.wat_spell_laws.specs.AsRead.{statement_as_read}
use Rattle.wat_spell_laws.specs.Read.{spelled_lexemes}
use Rattle.wat_spell_laws.specs.Readable.{is_readable}
use Rattle.wat_spell_laws.proofs.Alike.{statement_alike}
use Rattle.wat_spell_laws.proofs.Parts.{IsDerived}
use Rattle.wat_spell_laws.proofs.Readable.{statement_given}
use Rattle.wat_spell_laws.proofs.Respelled.{statement_again, text_small}
use Rattle.wat_spell_laws.proofs.Tokens.{read_back}
use Rattle.wat_spell_laws.proofs.Whole.{spelled_parsed, parsed_derived}

-- what the tokens of a spelling derive, the tokens of its text do
in_text : (levels : ℕ) (z x : Statement) → IsDerived levels g.statement x (statement_tokens z) → DerivesWithin sql levels g.statement (spelled_lexemes z) x
in_text levels z x h = subst (λ (ys : List Lexeme). DerivesWithin sql levels g.statement ys x) (sym (read_back (statement_tokens z) h.1)) h.0

pub alike_derives : (levels : ℕ) (text : List ℕ) (ts : List Place) (x : Statement) → DerivesWithin sql levels g.statement (lexemes_of text ts) (statement_as_read x)
    → DerivesWithin sql levels g.statement (spelled_lexemes x) (statement_as_read x)
alike_derives levels text ts x there =
    let again = statement_again levels (lexemes_of text ts) (statement_as_read x) there (text_small text ts) in
    let alike = statement_alike x in
    in_text levels x (statement_as_read x) (
      subst (λ (ys : List Lexeme). DerivesWithin sql levels g.statement ys (statement_as_read x)) (sym alike.lexemes) again.0,
      alike.stand ∙ again.1,
    )

pub given_parsed : (text : List ℕ) (from to : ℕ) (x : Statement) → parsed text from to ≡ Ok (statement_as_read x) → parsed (spelled_text x) 0 (length (spelled_text x)) ≡ Ok (statement_as_read x)
given_parsed text from to x h = spelled_parsed x (statement_as_read x) (alike_derives max_nesting text (tokens_within text from to) x (parsed_derived text from to (statement_as_read x) h))

pub readable_parsed : (x : Statement) → is_readable x ≡ true → parsed (spelled_text x) 0 (length (spelled_text x)) ≡ Ok (statement_as_read x)
readable_parsed x t = spelled_parsed x (statement_as_read x) (in_text max_nesting x (statement_as_read x) (statement_given max_nesting (lit≤ tt) x t))
