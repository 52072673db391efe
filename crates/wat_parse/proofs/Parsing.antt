-- What is computed of a span, and what the grammar says of it.
use Rattle.std.proofs.Common.{◌≡◌, ◌-◌, ℕ, List, Result, Ok, Err, IfOk, length, drop, refl, sym, ◌∙◌, ap, subst}
use Rattle.wat_ast.specs.declared.statement.Statement.{Statement}
use Rattle.wat_lex.specs.declared.token.Token.{Token}
use Rattle.wat_syntax.specs.Lexeme.{lexemes_of}
use Rattle.wat_syntax.specs.Parsed.{reading, place_of, placed, parsed_tokens, parsed, GoesWrong}
use Rattle.wat_syntax.specs.Sql.{IsStatement}
use Rattle.wat_syntax.proofs.Placed.{tree_exact, goes_wrong}
use Rattle.wat_parse.specs.declared.parse.ParseRefusal.{ParseRefusal}
use Rattle.wat_parse.specs.declared.parse.ParseRefusal.TheVariants.{Syntax, Memory}
use Rattle.wat_parse.specs.declared.script.Span.{Span}
use Rattle.wat_parse.specs.Parsing.{tokens_at, lexemes_at, parsed_at, IsTree, Gives}
use Rattle.wat_parse.specs.Statements.{place_behind}

pub tree_given : (text : List ℕ) (ts : List Token) (end : ℕ) (tree : Statement) → reading (lexemes_of text ts) ≡ Ok tree → parsed_tokens text ts end ≡ Ok tree
unfolding parsed_tokens
tree_given text ts end tree e = ap (placed ts end) e

pub place_given : (text : List ℕ) (ts : List Token) (end at : ℕ) (rest : List _) → reading (lexemes_of text ts) ≡ Err rest
    → at ≡ place_of end (drop (length ts - length rest) ts) → parsed_tokens text ts end ≡ Err at
unfolding parsed_tokens
place_given text ts end at rest e p = ap (placed ts end) e ∙ ap Err (sym p)

pub at_span : (text : List ℕ) (span : Span) → parsed_at text span ≡ parsed_tokens text (tokens_at text span) (place_behind text span)
unfolding parsed
at_span text span = refl

pub given_at : (text : List ℕ) (span : Span) (ts : List Token) (end : ℕ) (r : Result Statement ParseRefusal) → ts ≡ tokens_at text span → end ≡ place_behind text span
    → Gives (parsed_tokens text ts end) r → Gives (parsed_at text span) r
given_at text span ts end r e f h =
    let same : parsed_tokens text ts end ≡ parsed_at text span =
    ap (λ (us : List Token). parsed_tokens text us end) e ∙ ap (parsed_tokens text (tokens_at text span)) f ∙ sym (at_span text span) in
    subst (λ (o : Result Statement ℕ). Gives o r) same h

-- ---- the clauses, from what was computed

pub found_from : (text : List ℕ) (span : Span) (r : Result Statement ParseRefusal) → Gives (parsed_at text span) r → IfOk r (λ tree. IsStatement (lexemes_at text span) tree)
found_from text span (Ok tree) h = (tree_exact text (tokens_at text span) (place_behind text span) tree).0 (sym (at_span text span) ∙ h)
found_from text span (Err e) h = tt

tree_from : (tree : Statement) (o : Result Statement ℕ) (r : Result Statement ParseRefusal) → o ≡ Ok tree → Gives o r → IsTree tree r
tree_from tree o (Ok other) e h = let both : Ok other ≡ Ok tree = sym h ∙ e in cc
tree_from tree o (Err (Syntax at)) e h = let both : Err at ≡ Ok tree = sym h ∙ e in absurd (cc)
tree_from tree o (Err Memory) e h = refl

pub only_from : (text : List ℕ) (span : Span) (r : Result Statement ParseRefusal) → Gives (parsed_at text span) r → (tree : Statement) → IsStatement (lexemes_at text span) tree → IsTree tree r
only_from text span r h tree d = tree_from tree (parsed_at text span) r (at_span text span ∙ (tree_exact text (tokens_at text span) (place_behind text span) tree).1 d) h

pub place_from : (text : List ℕ) (span : Span) (r : Result Statement ParseRefusal) → Gives (parsed_at text span) r → (at : ℕ) → r ≡ Err (Syntax at)
    → GoesWrong text (tokens_at text span) (place_behind text span) at
place_from text span (Ok tree) h at e = absurd (cc)
place_from text span (Err (Syntax place)) h at e =
    let same : place ≡ at = cc in
    goes_wrong text (tokens_at text span) (place_behind text span) at (sym (at_span text span) ∙ h ∙ ap Err same)
place_from text span (Err Memory) h at e = absurd (cc)
