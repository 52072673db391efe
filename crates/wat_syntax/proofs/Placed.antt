-- What reading the tokens of a statement says of the grammar, and of places.
use Rattle.std.proofs.Common.{◌≡◌, ◌↔◌, ℕ, ◌+◌, ◌-◌, List, [], ◌∷◌, ◌++◌, map, length, drop, Result, Ok, Err, refl, sym, ◌∙◌, ap, subst, length-append, arith}
use Rattle.std.proofs.lemmas.List.{length-map}
use Rattle.wat_ast.specs.declared.statement.Statement.{Statement}
use Rattle.wat_lex.specs.declared.token.Token.{Token}
use Rattle.wat_grammar.specs.Phrase.{IsPrefix, IsNoMore, FailsAt}
use Rattle.wat_grammar.proofs.Exact.{derived, found, unambiguous, fails}
use Rattle.wat_syntax.specs.Lexeme.{Lexeme, lexemes_of, lexeme_of}
use Rattle.wat_syntax.specs.Parsed.{place_of, reading, placed, parsed_tokens, GoesWrong}
use Rattle.wat_syntax.specs.Sql.{sql, max_nesting, statement, IsStatement}
use Rattle.wat_syntax.proofs.Examples.{example}
use Rattle.wat_syntax.proofs.Rules.{sql_predictive, statement_predictive, statement_alive}

pub is_statement : (ts : List Lexeme) (tree : Statement) → reading ts ≡ Ok tree → IsStatement ts tree
unfolding reading
is_statement = derived sql example sql_predictive max_nesting statement statement_predictive statement_alive

pub reads_statement : (ts : List Lexeme) (tree : Statement) → IsStatement ts tree → reading ts ≡ Ok tree
unfolding reading
reads_statement = found sql example sql_predictive max_nesting statement statement_predictive statement_alive

pub one_tree : (ts : List Lexeme) (tree other : Statement) → IsStatement ts tree → IsStatement ts other → tree ≡ other
one_tree = unambiguous sql example sql_predictive max_nesting statement statement_predictive statement_alive

pub fails_at : (ts rest : List Lexeme) → reading ts ≡ Err rest → FailsAt sql max_nesting statement ts rest
unfolding reading
fails_at = fails sql example sql_predictive max_nesting statement statement_predictive statement_alive

-- a list whose image is cut in two
record Parts {A B : Type 0} (f : A → B) (xs : List A) (us vs : List B) : Type 0 where
  front : List A
  rest : List A
  parts : xs ≡ front ++ rest
  front_is : map f front ≡ us
  rest_is : map f rest ≡ vs
  dropped : drop (length us) xs ≡ rest

parts_of : {A B : Type 0} (f : A → B) (xs : List A) (us vs : List B) → map f xs ≡ us ++ vs → Parts f xs us vs
parts_of {A} {B} f xs [] vs e = record { front = []; rest = xs; parts = refl; front_is = refl; rest_is = e; dropped = refl }
parts_of {A} {B} f [] (u ∷ us) vs e = cc
parts_of {A} {B} f (x ∷ xs) (u ∷ us) vs e =
    let first : f x ≡ u = cc in
    let more : map f xs ≡ us ++ vs = cc in
    let p = parts_of f xs us vs more in
    record {
      front = x ∷ p.front;
      rest = p.rest;
      parts = ap (λ (l : List A). x ∷ l) p.parts;
      front_is = ap (λ (y : B). y ∷ map f p.front) first ∙ ap (λ (l : List B). u ∷ l) p.front_is;
      rest_is = p.rest_is;
      dropped = p.dropped;
    }

pub tree_is : (text : List ℕ) (ts : List Token) (end : ℕ) (tree : Statement) (o : Result Statement (List Lexeme)) → placed ts end o ≡ Ok tree → o ≡ Ok tree
tree_is text ts end tree (Ok other) e = let same : other ≡ tree = cc in ap Ok same
tree_is text ts end tree (Err rest) e = cc

pub tree_exact : (text : List ℕ) (ts : List Token) (end : ℕ) (tree : Statement) → (parsed_tokens text ts end ≡ Ok tree) ↔ IsStatement (lexemes_of text ts) tree
unfolding parsed_tokens
tree_exact text ts end tree =
    (λ e. is_statement (lexemes_of text ts) tree (tree_is text ts end tree (reading (lexemes_of text ts)) e), λ d. ap (placed ts end) (reads_statement (lexemes_of text ts) tree d))

fault_at : (text : List ℕ) (ts : List Token) (end place : ℕ) (o : Result Statement (List Lexeme)) → reading (lexemes_of text ts) ≡ o → placed ts end o ≡ Err place → GoesWrong text ts end place
fault_at text ts end place (Ok tree) r e = cc
fault_at text ts end place (Err rest) r e =
    let f = fails_at (lexemes_of text ts) rest r in
    let p = parts_of (lexeme_of text) ts f.0 rest f.1 in
    let place_is : place_of end (drop (length ts - length rest) ts) ≡ place = cc in
    let same : length (lexemes_of text ts) ≡ length ts = length-map ts (lexeme_of text) in
    let sum : length (lexemes_of text ts) ≡ length f.0 + length rest = ap length f.1 ∙ length-append f.0 rest in
    let lengths : length ts - length rest ≡ length f.0 = omega arith in
    record {
      front = p.front;
      rest = p.rest;
      parts = p.parts;
      begins = subst (IsPrefix sql max_nesting statement) (sym p.front_is) f.2;
      fails = subst (λ (us : List Lexeme). IsNoMore sql max_nesting statement us (lexemes_of text p.rest)) (sym p.front_is)
          (subst (IsNoMore sql max_nesting statement f.0) (sym p.rest_is) f.3);
      at = sym place_is ∙ ap (λ (n : ℕ). place_of end (drop n ts)) lengths ∙ ap (place_of end) p.dropped;
    }

pub goes_wrong : (text : List ℕ) (ts : List Token) (end place : ℕ) → parsed_tokens text ts end ≡ Err place → GoesWrong text ts end place
unfolding parsed_tokens
goes_wrong text ts end place e = fault_at text ts end place (reading (lexemes_of text ts)) refl e
