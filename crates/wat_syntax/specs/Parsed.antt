-- The statement that a part of a text is.
use Rattle.std.specs.Prelude.{◌≡◌, ℕ, ◌-◌, List, [], ◌∷◌, ◌++◌, length, drop, Result, Ok, Err}
use Rattle.wat_ast.specs.declared.statement.Statement.{Statement}
use Rattle.wat_lex.specs.declared.token.Token.{Token}
use Rattle.wat_lex.specs.Parts.{tokens_within, next_from}
use Rattle.wat_lex.specs.Tokens.{tokens_of}
use Rattle.wat_grammar.specs.Phrase.{read_within, whole, IsPrefix, IsNoMore}
use Rattle.wat_syntax.specs.Lexeme.{Lexeme, lexemes_of}
use Rattle.wat_syntax.specs.Sql.{sql, max_nesting, statement}

-- where the first of these tokens begins, or `end` where there is none
abbrev pub place_of : ℕ → List Token → ℕ
place_of end [] = end
place_of end (t ∷ ts) = t.from

-- Tokens of a text are read whole, or up to the first that does not fit: of that many tokens `rest` are left.
unfoldable pub reading : List Lexeme → Result Statement (List Lexeme)
reading ts = whole (read_within sql max_nesting statement ts)

abbrev pub placed : List Token → ℕ → Result Statement (List Lexeme) → Result Statement ℕ
placed ts end (Ok tree) = Ok tree
placed ts end (Err rest) = Err (place_of end (drop (length ts - length rest) ts))

-- The tree of these tokens of a text where they are a statement. Else the place where they go wrong, which is `end`
-- where they are the beginning of one.
unfoldable pub parsed_tokens : List ℕ → List Token → ℕ → Result Statement ℕ
parsed_tokens text ts end = placed ts end (reading (lexemes_of text ts))

-- Tokens of a text go wrong at a place: those before it are the beginning of a statement, and with the next they are
-- the beginning of none, or they end there and are none.
pub record GoesWrong (text : List ℕ) (ts : List Token) (end place : ℕ) : Type 0 where
  pub front : List Token
  pub rest : List Token
  pub parts : ts ≡ front ++ rest
  pub begins : IsPrefix sql max_nesting statement (lexemes_of text front)
  pub fails : IsNoMore sql max_nesting statement (lexemes_of text front) (lexemes_of text rest)
  pub at : place ≡ place_of end rest

-- The statement that a text has between two places, or where it goes wrong: where it ends too early, at the token
-- behind it or at the end of the text.
unfoldable pub parsed : List ℕ → ℕ → ℕ → Result Statement ℕ
parsed text from to = parsed_tokens text (tokens_within text from to) (next_from to (length text) (tokens_of text))
