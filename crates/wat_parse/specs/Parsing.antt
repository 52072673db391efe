-- The statement that a span of a script is.
use Rattle.std.specs.Prelude.{◌≡◌, ℕ, List, Result, Ok, Err}
use Rattle.wat_ast.specs.declared.statement.Statement.{Statement}
use Rattle.wat_lex.specs.declared.token.Token.{Token}
use Rattle.wat_lex.specs.Parts.{tokens_within}
use Rattle.wat_syntax.specs.Lexeme.{Lexeme, lexemes_of}
use Rattle.wat_syntax.specs.Parsed.{parsed}
use Rattle.wat_parse.specs.declared.parse.ParseRefusal.{ParseRefusal}
use Rattle.wat_parse.specs.declared.parse.ParseRefusal.TheVariants.{Syntax, Memory}
use Rattle.wat_parse.specs.declared.script.Span.{Span}

-- the tokens of a script at a span
abbrev pub tokens_at : List ℕ → Span → List Token
tokens_at text span = tokens_within text span.from span.to

-- the same, as the grammar sees them
abbrev pub lexemes_at : List ℕ → Span → List Lexeme
lexemes_at text span = lexemes_of text (tokens_at text span)

-- the tree at a span, or where its tokens go wrong
abbrev pub parsed_at : List ℕ → Span → Result Statement ℕ
parsed_at text span = parsed text span.from span.to

-- the tree, unless memory ran out
abbrev pub IsTree : Statement → Result Statement ParseRefusal → Type 0
IsTree tree (Ok t) = t ≡ tree
IsTree tree (Err e) = e ≡ Memory

-- what was computed, unless memory ran out
abbrev pub Gives : Result Statement ℕ → Result Statement ParseRefusal → Type 0
Gives outcome (Ok tree) = outcome ≡ Ok tree
Gives outcome (Err (Syntax at)) = outcome ≡ Err at
Gives outcome (Err Memory) = Unit {0}
