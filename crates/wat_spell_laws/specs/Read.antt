-- The tokens of a spelled text.
use Rattle.std.specs.Prelude.{◌≡◌, ◌^◌, Bool, true, nat_lt, List}
use Rattle.std.specs.List.{list_all}
use Rattle.wat_word.specs.Words.{is_name}
use Rattle.wat_ast.specs.declared.statement.Statement.{Statement}
use Rattle.wat_lex.specs.Tokens.{tokens_of}
use Rattle.wat_syntax.specs.Lexeme.{Lexeme, lexemes_of}
use Rattle.wat_spell.specs.Tokens.{Token, word, name, number, negative, quoted, symbol, written}
use Rattle.wat_spell.specs.Statements.{spelled_text}
use Rattle.wat_spell_laws.specs.Derived.{token_lexemes}

-- whether a text may have the token: a name is one, and the digits of a number are at most 2 ^ 63 - 1
abbrev pub can_stand : Token → Bool
can_stand (word w) = true
can_stand (name n) = is_name n
can_stand (number n) = nat_lt n (2 ^ 63)
can_stand (negative n) = nat_lt n (2 ^ 63)
can_stand (quoted t) = true
can_stand (symbol x) = true

-- The tokens of the text that they are written as are these.
abbrev pub IsReadBack : List Token → Type 0
IsReadBack ts = list_all can_stand ts ≡ true → lexemes_of (written ts) (tokens_of (written ts)) ≡ token_lexemes ts

-- the tokens of the text that spells a statement, as the grammar sees them
abbrev pub spelled_lexemes : Statement → List Lexeme
spelled_lexemes x = lexemes_of (spelled_text x) (tokens_of (spelled_text x))
