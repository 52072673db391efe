-- Tokens as the grammar sees them.
use Rattle.std.specs.Prelude.{◌≡◌, ℕ, Bool, if◌then◌else◌, ◌==◌, List, [], ◌∷◌, map, slice_index, Option, Some, None, IsUtf8}
use denote.Enum.Bare.{sameb}
use Rattle.wat_word.specs.declared.keyword.Keyword.{Keyword}
use Rattle.wat_word.specs.declared.keyword.Keyword.TheVariants as w
use Rattle.wat_word.specs.Words.{keyword}
use Rattle.wat_lex.specs.declared.token.TokenKind.{TokenKind}
use Rattle.wat_lex.specs.declared.token.TokenKind.TheVariants.{Word, Number, Quoted, Symbol, Bad}
use Rattle.wat_lex.specs.declared.token.Token.{Token}
use Rattle.wat_lex.specs.Tokens.{tokens_of}
use Rattle.wat_lex.specs.Values.{token_bytes, lower_case, number_value, string_text}
use Rattle.wat_syntax.specs.contracts.kind.Kind.{the_type}
use Rattle.wat_syntax.specs.declared.kind.Kind.{Kind}
use Rattle.wat_syntax.specs.declared.kind.Kind.TheVariants as k

-- A token's kind, and the value that it gives. Its place takes no part in the grammar.
pub record Lexeme : Type 0 where
  pub kind : Kind
  -- a name in lower case, or the characters of a string
  pub text : List ℕ
  -- the value of a number
  pub number : Option ℕ

abbrev pub same_kind : Kind → Kind → Bool
same_kind = sameb the_type

-- the kind of a reserved word
abbrev pub kind_of_word : Keyword → Kind
kind_of_word w.And = k.And
kind_of_word w.As = k.As
kind_of_word w.Asc = k.Asc
kind_of_word w.Between = k.Between
kind_of_word w.Blocking = k.Blocking
kind_of_word w.By = k.By
kind_of_word w.Char = k.Char
kind_of_word w.Checkpoint = k.Checkpoint
kind_of_word w.Commit = k.Commit
kind_of_word w.Count = k.Count
kind_of_word w.Create = k.Create
kind_of_word w.Delete = k.Delete
kind_of_word w.Desc = k.Desc
kind_of_word w.Distinct = k.Distinct
kind_of_word w.Drop = k.Drop
kind_of_word w.Foreign = k.Foreign
kind_of_word w.From = k.From
kind_of_word w.Group = k.Group
kind_of_word w.Having = k.Having
kind_of_word w.In = k.In
kind_of_word w.Index = k.Index
kind_of_word w.Insert = k.Insert
kind_of_word w.Int = k.Int
kind_of_word w.Integer = k.Integer
kind_of_word w.Into = k.Into
kind_of_word w.Is = k.Is
kind_of_word w.IsolationLevel = k.IsolationLevel
kind_of_word w.Key = k.Key
kind_of_word w.Max = k.Max
kind_of_word w.Min = k.Min
kind_of_word w.Not = k.Not
kind_of_word w.Null = k.Null
kind_of_word w.Numeric = k.Numeric
kind_of_word w.Off = k.Off
kind_of_word w.On = k.On
kind_of_word w.Option = k.Option
kind_of_word w.Or = k.Or
kind_of_word w.Order = k.Order
kind_of_word w.Primary = k.Primary
kind_of_word w.References = k.References
kind_of_word w.Release = k.Release
kind_of_word w.Restrict = k.Restrict
kind_of_word w.Rollback = k.Rollback
kind_of_word w.Savepoint = k.Savepoint
kind_of_word w.Select = k.Select
kind_of_word w.Set = k.Set
kind_of_word w.Sum = k.Sum
kind_of_word w.Table = k.Table
kind_of_word w.Temporary = k.Temporary
kind_of_word w.To = k.To
kind_of_word w.Update = k.Update
kind_of_word w.Values = k.Values
kind_of_word w.Varchar = k.Varchar
kind_of_word w.Where = k.Where
kind_of_word w.Work = k.Work

-- the kind of a word that is not reserved, or of the one that it is
abbrev pub word_kind : Option Keyword → Kind
word_kind None = k.Name
word_kind (Some word) = kind_of_word word

-- the kind of a symbol, by its first byte and its second: `!=` is read as `<>`
abbrev pub symbol_kind : ℕ → ℕ → Kind
symbol_kind b next =
    if b == 40 then k.Open else (
    if b == 41 then k.Close else (
    if b == 44 then k.Comma else (
    if b == 59 then k.Semicolon else (
    if b == 46 then k.Dot else (
    if b == 42 then k.Star else (
    if b == 43 then k.Plus else (
    if b == 45 then k.Minus else (
    if b == 47 then k.Slash else (
    if b == 61 then k.Equal else (
    if b == 60 then (if next == 62 then k.Unequal else (if next == 61 then k.AtMost else k.Less)) else (
    if b == 62 then (if next == 61 then k.AtLeast else k.Greater) else (
    if b == 33 then k.Unequal else (if b == 124 then k.Concat else k.Bad)))))))))))))

-- the kind of a token of these bytes
abbrev pub kind_of : TokenKind → List ℕ → Kind
kind_of Word s = word_kind (keyword s)
kind_of Number s = k.Number
kind_of Quoted s = k.Quoted
kind_of Symbol s = symbol_kind (slice_index s 0) (slice_index s 1)
kind_of Bad s = k.Bad

-- what the bytes of a token of a kind give
abbrev pub lexeme : Kind → List ℕ → Lexeme
lexeme kind s = record {
  kind = kind;
  text = if same_kind kind k.Name then lower_case s else (if same_kind kind k.Quoted then string_text s else []);
  number = if same_kind kind k.Number then number_value s else None;
}

abbrev pub lexeme_of : List ℕ → Token → Lexeme
lexeme_of text t = lexeme (kind_of t.kind (token_bytes text t)) (token_bytes text t)

-- tokens of a text, as the grammar sees them
abbrev pub lexemes_of : List ℕ → List Token → List Lexeme
lexemes_of text = map (lexeme_of text)

-- Some text, of whole characters, is that token alone.
abbrev pub IsToken : Lexeme → Type 0
IsToken x = (text : List ℕ) × IsUtf8 text × (lexemes_of text (tokens_of text) ≡ x ∷ [])
