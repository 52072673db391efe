-- What spells an expression, in the words of the grammar.
use Rattle.std.specs.Prelude.{ℕ, zero, suc, pos, negsuc, ◌≤◌, ◌^◌, Bool, true, false, nat_lt, ◌&&◌, List, [], ◌∷◌, Option, Some, None}
use Rattle.std.specs.List.{flat_map}
use Rattle.wat_word.specs.Words.{is_name}
use Rattle.wat_value.specs.declared.value.Value.{Value}
use Rattle.wat_value.specs.declared.value.Value.TheVariants as value
use Rattle.wat_ast.specs.declared.expression.AggregateKind.{AggregateKind}
use Rattle.wat_ast.specs.declared.expression.AggregateKind.TheVariants as aggregate
use Rattle.wat_ast.specs.declared.expression.Expr.{Expr, fold-Expr}
use Rattle.wat_ast.specs.declared.expression.Expr.TheOpen.{Expr-F}
use Rattle.wat_grammar.specs.Phrase.{DerivesWithin}
use Rattle.wat_syntax.specs.declared.kind.Kind.{Kind}
use Rattle.wat_syntax.specs.declared.kind.Kind.TheVariants as k
use Rattle.wat_syntax.specs.Lexeme.{Lexeme, kind_of_word}
use Rattle.wat_syntax.specs.Sql.{Sql, sql, expression, conjunction, negation, predicate, sum, term, factor, primary}
use Rattle.wat_spell.specs.declared.symbol.Symbol.{Symbol}
use Rattle.wat_spell.specs.declared.symbol.Symbol.TheVariants as s
use Rattle.wat_spell.specs.Tokens.{Token, word, name, number, negative, quoted, symbol}
use Rattle.wat_spell.specs.Spelling.{Spelling}

abbrev pub kind_of_symbol : Symbol → Kind
kind_of_symbol s.Open = k.Open
kind_of_symbol s.OpenTight = k.Open
kind_of_symbol s.Close = k.Close
kind_of_symbol s.Comma = k.Comma
kind_of_symbol s.Dot = k.Dot
kind_of_symbol s.Star = k.Star
kind_of_symbol s.Plus = k.Plus
kind_of_symbol s.Minus = k.Minus
kind_of_symbol s.Slash = k.Slash
kind_of_symbol s.Concat = k.Concat
kind_of_symbol s.Equal = k.Equal
kind_of_symbol s.Unequal = k.Unequal
kind_of_symbol s.Less = k.Less
kind_of_symbol s.AtMost = k.AtMost
kind_of_symbol s.Greater = k.Greater
kind_of_symbol s.AtLeast = k.AtLeast

-- a token of a kind alone
abbrev pub sign : Kind → Lexeme
sign kind = record { kind = kind; text = []; number = None }

abbrev pub name_lexeme : List ℕ → Lexeme
name_lexeme n = record { kind = k.Name; text = n; number = None }

abbrev pub number_lexeme : ℕ → Lexeme
number_lexeme n = record { kind = k.Number; text = []; number = Some n }

abbrev pub quoted_lexeme : List ℕ → Lexeme
quoted_lexeme t = record { kind = k.Quoted; text = t; number = None }

-- a token of a spelling as the grammar sees it: a number below zero is a minus and a number
abbrev pub lexemes_of_token : Token → List Lexeme
lexemes_of_token (word w) = sign (kind_of_word w) ∷ []
lexemes_of_token (name n) = name_lexeme n ∷ []
lexemes_of_token (number n) = number_lexeme n ∷ []
lexemes_of_token (negative n) = sign k.Minus ∷ number_lexeme n ∷ []
lexemes_of_token (quoted t) = quoted_lexeme t ∷ []
lexemes_of_token (symbol x) = sign (kind_of_symbol x) ∷ []

abbrev pub token_lexemes : List Token → List Lexeme
token_lexemes = flat_map lexemes_of_token

-- the phrase whose outermost operator binds so tightly, or tighter
abbrev pub phrase_of : ℕ → Sql Expr
phrase_of zero = expression
phrase_of (suc zero) = conjunction
phrase_of (suc (suc zero)) = negation
phrase_of (suc (suc (suc zero))) = predicate
phrase_of (suc (suc (suc (suc zero)))) = sum
phrase_of (suc (suc (suc (suc (suc zero))))) = term
phrase_of (suc (suc (suc (suc (suc (suc zero)))))) = factor
phrase_of (suc (suc (suc (suc (suc (suc (suc n))))))) = primary

-- ---- the trees that a text may give: names are names, numbers can be written, and no list is empty

abbrev pub is_parsable_value : Value → Bool
is_parsable_value value.Null = true
is_parsable_value (value.Int (pos n)) = nat_lt n (2 ^ 63)
is_parsable_value (value.Int (negsuc n)) = false
is_parsable_value (value.Text t) = true

abbrev pub is_parsable_table : Option (List ℕ) → Bool
is_parsable_table None = true
is_parsable_table (Some n) = is_name n

-- some, and all of them true
abbrev pub all_of : List Bool → Bool
all_of [] = false
all_of (b ∷ []) = b
all_of (b ∷ c ∷ more) = b && all_of (c ∷ more)

-- COUNT alone needs no argument
abbrev pub is_parsable_aggregate : AggregateKind → Option Bool → Bool
is_parsable_aggregate aggregate.Count None = true
is_parsable_aggregate aggregate.Sum None = false
is_parsable_aggregate aggregate.Min None = false
is_parsable_aggregate aggregate.Max None = false
is_parsable_aggregate kind (Some b) = b

abbrev pub is_parsable_at : Expr-F Bool → Bool
is_parsable_at (Expr-F.Literal v) = is_parsable_value v
is_parsable_at (Expr-F.Named table n) = is_parsable_table table && is_name n
is_parsable_at (Expr-F.Placed source column) = false
is_parsable_at (Expr-F.Unary op a) = a
is_parsable_at (Expr-F.Binary op l r) = l && r
is_parsable_at (Expr-F.IsNull a negated) = a
is_parsable_at (Expr-F.Between a low high negated) = a && (low && high)
is_parsable_at (Expr-F.InList a items negated) = a && all_of items
is_parsable_at (Expr-F.Aggregate kind arg) = is_parsable_aggregate kind arg

unfoldable pub is_parsable : Expr → Bool
is_parsable = fold-Expr Bool is_parsable_at

-- Where so many levels may be opened, the tokens are derived, and give the tree.
abbrev pub IsSpelled : Spelling → Expr → Type 0
IsSpelled x e = (levels : ℕ) → x.levels ≤ levels → DerivesWithin sql levels (phrase_of x.rank) (token_lexemes x.tokens) e
