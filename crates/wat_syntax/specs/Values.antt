-- What tokens of a text give.
use Rattle.std.specs.Prelude.{◌≡◌, List, ℕ, true, None, IsSome, ⊤}
use Rattle.std.specs.List.{AllByRecursion}
use Rattle.wat_word.specs.Words.{keyword, is_name}
use Rattle.wat_lex.specs.declared.token.TokenKind.{TokenKind}
use Rattle.wat_lex.specs.declared.token.TokenKind.TheVariants.{Word, Number, Quoted, Symbol, Bad}
use Rattle.wat_lex.specs.Tokens.{tokens_of}
use Rattle.wat_lex.specs.Values.{token_bytes, lower_case, number_value}

-- A word that is not reserved is a name in lower case, and a number has a value.
abbrev pub HasValue : TokenKind → List ℕ → Type 0
HasValue Word s = keyword s ≡ None → is_name (lower_case s) ≡ true
HasValue Number s = IsSome (number_value s)
HasValue Quoted s = ⊤
HasValue Symbol s = ⊤
HasValue Bad s = ⊤

-- No token of a text is refused for want of a value.
abbrev pub HaveValues : List ℕ → Type 0
HaveValues text = AllByRecursion (λ t. HasValue t.kind (token_bytes text t)) (tokens_of text)
