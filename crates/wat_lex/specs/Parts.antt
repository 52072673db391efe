-- The tokens of a part of a text.
use Rattle.std.specs.Prelude.{ℕ, Bool, ◌&&◌, ◌==◌, if◌then◌else◌, nat_le, List, [], ◌∷◌, filter}
use Rattle.std.specs.List.{list_any}
use Rattle.wat_lex.specs.declared.token.Token.{Token}
use Rattle.wat_lex.specs.Tokens.{tokens_of}

-- one of the tokens begins there
abbrev pub begins_token : List Token → ℕ → Bool
begins_token ts at = list_any (λ t. t.from == at) ts

abbrev pub is_within : ℕ → ℕ → Token → Bool
is_within from to t = nat_le from t.from && nat_le t.to to

-- the tokens of a text between two places
abbrev pub tokens_within : List ℕ → ℕ → ℕ → List Token
tokens_within text from to = filter (is_within from to) (tokens_of text)

-- where the first token from a place on begins, or the end where there is none
abbrev pub next_from : ℕ → ℕ → List Token → ℕ
next_from at end [] = end
next_from at end (t ∷ ts) = if nat_le at t.from then t.from else next_from at end ts
