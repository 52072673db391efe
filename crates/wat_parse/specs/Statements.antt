-- The statements of a script.
use Rattle.std.specs.Prelude.{ℕ, Bool, ◌&&◌, if◌then◌else◌, ◌==◌, List, [], ◌∷◌, length, slice_index, Option, Some, None}
use Rattle.std.specs.List.{flat_map}
use denote.Enum.Bare.{sameb}
use Rattle.wat_lex.specs.contracts.token.TokenKind.{the_type}
use Rattle.wat_lex.specs.declared.token.TokenKind.TheVariants.{Symbol}
use Rattle.wat_lex.specs.declared.token.Token.{Token}
use Rattle.wat_lex.specs.Parts.{next_from}
use Rattle.wat_lex.specs.Tokens.{tokens_of}
use Rattle.wat_parse.specs.declared.script.Span.{Span}

-- the one symbol that begins with `;`
abbrev pub is_semicolon : List ℕ → Token → Bool
is_semicolon text t = sameb the_type t.kind Symbol && slice_index text t.from == 59

-- the token in front of the first group
abbrev pub before_first : Token → List (List Token) → List (List Token)
before_first t [] = (t ∷ []) ∷ []
before_first t (group ∷ groups) = (t ∷ group) ∷ groups

-- the groups between semicolons, the empty ones too
abbrev pub groups : List ℕ → List Token → List (List Token)
groups text [] = [] ∷ []
groups text (t ∷ ts) = if is_semicolon text t then [] ∷ groups text ts else before_first t (groups text ts)

-- the last of the tokens, of which there is one at least
abbrev pub last_of : Token → List Token → Token
last_of t [] = t
last_of t (u ∷ us) = last_of u us

-- from the first token of a group up to the end of its last, or nothing for an empty one
abbrev pub span_of : List Token → List Span
span_of [] = []
span_of (t ∷ ts) = record { from = t.from; to = (last_of t ts).to } ∷ []

-- the spans of the groups that are not empty
unfoldable pub statements_of : List ℕ → List Span
statements_of text = flat_map span_of (groups text (tokens_of text))

-- Where a group that is cut short goes wrong: at the `;` behind it, or at the end of the text.
abbrev pub place_behind : List ℕ → Span → ℕ
place_behind text span = next_from span.to (length text) (tokens_of text)

-- an open group, with one token more
abbrev pub lengthened : Option Span → Token → Span
lengthened None t = record { from = t.from; to = t.to }
lengthened (Some span) t = record { from = span.from; to = t.to }
