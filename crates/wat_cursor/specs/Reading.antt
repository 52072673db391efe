-- What a function that reads ensures.
use Rattle.std.specs.Prelude.{◌≡◌, ◌≢◌, ℕ, Bool, false, List, [], ◌∷◌, Option, Some, None, Result, Ok, Err}
use Rattle.std.specs.List.{AllByRecursion}
use Rattle.wat_grammar.specs.Phrase.{Outcome, has, whole}
use Rattle.wat_lex.specs.declared.token.Token.{Token}
use Rattle.wat_lex.specs.Values.{IsSlice}
use Rattle.wat_syntax.specs.declared.kind.Kind.{Kind}
use Rattle.wat_syntax.specs.Lexeme.{Lexeme, lexeme, lexemes_of}
use Rattle.wat_syntax.specs.Sql.{sql}
use Rattle.wat_cursor.specs.declared.fault.Fault.{Fault}
use Rattle.wat_cursor.specs.declared.fault.Fault.TheVariants.{Memory}

-- The outcome, unless memory ran out. A fault leaves the cursor at the token that it stands at.
abbrev pub Reads : {A : Type 0} → Outcome Lexeme A → Result A Fault → List Lexeme → Type 0
Reads outcome (Ok a) new = outcome ≡ Ok (a, new)
Reads outcome (Err e) new = e ≢ Memory → outcome ≡ Err new

-- The same where all of the tokens are to be read, so that none is left behind what was found.
abbrev pub ReadsAll : {A : Type 0} → Outcome Lexeme A → Result A Fault → List Lexeme → Type 0
ReadsAll outcome (Ok a) new = (whole outcome ≡ Ok a) × (new ≡ [])
ReadsAll outcome (Err e) new = e ≢ Memory → whole outcome ≡ Err new

abbrev pub kind_ahead : List Lexeme → Option Kind
kind_ahead [] = None
kind_ahead (x ∷ ts) = Some x.kind

abbrev pub rest_of : List Lexeme → List Lexeme
rest_of [] = []
rest_of (x ∷ ts) = ts

-- whether the kind is one of these
abbrev pub is_one_of : List Kind → Option Kind → Bool
is_one_of kinds None = false
is_one_of kinds (Some kind) = has sql kinds kind

-- Tokens of a text, cut between characters, and the kind of the first.
abbrev pub IsAt : List ℕ → List Token → Option Kind → Type 0
IsAt text tokens next = AllByRecursion (IsSlice text) tokens × (next ≡ kind_ahead (lexemes_of text tokens))

-- A token of the kind and of these characters comes next.
abbrev pub ComesNext : Kind → List ℕ → List Lexeme → Type 0
ComesNext kind text ts = ts ≡ lexeme kind text ∷ rest_of ts
