-- Lists of refusals in the order of the checks, of which the first is the answer.
use Rattle.std.specs.Prelude.{List, [], ◌∷◌, Option, Some, None, Result, Ok, Err}
use Rattle.wat_schema.specs.declared.refusal.Refusal.{Refusal}

abbrev pub first : {X : Type 0} → List X → Option X
first [] = None
first (x ∷ xs) = Some x

-- the answer, or the refusal where there is one
abbrev pub or_refused : {A : Type 0} → A → Option Refusal → Result A Refusal
or_refused answer None = Ok answer
or_refused answer (Some refusal) = Err refusal
