use Rattle.std.specs.Prelude.{◌≡◌, ℕ, ◌<◌, List, ◌++◌, length, Option, Bool, true, false}
use Rattle.std.specs.Io.KnownBytes.{Appends}

-- A proper prefix of the text is appended.
abbrev pub AppendsPart : Option (List ℕ) → Option (List ℕ) → List ℕ → Type 0
AppendsPart old new text = (part rest : List ℕ) × (text ≡ part ++ rest) × (0 < length rest) × Appends old new part

-- The text went out whole, or only in part.
abbrev pub Sends : Option (List ℕ) → Option (List ℕ) → List ℕ → Bool → Type 0
Sends old new text true = Appends old new text
Sends old new text false = AppendsPart old new text
