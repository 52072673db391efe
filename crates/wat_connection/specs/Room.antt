-- What a connection keeps of its script.
use Rattle.std.specs.Prelude.{◌≡◌, ℕ, ◌+◌, ◌≤◌, List, length}
use Rattle.wat_parse.specs.declared.script.Span.{Span}
use Rattle.wat_parse.specs.Statements.{statements_of}

-- The places are those of the script's statements, and for each that is not answered there is room in the transcript.
pub record HasRoom (script : List ℕ) (spans : List Span) (answered spare : ℕ) : Type 0 where
  pub short : length script ≤ 16777216
  pub whole : spans ≡ statements_of script
  pub within : answered ≤ length spans
  pub room : length spans ≤ answered + spare
