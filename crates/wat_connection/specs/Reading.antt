-- What stands next in a script.
use Rattle.std.specs.Prelude.{◌≡◌, ℕ, List, [], ◌∷◌, Result, Ok, Err}
use Rattle.wat_ast.specs.declared.statement.Statement.{Statement as Tree}
use Rattle.wat_parse.specs.declared.script.Span.{Span}
use Rattle.wat_parse.specs.Parsing.{parsed_at}
use Rattle.wat_connection.specs.declared.reading.Reading.{Reading}
use Rattle.wat_connection.specs.declared.reading.Reading.TheVariants.{End, Wrong, Statement}

-- a text as it was read, or where it goes wrong
abbrev pub reading_of : Result Tree ℕ → Reading
reading_of (Ok tree) = Statement tree
reading_of (Err at) = Wrong at

-- the first of the statements that are left, or the end
abbrev pub next_reading : List ℕ → List Span → Reading
next_reading script [] = End
next_reading script (span ∷ more) = reading_of (parsed_at script span)
