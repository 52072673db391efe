-- The text of a script: statements as they are spelled, each ended by `;` and a line feed.
use Rattle.std.specs.Prelude.{ℕ, List, [], ◌∷◌, ◌++◌}
use Rattle.std.specs.List.{flat_map}
use Rattle.wat_ast.specs.declared.statement.Statement.{Statement}
use Rattle.wat_spell.specs.Statements.{spelled_text}

-- `;` and a line feed
abbrev pub end_of_statement : List ℕ
end_of_statement = 59 ∷ 10 ∷ []

abbrev pub ended_text : Statement → List ℕ
ended_text x = spelled_text x ++ end_of_statement

abbrev pub script_text : List Statement → List ℕ
script_text xs = flat_map ended_text xs
