-- Rows that are inserted one after another into one table.
use Rattle.std.specs.Prelude.{List, [], ◌∷◌, ◌++◌, Some, unwrap_or}
use Rattle.wat_schema.specs.declared.refusal.Refusal.{Refusal}
use Rattle.wat_schema.specs.Tables.{Row, Table, after_insert}
use Rattle.wat_meaning.specs.Meaning.{stands_already}

-- the refusals of these rows, each over the table that those before it leave
abbrev pub refusals_in : Table → List Row → List Refusal
refusals_in x [] = []
refusals_in x (row ∷ rows) = stands_already (Some x) row ++ refusals_in (unwrap_or (after_insert row x) x) rows
