-- Tables that are numbered anew, as the statements that make them number them on an empty database.
use Rattle.std.specs.Prelude.{ℕ, ◌+◌, ◌&&◌, Bool, List, [], ◌∷◌, map, length}
use Rattle.std.specs.List.{list_all}
use Rattle.wat_word.specs.Words.{is_name}
use Rattle.wat_value.specs.declared.definition.TableDef.{TableDef}
use Rattle.wat_value.specs.declared.definition.IndexDef.{IndexDef}
use Rattle.wat_schema.specs.Catalog.{Catalog, Listing}
use Rattle.wat_schema.specs.Tables.{Table, Tables}
use Rattle.wat_written_laws.specs.Named.{has_names}

-- the definition with this number
abbrev pub with_number : ℕ → TableDef → TableDef
with_number n def = record def { number = n }

-- the index, of the table with this number
abbrev pub of_number : ℕ → IndexDef → IndexDef
of_number n index = record index { table = n }

-- the table with this number, and its indexes
abbrev pub numbered : ℕ → Table → Table
numbered n x = record { def = with_number n x.def; indexes = map (of_number n) x.indexes; rows = x.rows }

-- the tables, numbered from this number on
abbrev pub numbered_from : ℕ → List Table → List Table
numbered_from n [] = []
numbered_from n (x ∷ xs) = numbered n x ∷ numbered_from (n + 1) xs

-- the tables numbered 1, 2 and so on in their order, with the number that follows as the next one
abbrev pub anew : Tables → Tables
anew t = record { tables = numbered_from 1 t.tables; next = 1 + length t.tables }

-- ---- names

-- the table, its columns and its indexes have names for names
abbrev pub is_named : Listing → Bool
is_named t = has_names t.def && list_all (λ index. is_name index.name) t.indexes

abbrev pub are_named : Catalog → Bool
are_named c = list_all is_named c.tables
