-- The tables that a statement reads, and where they have a column.
use Rattle.std.specs.Prelude.{ℕ, Bool, true, List, [], ◌∷◌, map, Option, Some, None, unwrap_or, if◌then◌else◌}
use Rattle.std.specs.List.{enumerate_from, flat_map}
use Rattle.std.specs.Option.{option_and_then, option_map_or}
use Rattle.std.specs.Str.{bytes_eq}
use Rattle.wat_value.specs.declared.definition.Column.{Column}
use Rattle.wat_ast.specs.declared.query.Source.{Source}
use Rattle.wat_ast.specs.declared.query.Query.{Query}
use Rattle.wat_walk.specs.Parts.{Written, Spot}
use Rattle.wat_schema.specs.Catalog.{Name, Catalog, table_named, def_at, column_at}
use Rattle.wat_scope.specs.declared.scope.Visible.{Visible}
use Rattle.wat_scope.specs.declared.scope.Found.{Found}
use Rattle.wat_scope.specs.declared.scope.Found.TheVariants.{Nowhere, At, Several}

-- the sources that a column can be of, each with its visible name and the number of its table, if that stands
abbrev pub Scope : Type 0
Scope = List Visible

-- the alias, else the table's name
abbrev pub visible_name : Source → Name
visible_name source = unwrap_or source.alias source.table

unfoldable pub visible : Catalog → Source → Visible
visible c source = record { name = visible_name source; table = table_named c source.table }

abbrev pub query_scope : Catalog → Query → Scope
query_scope c q = map (visible c) q.sources

-- one table, under its own name
abbrev pub table_scope : Catalog → Name → Scope
table_scope c table = record { name = table; table = table_named c table } ∷ []

-- the columns of a table, and none where it doesn't stand
abbrev pub columns_of : Catalog → Option ℕ → List Column
columns_of c table = option_map_or (λ def. def.columns) (option_and_then (def_at c) table) []

-- the number of the table's column with the name
abbrev pub column_in : Catalog → Option ℕ → Name → Option ℕ
column_in c table name = option_and_then (λ number. column_at c number name) table

-- The source is the one that the qualifier names. Without a qualifier each one is.
abbrev pub is_meant : Option Name → Visible → Bool
is_meant None source = true
is_meant (Some qualifier) source = bytes_eq source.name qualifier

-- the number of the source's column with the name, where the source is meant
abbrev pub meant_column : Catalog → Written → Visible → Option ℕ
meant_column c written source = if is_meant written.0 source then column_in c source.table written.1 else None

-- the place of that column, of the source with this number
abbrev pub spot_in : ℕ → Option ℕ → List Spot
spot_in source None = []
spot_in source (Some column) = (source, column) ∷ []

-- where these numbered sources have the column
abbrev pub spots : Catalog → Written → List (ℕ × Visible) → List Spot
spots c written sources = flat_map (λ source. spot_in source.0 (meant_column c written source.1)) sources

abbrev pub found_among : List Spot → Found
found_among [] = Nowhere
found_among (spot ∷ []) = At spot.0 spot.1
found_among (spot ∷ other ∷ more) = Several

-- where a column is found: nowhere, at one place, or in several sources
unfoldable pub found : Catalog → Scope → Written → Found
found c scope written = found_among (spots c written (enumerate_from 0 scope))
