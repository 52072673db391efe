-- The names in a statement that are refused: those of tables, of sources and of columns, and primary key columns that are set.
use Rattle.std.specs.Prelude.{ℕ, ◌==◌, Bool, false, List, [], ◌∷◌, ◌++◌, Option, Some, None, is_some, option_to_list, unwrap_or, if◌then◌else◌}
use Rattle.std.specs.List.{list_any, flat_map}
use Rattle.std.specs.Option.{option_and_then, option_map_or}
use Rattle.std.specs.Str.{bytes_eq}
use Rattle.wat_value.specs.declared.definition.TableDef.{TableDef}
use Rattle.wat_ast.specs.declared.expression.Expr.{Expr}
use Rattle.wat_ast.specs.declared.query.Query.{Query}
use Rattle.wat_ast.specs.declared.statement.InsertSource.{InsertSource}
use Rattle.wat_ast.specs.declared.statement.InsertSource.TheVariants.{Values, Answer}
use Rattle.wat_ast.specs.declared.statement.SetItem.{SetItem}
use Rattle.wat_ast.specs.declared.statement.Statement.{Statement}
use Rattle.wat_ast.specs.declared.statement.Statement.TheVariants.{CreateTable, CreateIndex, DropTable, Insert, Update, Delete, Select}
use Rattle.wat_walk.specs.Parts.{Written, written_in}
use Rattle.wat_walk.specs.Queries.{expressions_of}
use Rattle.wat_schema.specs.declared.refusal.Refusal.{Refusal}
use Rattle.wat_schema.specs.declared.refusal.Refusal.TheVariants.{NoTable, NoColumn, Ambiguous, TableExists, IndexExists, KeyAssigned}
use Rattle.wat_schema.specs.Catalog.{Name, Catalog, table_named, def_at, has_index_named}
use Rattle.wat_scope.specs.declared.scope.Found.{Found}
use Rattle.wat_scope.specs.declared.scope.Found.TheVariants.{Nowhere, At, Several}
use Rattle.wat_scope.specs.Scope.{Scope, query_scope, table_scope, column_in, found}

-- ---- names of tables, in text order

-- A table that doesn't stand is NoTable.
abbrev pub needed : Catalog → Name → List Refusal
needed c table = if is_some (table_named c table) then [] else NoTable table ∷ []

abbrev pub needed_sources : Catalog → Query → List Refusal
needed_sources c q = flat_map (λ source. needed c source.table) q.sources

abbrev pub needed_of_insert : Catalog → InsertSource → List Refusal
needed_of_insert c (Values values) = []
needed_of_insert c (Answer q) = needed_sources c q

-- CREATE TABLE answers TableExists, where its table stands.
abbrev pub new_table : Catalog → Name → List Refusal
new_table c name = if is_some (table_named c name) then TableExists name ∷ [] else []

-- CREATE INDEX answers IndexExists, where an index of any table has the name.
abbrev pub new_index : Catalog → Name → List Refusal
new_index c name = if has_index_named c name then IndexExists name ∷ [] else []

abbrev pub table_refusals : Catalog → Statement → List Refusal
table_refusals c (CreateTable name elements) = new_table c name
table_refusals c (CreateIndex name table columns) = needed c table ++ new_index c name
table_refusals c (DropTable name) = needed c name
table_refusals c (Insert table columns source) = needed c table ++ needed_of_insert c source
table_refusals c (Update table sets filter) = needed c table
table_refusals c (Delete table filter) = needed c table
table_refusals c (Select q) = needed_sources c q
table_refusals c s = []

-- ---- two sources with one visible name

abbrev pub has_visible : Scope → Name → Bool
has_visible scope name = list_any (λ source. bytes_eq source.name name) scope

-- Each source whose visible name came earlier, among `before` or these, is Ambiguous with that name.
abbrev pub named_again : Scope → Scope → List Refusal
named_again before [] = []
named_again before (source ∷ sources) =
    (if has_visible before source.name then Ambiguous source.name ∷ [] else [])
    ++ named_again (before ++ source ∷ []) sources

abbrev pub source_refusals : Catalog → Statement → List Refusal
source_refusals c (Insert table columns (Answer q)) = named_again [] (query_scope c q)
source_refusals c (Select q) = named_again [] (query_scope c q)
source_refusals c s = []

-- ---- columns, in text order

-- A column that isn't there is NoColumn, and one that several sources have is Ambiguous.
abbrev pub refused_as : Name → Found → List Refusal
refused_as name Nowhere = NoColumn name ∷ []
refused_as name (At source column) = []
refused_as name Several = Ambiguous name ∷ []

-- A qualifier that names no source is NoColumn with the qualifier.
abbrev pub qualifier_refusals : Scope → Option Name → List Refusal
qualifier_refusals scope None = []
qualifier_refusals scope (Some qualifier) = if has_visible scope qualifier then [] else NoColumn qualifier ∷ []

unfoldable pub column_refusals : Catalog → Scope → Written → List Refusal
column_refusals c scope written = qualifier_refusals scope written.0 ++ refused_as written.1 (found c scope written)

unfoldable pub in_expression : Catalog → Scope → Expr → List Refusal
in_expression c scope expr = flat_map (column_refusals c scope) (written_in expr)

abbrev pub in_expressions : Catalog → Scope → List Expr → List Refusal
in_expressions c scope exprs = flat_map (in_expression c scope) exprs

-- the names of columns that INSERT and CREATE INDEX list
unfoldable pub in_names : Catalog → Scope → List Name → List Refusal
in_names c scope names = flat_map (λ name. column_refusals c scope (None, name)) names

unfoldable pub in_set : Catalog → Scope → SetItem → List Refusal
in_set c scope set = column_refusals c scope (None, set.name) ++ in_expression c scope set.value

unfoldable pub in_query : Catalog → Query → List Refusal
in_query c q = in_expressions c (query_scope c q) (expressions_of q)

-- VALUES has no source, so that a name in it is NoColumn.
abbrev pub in_insert : Catalog → InsertSource → List Refusal
in_insert c (Values values) = in_expressions c [] values
in_insert c (Answer q) = in_query c q

abbrev pub columns_refusals : Catalog → Statement → List Refusal
columns_refusals c (CreateIndex name table columns) = in_names c (table_scope c table) columns
columns_refusals c (Insert table columns source) = in_names c (table_scope c table) (unwrap_or columns []) ++ in_insert c source
columns_refusals c (Update table sets filter) =
    flat_map (in_set c (table_scope c table)) sets ++ in_expressions c (table_scope c table) (option_to_list filter)
columns_refusals c (Delete table filter) = in_expressions c (table_scope c table) (option_to_list filter)
columns_refusals c (Select q) = in_query c q
columns_refusals c s = []

-- ---- SET of a primary key column

-- the column with this number is one of the primary key
abbrev pub is_key_of : ℕ → TableDef → Bool
is_key_of number def = list_any (λ key. key == number) def.key

abbrev pub is_key_number : Catalog → Option ℕ → Option ℕ → Bool
is_key_number c table None = false
is_key_number c table (Some number) = option_map_or (is_key_of number) (option_and_then (def_at c) table) false

abbrev pub is_key_column : Catalog → Option ℕ → Name → Bool
is_key_column c table name = is_key_number c table (column_in c table name)

unfoldable pub key_refusal : Catalog → Option ℕ → SetItem → List Refusal
key_refusal c table set = if is_key_column c table set.name then KeyAssigned set.name ∷ [] else []

abbrev pub key_refusals : Catalog → Statement → List Refusal
key_refusals c (Update table sets filter) = flat_map (key_refusal c (table_named c table)) sets
key_refusals c s = []

-- the names that are refused: those of tables, visible names, columns, and primary key columns that are set
unfoldable pub name_refusals : Catalog → Statement → List Refusal
name_refusals c s = table_refusals c s ++ source_refusals c s ++ columns_refusals c s ++ key_refusals c s
