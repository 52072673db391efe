-- The smallest rule of types that a statement breaks, where each of its names stands for something.
use Rattle.std.specs.Prelude.{ℕ, ℤ, pos, negsuc, ◌==◌, nat_lt, nat_le, Bool, true, false, not, ◌&&◌, ◌||◌, List, [], ◌∷◌, ◌++◌, map, length, Option, Some, None, option_to_list, unwrap_or}
use Rattle.std.specs.List.{list_any, flat_map, filter_map, zip, slice_get}
use Rattle.std.specs.Option.{option_and_then, option_map}
use Rattle.std.specs.Str.{bytes_eq}
use Rattle.wat_value.specs.declared.definition.Column.{Column}
use Rattle.wat_ast.specs.declared.expression.Expr.{Expr}
use Rattle.wat_ast.specs.declared.query.SelectItems.{SelectItems}
use Rattle.wat_ast.specs.declared.query.SelectItems.TheVariants as items
use Rattle.wat_ast.specs.declared.query.OrderBy.{OrderBy}
use Rattle.wat_ast.specs.declared.query.OrderBy.TheVariants as by
use Rattle.wat_ast.specs.declared.query.OrderItem.{OrderItem}
use Rattle.wat_ast.specs.declared.query.Query.{Query}
use Rattle.wat_ast.specs.declared.statement.InsertSource.{InsertSource}
use Rattle.wat_ast.specs.declared.statement.InsertSource.TheVariants.{Values, Answer}
use Rattle.wat_ast.specs.declared.statement.SetItem.{SetItem}
use Rattle.wat_walk.specs.Parts.{Spot, bare_in}
use Rattle.wat_walk.specs.Queries.{is_grouped, listed, order_column}
use Rattle.wat_schema.specs.Catalog.{Name, Catalog, table_named, repeats}
use Rattle.wat_types.specs.declared.typing.ExprType.{ExprType}
use Rattle.wat_types.specs.declared.typing.ExprType.TheVariants.{Integer, Text, Condition, Null}
use Rattle.wat_types.specs.declared.typing.Typing.{Typing}
use Rattle.wat_typing.specs.declared.rules.QueryTypings.{QueryTypings}
use Rattle.wat_scope.specs.Scope.{Scope, query_scope, table_scope, columns_of, column_in}
use Rattle.wat_types.specs.Types.{ColumnTypes, is_integer, is_text, is_condition, kind_type, lesser, smallest, breaks, any_aggregated, typing_of}

-- ---- the types of columns

abbrev pub column_type : Column → ExprType
column_type column = kind_type column.kind

-- the type of the table's column with this number, and that of NULL where there is none
abbrev pub type_at : Catalog → Option ℕ → ℕ → ExprType
type_at c table column = unwrap_or (option_map column_type (slice_get (columns_of c table) column)) Null

abbrev pub table_of : Scope → ℕ → Option ℕ
table_of scope source = option_and_then (λ visible. visible.table) (slice_get scope source)

abbrev pub types_of : Catalog → Scope → ColumnTypes
types_of c scope source column = type_at c (table_of scope source) column

-- the type of the table's column with this name
unfoldable pub type_named : Catalog → Option ℕ → Name → ExprType
type_named c table name = unwrap_or (option_map (type_at c table) (column_in c table name)) Null

abbrev pub types_in : Catalog → Option ℕ → List ExprType
types_in c table = map column_type (columns_of c table)

abbrev pub typings : Catalog → Scope → List Expr → List Typing
typings c scope exprs = map (typing_of (types_of c scope)) exprs

-- ---- what any statement breaks

-- An item, or a value of VALUES or SET, is a condition.
unfoldable pub value_rule : Typing → Option ℕ
value_rule value = lesser value.broken (breaks 5 (is_condition value.kind))

-- WHERE or HAVING is no condition.
unfoldable pub test_rule : Typing → Option ℕ
test_rule test = lesser test.broken (breaks 5 (not (is_condition test.kind)))

abbrev pub values_rule : List Typing → Option ℕ
values_rule values = smallest (map value_rule values)

abbrev pub tests_rule : List Typing → Option ℕ
tests_rule tests = smallest (map test_rule tests)

abbrev pub columns_rule : List Typing → Option ℕ
columns_rule columns = smallest (map (λ column. column.broken) columns)

-- ---- queries

abbrev pub query_typings : Catalog → Scope → Query → QueryTypings
query_typings c scope q = record {
  items = typings c scope (listed q.items);
  filter = typings c scope (option_to_list q.filter);
  group = typings c scope q.group;
  having = typings c scope (option_to_list q.having);
  order = typings c scope (filter_map order_column q.order);
}

abbrev pub is_star : SelectItems → Bool
is_star items.Star = true
is_star (items.List exprs) = false

abbrev pub spot_eq : Spot → Spot → Bool
spot_eq a b = (a.0 == b.0) && (a.1 == b.1)

-- the columns outside aggregates of these expressions
abbrev pub bare_columns : List Expr → List Spot
bare_columns exprs = flat_map bare_in exprs

-- one of the columns is none of the keys
abbrev pub has_other : List Spot → List Spot → Bool
has_other keys columns = list_any (λ column. not (list_any (spot_eq column) keys)) columns

-- the columns outside aggregates in the items, HAVING and ORDER BY
abbrev pub shown_columns : Query → List Spot
shown_columns q = bare_columns (listed q.items) ++ bare_columns (option_to_list q.having) ++ bare_columns (filter_map order_column q.order)

-- In a grouped query a column outside aggregates is no GROUP BY column, or the items are *. WHERE is free.
unfoldable pub breaks_grouping : Query → Bool
breaks_grouping q = is_grouped q && (is_star q.items || has_other (bare_columns q.group) (shown_columns q))

-- the types of the columns of the result
unfoldable pub shown_types : Catalog → Scope → SelectItems → List Typing → List ExprType
shown_types c scope items.Star t = flat_map (λ visible. types_in c visible.table) scope
shown_types c scope (items.List exprs) t = map (λ item. item.kind) t

-- not 1 to the number of columns of the result
abbrev pub is_bad_number : ℕ → ℤ → Bool
is_bad_number columns (pos n) = not (nat_le 1 n && nat_le n columns)
is_bad_number columns (negsuc n) = true

abbrev pub is_bad_position : ℕ → OrderBy → Bool
is_bad_position columns (by.Column column) = false
is_bad_position columns (by.Position n) = is_bad_number columns n

unfoldable pub has_bad_position : ℕ → List OrderItem → Bool
has_bad_position columns order = list_any (λ item. is_bad_position columns item.by) order

abbrev pub query_rules : Catalog → Scope → Query → QueryTypings → List (Option ℕ)
query_rules c scope q t =
    values_rule t.items
    ∷ tests_rule t.filter
    ∷ columns_rule t.group
    ∷ tests_rule t.having
    ∷ columns_rule t.order
    ∷ breaks 6 (any_aggregated t.filter || any_aggregated t.group || any_aggregated t.order)
    ∷ breaks 7 (breaks_grouping q)
    ∷ breaks 8 (has_bad_position (length (shown_types c scope q.items t.items)) q.order)
    ∷ breaks 12 (nat_lt 8 (length q.sources))
    ∷ []

unfoldable pub query_rule : Catalog → Query → Option ℕ
query_rule c q = let scope = query_scope c q in smallest (query_rules c scope q (query_typings c scope q))

-- the types of the columns of a query's result
abbrev pub query_types : Catalog → Query → List ExprType
query_types c q = let scope = query_scope c q in shown_types c scope q.items (typings c scope (listed q.items))

-- ---- values that go into columns

-- a value of the first type goes into a column of the second
abbrev pub goes_into : ExprType → ExprType → Bool
goes_into value Integer = is_integer value
goes_into value Text = is_text value
goes_into value Condition = true
goes_into value Null = true

-- A value's type isn't that of its column.
abbrev pub misfits : List ExprType → List ExprType → Bool
misfits columns values = list_any (λ pair. not (goes_into pair.1 pair.0)) (zip columns values)

-- the types of the columns that INSERT gives values to: those that it names, or all
abbrev pub given_types : Catalog → Option ℕ → Option (List Name) → List ExprType
given_types c table None = types_in c table
given_types c table (Some names) = map (type_named c table) names

-- INSERT names a column twice, or the number of values isn't that of the columns; a value's type isn't that of its column.
unfoldable pub insert_rule : Catalog → Name → Option (List Name) → List ExprType → Option ℕ
insert_rule c table columns values = let given = given_types c (table_named c table) columns in smallest (
    breaks 9 (repeats bytes_eq (unwrap_or columns []) || not (length given == length values))
    ∷ breaks 11 (misfits given values)
    ∷ [])

abbrev pub kinds : List Typing → List ExprType
kinds typings = map (λ typing. typing.kind) typings

unfoldable pub given_rule : Catalog → Name → Option (List Name) → InsertSource → Option ℕ
given_rule c table columns (Values exprs) = let values = typings c [] exprs in smallest (
    values_rule values
    ∷ breaks 6 (any_aggregated values)
    ∷ insert_rule c table columns (kinds values)
    ∷ [])
given_rule c table columns (Answer q) = smallest (query_rule c q ∷ insert_rule c table columns (query_types c q) ∷ [])

abbrev pub set_names : List SetItem → List Name
set_names sets = map (λ set. set.name) sets

abbrev pub set_values : List SetItem → List Expr
set_values sets = map (λ set. set.value) sets

unfoldable pub update_rule : Catalog → Name → List SetItem → Option Expr → Option ℕ
update_rule c table sets filter =
    let scope = table_scope c table in
    let values = typings c scope (set_values sets) in
    let tests = typings c scope (option_to_list filter) in
    smallest (
    values_rule values
    ∷ tests_rule tests
    ∷ breaks 6 (any_aggregated values || any_aggregated tests)
    ∷ breaks 10 (repeats bytes_eq (set_names sets))
    ∷ breaks 11 (misfits (map (type_named c (table_named c table)) (set_names sets)) (kinds values))
    ∷ [])

unfoldable pub delete_rule : Catalog → Name → Option Expr → Option ℕ
delete_rule c table filter =
    let tests = typings c (table_scope c table) (option_to_list filter) in
    smallest (tests_rule tests ∷ breaks 6 (any_aggregated tests) ∷ [])
