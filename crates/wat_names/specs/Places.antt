-- A statement with each column in its place.
use Rattle.std.specs.Prelude.{[], map}
use Rattle.std.specs.Option.{option_map}
use Rattle.wat_ast.specs.declared.expression.Expr.{Expr}
use Rattle.wat_ast.specs.declared.expression.Expr.TheVariants as e
use Rattle.wat_ast.specs.declared.query.SelectItems.{SelectItems}
use Rattle.wat_ast.specs.declared.query.SelectItems.TheVariants as items
use Rattle.wat_ast.specs.declared.query.OrderBy.{OrderBy}
use Rattle.wat_ast.specs.declared.query.OrderBy.TheVariants as by
use Rattle.wat_ast.specs.declared.query.OrderItem.{OrderItem}
use Rattle.wat_ast.specs.declared.query.Query.{Query}
use Rattle.wat_ast.specs.declared.statement.InsertSource.{InsertSource}
use Rattle.wat_ast.specs.declared.statement.InsertSource.TheVariants.{Values, Answer}
use Rattle.wat_ast.specs.declared.statement.SetItem.{SetItem}
use Rattle.wat_ast.specs.declared.statement.Statement.{Statement}
use Rattle.wat_ast.specs.declared.statement.Statement.TheVariants.{Insert, Update, Delete, Select}
use Rattle.wat_walk.specs.Parts.{Written, with_places}
use Rattle.wat_schema.specs.Catalog.{Catalog}
use Rattle.wat_scope.specs.declared.scope.Found.{Found}
use Rattle.wat_scope.specs.declared.scope.Found.TheVariants.{Nowhere, At, Several}
use Rattle.wat_scope.specs.Scope.{Scope, query_scope, table_scope, found}

-- A column that is found at one place is written as that place.
abbrev pub at_place : Written → Found → Expr
at_place written (At source column) = e.Placed source column
at_place written Nowhere = e.Named written.0 written.1
at_place written Several = e.Named written.0 written.1

unfoldable pub place_of : Catalog → Scope → Written → Expr
place_of c scope written = at_place written (found c scope written)

-- the expression with each name replaced by its place
unfoldable pub placed : Catalog → Scope → Expr → Expr
placed c scope = with_places (place_of c scope)

abbrev pub placed_items : Catalog → Scope → SelectItems → SelectItems
placed_items c scope items.Star = items.Star
placed_items c scope (items.List exprs) = items.List (map (placed c scope) exprs)

abbrev pub placed_by : Catalog → Scope → OrderBy → OrderBy
placed_by c scope (by.Column column) = by.Column (placed c scope column)
placed_by c scope (by.Position n) = by.Position n

unfoldable pub placed_order : Catalog → Scope → OrderItem → OrderItem
placed_order c scope item = record { by = placed_by c scope item.by; descending = item.descending }

abbrev pub placed_query : Catalog → Query → Query
placed_query c q = let scope = query_scope c q in record {
  distinct = q.distinct;
  items = placed_items c scope q.items;
  sources = q.sources;
  filter = option_map (placed c scope) q.filter;
  group = map (placed c scope) q.group;
  having = option_map (placed c scope) q.having;
  order = map (placed_order c scope) q.order;
}

unfoldable pub placed_set : Catalog → Scope → SetItem → SetItem
placed_set c scope set = record { name = set.name; value = placed c scope set.value }

abbrev pub placed_source : Catalog → InsertSource → InsertSource
placed_source c (Values values) = Values (map (placed c []) values)
placed_source c (Answer q) = Answer (placed_query c q)

-- the statement with each name in its expressions replaced by its place
abbrev pub placed_statement : Catalog → Statement → Statement
placed_statement c (Insert table columns source) = Insert table columns (placed_source c source)
placed_statement c (Update table sets filter) =
    Update table (map (placed_set c (table_scope c table)) sets) (option_map (placed c (table_scope c table)) filter)
placed_statement c (Delete table filter) = Delete table (option_map (placed c (table_scope c table)) filter)
placed_statement c (Select q) = Select (placed_query c q)
placed_statement c s = s
