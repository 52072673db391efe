-- The parts of a query.
use Rattle.std.specs.Prelude.{Bool, ◌||◌, List, [], ◌++◌, length, Option, Some, None, nat_lt, option_to_list}
use Rattle.std.specs.Option.{is_some}
use Rattle.std.specs.List.{filter_map, list_any}
use Rattle.wat_ast.specs.declared.expression.Expr.{Expr}
use Rattle.wat_ast.specs.declared.query.SelectItems.{SelectItems}
use Rattle.wat_ast.specs.declared.query.SelectItems.TheVariants as items
use Rattle.wat_ast.specs.declared.query.OrderBy.{OrderBy}
use Rattle.wat_ast.specs.declared.query.OrderBy.TheVariants as by
use Rattle.wat_ast.specs.declared.query.OrderItem.{OrderItem}
use Rattle.wat_ast.specs.declared.query.Query.{Query}
use Rattle.wat_walk.specs.Parts.{is_aggregated}

-- the expressions that are written as items, and none for `*`
abbrev pub listed : SelectItems → List Expr
listed items.Star = []
listed (items.List exprs) = exprs

-- the column that an item of ORDER BY names, if it is no position
abbrev pub order_column : OrderItem → Option Expr
order_column item = by_column item.by
  where
    by_column : OrderBy → Option Expr
    by_column (by.Column column) = Some column
    by_column (by.Position n) = None

-- the expressions of a query, in text order
abbrev pub expressions_of : Query → List Expr
expressions_of q = listed q.items ++ option_to_list q.filter ++ q.group ++ option_to_list q.having ++ filter_map order_column q.order

-- the query has GROUP BY, HAVING or an aggregate
abbrev pub is_grouped : Query → Bool
is_grouped q = nat_lt 0 (length q.group) || is_some q.having || list_any is_aggregated (listed q.items)
