-- What the spelling of a tree is read as: in the place of each number below zero stand a minus and a number.
use Rattle.std.specs.Prelude.{ℤ, pos, negsuc, suc, List, map, Option, Some, None, option_map}
use Rattle.wat_value.specs.declared.value.Value.{Value}
use Rattle.wat_value.specs.declared.value.Value.TheVariants as value
use Rattle.wat_ast.specs.declared.expression.UnaryOp.TheVariants as unary
use Rattle.wat_ast.specs.declared.expression.Expr.{Expr, fold-Expr}
use Rattle.wat_ast.specs.declared.expression.Expr.TheOpen.{Expr-F}
use Rattle.wat_ast.specs.declared.expression.Expr.TheVariants as e
use Rattle.wat_ast.specs.declared.query.SelectItems.{SelectItems}
use Rattle.wat_ast.specs.declared.query.SelectItems.TheVariants as shown
use Rattle.wat_ast.specs.declared.query.OrderBy.{OrderBy}
use Rattle.wat_ast.specs.declared.query.OrderBy.TheVariants.{Column, Position}
use Rattle.wat_ast.specs.declared.query.OrderItem.{OrderItem}
use Rattle.wat_ast.specs.declared.query.Query.{Query}
use Rattle.wat_ast.specs.declared.statement.SetItem.{SetItem}
use Rattle.wat_ast.specs.declared.statement.InsertSource.{InsertSource}
use Rattle.wat_ast.specs.declared.statement.InsertSource.TheVariants as from
use Rattle.wat_ast.specs.declared.statement.Statement.{Statement}
use Rattle.wat_ast.specs.declared.statement.Statement.TheVariants as s

abbrev pub number_as_read : ℤ → Expr
number_as_read (pos n) = e.Literal (value.Int (pos n))
number_as_read (negsuc n) = e.Unary unary.Minus (e.Literal (value.Int (pos (suc n))))

abbrev pub literal_as_read : Value → Expr
literal_as_read value.Null = e.Literal value.Null
literal_as_read (value.Int n) = number_as_read n
literal_as_read (value.Text t) = e.Literal (value.Text t)

abbrev pub as_read_at : Expr-F Expr → Expr
as_read_at (Expr-F.Literal v) = literal_as_read v
as_read_at (Expr-F.Named table n) = e.Named table n
as_read_at (Expr-F.Placed source column) = e.Placed source column
as_read_at (Expr-F.Unary op a) = e.Unary op a
as_read_at (Expr-F.Binary op l r) = e.Binary op l r
as_read_at (Expr-F.IsNull a negated) = e.IsNull a negated
as_read_at (Expr-F.Between a low high negated) = e.Between a low high negated
as_read_at (Expr-F.InList a items negated) = e.InList a items negated
as_read_at (Expr-F.Aggregate kind arg) = e.Aggregate kind arg

unfoldable pub as_read : Expr → Expr
as_read = fold-Expr Expr as_read_at

-- ---- statements, in each of their expressions

abbrev pub items_as_read : SelectItems → SelectItems
items_as_read shown.Star = shown.Star
items_as_read (shown.List xs) = shown.List (map as_read xs)

abbrev pub order_as_read : OrderBy → OrderBy
order_as_read (Column x) = Column (as_read x)
order_as_read (Position n) = Position n

abbrev pub order_item_as_read : OrderItem → OrderItem
order_item_as_read x = record { by = order_as_read x.by; descending = x.descending }

abbrev pub query_as_read : Query → Query
query_as_read q = record {
  distinct = q.distinct;
  items = items_as_read q.items;
  sources = q.sources;
  filter = option_map as_read q.filter;
  group = map as_read q.group;
  having = option_map as_read q.having;
  order = map order_item_as_read q.order;
}

abbrev pub rows_as_read : InsertSource → InsertSource
rows_as_read (from.Values xs) = from.Values (map as_read xs)
rows_as_read (from.Answer q) = from.Answer (query_as_read q)

abbrev pub set_as_read : SetItem → SetItem
set_as_read x = record { name = x.name; value = as_read x.value }

abbrev pub statement_as_read : Statement → Statement
statement_as_read (s.CreateTable n elements) = s.CreateTable n elements
statement_as_read (s.CreateIndex n table columns) = s.CreateIndex n table columns
statement_as_read (s.DropTable n) = s.DropTable n
statement_as_read (s.Insert table columns rows) = s.Insert table columns (rows_as_read rows)
statement_as_read (s.Update table sets filter) = s.Update table (map set_as_read sets) (option_map as_read filter)
statement_as_read (s.Delete table filter) = s.Delete table (option_map as_read filter)
statement_as_read (s.Select q) = s.Select (query_as_read q)
statement_as_read s.Commit = s.Commit
statement_as_read s.Checkpoint = s.Checkpoint
statement_as_read s.Rollback = s.Rollback
statement_as_read (s.RollbackTo n) = s.RollbackTo n
statement_as_read (s.Savepoint n) = s.Savepoint n
statement_as_read (s.Release n) = s.Release n
statement_as_read (s.SetLevel level) = s.SetLevel level
statement_as_read (s.SetBlocking on) = s.SetBlocking on
