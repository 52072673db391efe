-- The trees whose spelling is a statement: names are names, the digits of numbers are at most 2 ^ 63 - 1, no list is empty, columns are
-- not yet found, and no expression opens more levels than may be opened.
use Rattle.std.specs.Prelude.{ℕ, ℤ, pos, negsuc, ◌^◌, Bool, true, false, nat_lt, nat_le, ◌&&◌, List, [], ◌∷◌, Option, Some, None}
use Rattle.std.specs.List.{list_all}
use Rattle.wat_word.specs.Words.{is_name}
use Rattle.wat_ast.specs.declared.expression.Expr.{Expr, fold-Expr}
use Rattle.wat_ast.specs.declared.expression.Expr.TheOpen.{Expr-F}
use Rattle.wat_ast.specs.declared.query.SelectItems.{SelectItems}
use Rattle.wat_ast.specs.declared.query.SelectItems.TheVariants as shown
use Rattle.wat_ast.specs.declared.query.Source.{Source}
use Rattle.wat_ast.specs.declared.query.OrderBy.{OrderBy}
use Rattle.wat_ast.specs.declared.query.OrderBy.TheVariants.{Column, Position}
use Rattle.wat_ast.specs.declared.query.OrderItem.{OrderItem}
use Rattle.wat_ast.specs.declared.query.Query.{Query}
use Rattle.wat_ast.specs.declared.statement.TypeName.{TypeName}
use Rattle.wat_ast.specs.declared.statement.TypeName.TheVariants as type_name
use Rattle.wat_ast.specs.declared.statement.Element.{Element}
use Rattle.wat_ast.specs.declared.statement.Element.TheVariants as element
use Rattle.wat_ast.specs.declared.statement.SetItem.{SetItem}
use Rattle.wat_ast.specs.declared.statement.InsertSource.{InsertSource}
use Rattle.wat_ast.specs.declared.statement.InsertSource.TheVariants as from
use Rattle.wat_ast.specs.declared.statement.Statement.{Statement}
use Rattle.wat_ast.specs.declared.statement.Statement.TheVariants as s
use Rattle.wat_syntax.specs.Members.{has_members}
use Rattle.wat_syntax.specs.Sql.{max_nesting}
use Rattle.wat_spell.specs.Spelling.{spelled}
use Rattle.wat_spell_laws.specs.AsRead.{as_read}
use Rattle.wat_spell_laws.specs.Derived.{is_parsable, is_parsable_table}

abbrev pub is_readable_expression : Expr → Bool
is_readable_expression x = is_parsable (as_read x) && nat_le (spelled x).levels max_nesting

-- one at least, and each of them so
abbrev pub are_all : {A : Type 0} → (A → Bool) → List A → Bool
are_all p xs = has_members xs && list_all p xs

-- so, where there is one
abbrev pub is_so : {A : Type 0} → (A → Bool) → Option A → Bool
is_so p None = true
is_so p (Some a) = p a

-- a number that is not below zero
abbrev pub is_count : ℤ → Bool
is_count (pos n) = nat_lt n (2 ^ 63)
is_count (negsuc n) = false

-- ---- queries

abbrev pub is_column_at : Expr-F Bool → Bool
is_column_at (Expr-F.Literal v) = false
is_column_at (Expr-F.Named table n) = is_parsable_table table && is_name n
is_column_at (Expr-F.Placed source column) = false
is_column_at (Expr-F.Unary op a) = false
is_column_at (Expr-F.Binary op l r) = false
is_column_at (Expr-F.IsNull a negated) = false
is_column_at (Expr-F.Between a low high negated) = false
is_column_at (Expr-F.InList a items negated) = false
is_column_at (Expr-F.Aggregate kind arg) = false

-- a column as it is written
unfoldable pub is_column : Expr → Bool
is_column = fold-Expr Bool is_column_at

abbrev pub are_readable_items : SelectItems → Bool
are_readable_items shown.Star = true
are_readable_items (shown.List xs) = are_all is_readable_expression xs

abbrev pub is_readable_source : Source → Bool
is_readable_source x = is_name x.table && is_so is_name x.alias

abbrev pub is_readable_order : OrderBy → Bool
is_readable_order (Column x) = is_column x
is_readable_order (Position n) = is_count n

abbrev pub is_readable_order_item : OrderItem → Bool
is_readable_order_item x = is_readable_order x.by

abbrev pub is_readable_query : Query → Bool
is_readable_query q =
    are_readable_items q.items && (are_all is_readable_source q.sources && (is_so is_readable_expression q.filter
    && (list_all is_column q.group && (is_so is_readable_expression q.having && list_all is_readable_order_item q.order))))

-- ---- statements

abbrev pub is_readable_type : TypeName → Bool
is_readable_type type_name.Integer = true
is_readable_type (type_name.Char size) = is_count size
is_readable_type (type_name.Varchar size) = is_count size

abbrev pub is_readable_element : Element → Bool
is_readable_element (element.Column n kind nullable key) = is_name n && is_readable_type kind
is_readable_element (element.Key columns) = are_all is_name columns

abbrev pub are_readable_rows : InsertSource → Bool
are_readable_rows (from.Values xs) = are_all is_readable_expression xs
are_readable_rows (from.Answer q) = is_readable_query q

abbrev pub is_readable_set : SetItem → Bool
is_readable_set x = is_name x.name && is_readable_expression x.value

abbrev pub is_readable : Statement → Bool
is_readable (s.CreateTable n elements) = is_name n && are_all is_readable_element elements
is_readable (s.CreateIndex n table columns) = is_name n && (is_name table && are_all is_name columns)
is_readable (s.DropTable n) = is_name n
is_readable (s.Insert table columns rows) = is_name table && (is_so (are_all is_name) columns && are_readable_rows rows)
is_readable (s.Update table sets filter) = is_name table && (are_all is_readable_set sets && is_so is_readable_expression filter)
is_readable (s.Delete table filter) = is_name table && is_so is_readable_expression filter
is_readable (s.Select q) = is_readable_query q
is_readable s.Commit = true
is_readable s.Checkpoint = true
is_readable s.Rollback = true
is_readable (s.RollbackTo n) = is_name n
is_readable (s.Savepoint n) = is_name n
is_readable (s.Release n) = is_name n
is_readable (s.SetLevel level) = nat_lt level 4
is_readable (s.SetBlocking on) = true
