-- The lists of a statement, none of which a text leaves empty.
use Rattle.std.specs.Prelude.{ℕ, Bool, true, false, ◌&&◌, List, [], ◌∷◌, Option, Some, None}
use Rattle.std.specs.List.{list_all}
use Rattle.wat_ast.specs.declared.query.SelectItems.{SelectItems}
use Rattle.wat_ast.specs.declared.query.SelectItems.TheVariants as shown
use Rattle.wat_ast.specs.declared.query.Query.{Query}
use Rattle.wat_ast.specs.declared.statement.Element.{Element}
use Rattle.wat_ast.specs.declared.statement.Element.TheVariants as element
use Rattle.wat_ast.specs.declared.statement.InsertSource.{InsertSource}
use Rattle.wat_ast.specs.declared.statement.InsertSource.TheVariants as from
use Rattle.wat_ast.specs.declared.statement.Statement.{Statement}
use Rattle.wat_ast.specs.declared.statement.Statement.TheVariants as s

abbrev pub has_members : {A : Type 0} → List A → Bool
has_members [] = false
has_members (x ∷ xs) = true

-- where there is a list, it has members
abbrev pub has_members_or_none : {A : Type 0} → Option (List A) → Bool
has_members_or_none None = true
has_members_or_none (Some xs) = has_members xs

-- a PRIMARY KEY of a table has columns
abbrev pub element_has_members : Element → Bool
element_has_members (element.Column n kind nullable key) = true
element_has_members (element.Key columns) = has_members columns

abbrev pub items_have_members : SelectItems → Bool
items_have_members shown.Star = true
items_have_members (shown.List xs) = has_members xs

abbrev pub query_has_members : Query → Bool
query_has_members q = items_have_members q.items && has_members q.sources

abbrev pub source_has_members : InsertSource → Bool
source_has_members (from.Values xs) = has_members xs
source_has_members (from.Answer q) = query_has_members q

-- The elements of a table, the columns of a key and of an index, those that INSERT names, its values, what SET changes,
-- what SELECT shows and where it is from: each has one at least.
abbrev pub lists_have_members : Statement → Bool
lists_have_members (s.CreateTable n elements) = has_members elements && list_all element_has_members elements
lists_have_members (s.CreateIndex n table columns) = has_members columns
lists_have_members (s.DropTable n) = true
lists_have_members (s.Insert table columns rows) = has_members_or_none columns && source_has_members rows
lists_have_members (s.Update table sets filter) = has_members sets
lists_have_members (s.Delete table filter) = true
lists_have_members (s.Select q) = query_has_members q
lists_have_members s.Commit = true
lists_have_members s.Checkpoint = true
lists_have_members s.Rollback = true
lists_have_members (s.RollbackTo n) = true
lists_have_members (s.Savepoint n) = true
lists_have_members (s.Release n) = true
lists_have_members (s.SetLevel level) = true
lists_have_members (s.SetBlocking on) = true
