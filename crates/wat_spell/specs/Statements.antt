-- The tokens that spell a statement, and its text.
use Rattle.std.specs.Prelude.{ℕ, ℤ, Bool, true, false, not, List, [], ◌∷◌, ◌++◌, Option, Some, None}
use Rattle.wat_word.specs.declared.keyword.Keyword.{Keyword}
use Rattle.wat_word.specs.declared.keyword.Keyword.TheVariants as w
use Rattle.wat_ast.specs.declared.expression.Expr.{Expr}
use Rattle.wat_ast.specs.declared.query.SelectItems.{SelectItems}
use Rattle.wat_ast.specs.declared.query.SelectItems.TheVariants as items
use Rattle.wat_ast.specs.declared.query.Source.{Source}
use Rattle.wat_ast.specs.declared.query.OrderBy.{OrderBy}
use Rattle.wat_ast.specs.declared.query.OrderBy.TheVariants.{Column, Position}
use Rattle.wat_ast.specs.declared.query.OrderItem.{OrderItem}
use Rattle.wat_ast.specs.declared.query.Query.{Query}
use Rattle.wat_ast.specs.declared.statement.TypeName.{TypeName}
use Rattle.wat_ast.specs.declared.statement.TypeName.TheVariants as type_name
use Rattle.wat_ast.specs.declared.statement.Element.{Element}
use Rattle.wat_ast.specs.declared.statement.Element.TheVariants as element
use Rattle.wat_ast.specs.declared.statement.SetItem.{SetItem}
use Rattle.wat_ast.specs.declared.statement.InsertSource.{InsertSource}
use Rattle.wat_ast.specs.declared.statement.InsertSource.TheVariants as source
use Rattle.wat_ast.specs.declared.statement.Statement.{Statement}
use Rattle.wat_ast.specs.declared.statement.Statement.TheVariants as statement
use Rattle.wat_spell.specs.declared.symbol.Symbol.TheVariants as s
use Rattle.wat_spell.specs.Tokens.{Token, word, name, number, symbol, written}
use Rattle.wat_spell.specs.Spelling.{integer, tokens_if, with_commas, by, expression}

-- in parentheses, with commas between
abbrev pub in_parentheses : {X : Type 0} → (X → List Token) → List X → List Token
in_parentheses f xs = symbol s.Open ∷ (with_commas f xs ++ symbol s.Close ∷ [])

abbrev pub name_tokens : List ℕ → List Token
name_tokens n = name n ∷ []

-- ---- queries

abbrev pub select_items : SelectItems → List Token
select_items items.Star = symbol s.Star ∷ []
select_items (items.List xs) = with_commas expression xs

abbrev pub alias : Option (List ℕ) → List Token
alias None = []
alias (Some n) = name n ∷ []

abbrev pub source_tokens : Source → List Token
source_tokens x = name x.table ∷ alias x.alias

abbrev pub order_by : OrderBy → List Token
order_by (Column x) = expression x
order_by (Position n) = integer n ∷ []

abbrev pub order_item : OrderItem → List Token
order_item x = order_by x.by ++ tokens_if x.descending (word w.Desc ∷ [])

-- WHERE or HAVING, with a condition
abbrev pub condition : Keyword → Option Expr → List Token
condition keyword None = []
condition keyword (Some x) = word keyword ∷ expression x

abbrev pub query : Query → List Token
query q =
    word w.Select ∷ (tokens_if q.distinct (word w.Distinct ∷ []) ++ (select_items q.items ++ word w.From ∷ (with_commas source_tokens q.sources
    ++ (condition w.Where q.filter ++ (by w.Group expression q.group ++ (condition w.Having q.having ++ by w.Order order_item q.order))))))

-- ---- other statements

-- a type with its length right behind its word
abbrev pub sized : Keyword → ℤ → List Token
sized keyword size = word keyword ∷ symbol s.OpenTight ∷ integer size ∷ symbol s.Close ∷ []

abbrev pub type_tokens : TypeName → List Token
type_tokens type_name.Integer = word w.Integer ∷ []
type_tokens (type_name.Char size) = sized w.Char size
type_tokens (type_name.Varchar size) = sized w.Varchar size

-- NOT NULL exactly where the column is not nullable, and PRIMARY KEY behind it
abbrev pub column_rules : Bool → Bool → List Token
column_rules nullable key = tokens_if (not nullable) (word w.Not ∷ word w.Null ∷ []) ++ tokens_if key (word w.Primary ∷ word w.Key ∷ [])

abbrev pub element_tokens : Element → List Token
element_tokens (element.Column n kind nullable key) = name n ∷ (type_tokens kind ++ column_rules nullable key)
element_tokens (element.Key ns) = word w.Primary ∷ word w.Key ∷ in_parentheses name_tokens ns

abbrev pub set_item : SetItem → List Token
set_item x = name x.name ∷ symbol s.Equal ∷ expression x.value

abbrev pub create_table : List ℕ → List Element → List Token
create_table n elements = word w.Create ∷ word w.Table ∷ name n ∷ in_parentheses element_tokens elements

abbrev pub create_index : List ℕ → List ℕ → List (List ℕ) → List Token
create_index n table columns = word w.Create ∷ word w.Index ∷ name n ∷ word w.On ∷ name table ∷ in_parentheses name_tokens columns

abbrev pub drop_table : List ℕ → List Token
drop_table n = word w.Drop ∷ word w.Table ∷ name n ∷ []

abbrev pub insert_columns : Option (List (List ℕ)) → List Token
insert_columns None = []
insert_columns (Some ns) = in_parentheses name_tokens ns

abbrev pub insert_source : InsertSource → List Token
insert_source (source.Values xs) = word w.Values ∷ in_parentheses expression xs
insert_source (source.Answer q) = query q

abbrev pub insert : List ℕ → Option (List (List ℕ)) → InsertSource → List Token
insert table columns rows = word w.Insert ∷ word w.Into ∷ name table ∷ (insert_columns columns ++ insert_source rows)

abbrev pub update : List ℕ → List SetItem → Option Expr → List Token
update table sets filter = word w.Update ∷ name table ∷ word w.Set ∷ (with_commas set_item sets ++ condition w.Where filter)

abbrev pub delete : List ℕ → Option Expr → List Token
delete table filter = word w.Delete ∷ word w.From ∷ name table ∷ condition w.Where filter

abbrev pub rollback_to : List ℕ → List Token
rollback_to n = word w.Rollback ∷ word w.To ∷ word w.Savepoint ∷ name n ∷ []

abbrev pub savepoint : List ℕ → List Token
savepoint n = word w.Savepoint ∷ name n ∷ []

abbrev pub release : List ℕ → List Token
release n = word w.Release ∷ word w.Savepoint ∷ name n ∷ []

-- SET TEMPORARY OPTION and an option, before its value
abbrev pub setting : Keyword → List Token
setting option = word w.Set ∷ word w.Temporary ∷ word w.Option ∷ word option ∷ symbol s.Equal ∷ []

abbrev pub set_level : ℕ → List Token
set_level level = setting w.IsolationLevel ++ number level ∷ []

abbrev pub switch : Bool → Keyword
switch true = w.On
switch false = w.Off

abbrev pub set_blocking : Bool → List Token
set_blocking on = setting w.Blocking ++ word (switch on) ∷ []

abbrev pub statement_tokens : Statement → List Token
statement_tokens (statement.CreateTable n elements) = create_table n elements
statement_tokens (statement.CreateIndex n table columns) = create_index n table columns
statement_tokens (statement.DropTable n) = drop_table n
statement_tokens (statement.Insert table columns rows) = insert table columns rows
statement_tokens (statement.Update table sets filter) = update table sets filter
statement_tokens (statement.Delete table filter) = delete table filter
statement_tokens (statement.Select q) = query q
statement_tokens statement.Commit = word w.Commit ∷ []
statement_tokens statement.Checkpoint = word w.Checkpoint ∷ []
statement_tokens statement.Rollback = word w.Rollback ∷ []
statement_tokens (statement.RollbackTo n) = rollback_to n
statement_tokens (statement.Savepoint n) = savepoint n
statement_tokens (statement.Release n) = release n
statement_tokens (statement.SetLevel level) = set_level level
statement_tokens (statement.SetBlocking on) = set_blocking on

-- the text that spells a statement
abbrev pub spelled_text : Statement → List ℕ
spelled_text x = written (statement_tokens x)
