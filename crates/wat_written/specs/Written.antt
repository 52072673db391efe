-- The statement that writes an act, as text of SQL has it, by the schema that the act is made over.
use Rattle.std.specs.Prelude.{ℕ, pos, ◌==◌, Bool, false, List, [], ◌∷◌, ◌++◌, map, length, Option, Some, None, slice_get, if◌then◌else◌}
use Rattle.std.specs.List.{list_any, filter_map, fold, range_with_len}
use Rattle.std.specs.Option.{option_map, option_and_then}
use Rattle.wat_value.specs.declared.value.Value.{Value}
use Rattle.wat_value.specs.declared.definition.Kind.{Kind}
use Rattle.wat_value.specs.declared.definition.Kind.TheVariants as kind
use Rattle.wat_value.specs.declared.definition.Column.{Column}
use Rattle.wat_value.specs.declared.definition.TableDef.{TableDef}
use Rattle.wat_value.specs.declared.definition.IndexDef.{IndexDef}
use Rattle.wat_value.specs.declared.change.Change.{Change}
use Rattle.wat_value.specs.declared.change.Change.TheVariants as change
use Rattle.wat_value.specs.declared.change.SchemaChange.{SchemaChange}
use Rattle.wat_value.specs.declared.change.SchemaChange.TheVariants as schema
use Rattle.wat_value.specs.declared.change.Act.{Act}
use Rattle.wat_value.specs.declared.change.Act.TheVariants.{OnRow, OnSchema}
use Rattle.wat_value.specs.Changes.{changed_table}
use Rattle.wat_value.specs.Fits.{value_in}
use Rattle.wat_ast.specs.declared.expression.BinaryOp.TheVariants.{And, Equal}
use Rattle.wat_ast.specs.declared.expression.Expr.{Expr}
use Rattle.wat_ast.specs.declared.expression.Expr.TheVariants.{Literal, Named, Binary}
use Rattle.wat_ast.specs.declared.statement.TypeName.{TypeName}
use Rattle.wat_ast.specs.declared.statement.TypeName.TheVariants as type
use Rattle.wat_ast.specs.declared.statement.Element.{Element}
use Rattle.wat_ast.specs.declared.statement.Element.TheVariants as element
use Rattle.wat_ast.specs.declared.statement.SetItem.{SetItem}
use Rattle.wat_ast.specs.declared.statement.InsertSource.TheVariants.{Values}
use Rattle.wat_ast.specs.declared.statement.Statement.{Statement}
use Rattle.wat_ast.specs.declared.statement.Statement.TheVariants as statement
use Rattle.wat_schema.specs.Catalog.{Name, Catalog, def_at}

-- ---- columns by number

abbrev pub name_at : TableDef → ℕ → Option Name
name_at def number = option_map (λ column. column.name) (slice_get def.columns number)

abbrev pub names_at : TableDef → List ℕ → List Name
names_at def numbers = filter_map (name_at def) numbers

abbrev pub is_key : TableDef → ℕ → Bool
is_key def number = list_any (λ key. key == number) def.key

-- ---- values

abbrev pub literals : List Value → List Expr
literals row = map Literal row

-- c = V
abbrev pub equals : Name → Value → Expr
equals name value = Binary Equal (Named None name) (Literal value)

-- the column has the value that the row has
abbrev pub test_of : TableDef → List Value → ℕ → Option Expr
test_of def row number = option_map (λ name. equals name (value_in row number)) (name_at def number)

-- all of these, with AND between
abbrev pub all_of : List Expr → Option Expr
all_of [] = None
all_of (test ∷ tests) = Some (fold (Binary And) test tests)

-- k = V AND .., with the columns of the primary key in its order: the row with the key of this one
abbrev pub where_key : TableDef → List Value → Option Expr
where_key def row = all_of (filter_map (test_of def row) def.key)

-- c = V, for SET
abbrev pub set_of : TableDef → List Value → ℕ → Option SetItem
set_of def row number = option_map (λ name. record { name = name; value = Literal (value_in row number) }) (name_at def number)

-- a column of the primary key is not set
abbrev pub set_unless_key : TableDef → List Value → ℕ → Option SetItem
set_unless_key def row number = if is_key def number then None else set_of def row number

-- each column outside the primary key, in table order, with the value that the row has
abbrev pub sets_of : TableDef → List Value → List SetItem
sets_of def row = filter_map (set_unless_key def row) (range_with_len 0 (length def.columns))

-- ---- changes of rows

-- Where no column is set there is no UPDATE.
abbrev pub update : Name → List SetItem → Option Expr → Option Statement
update name [] test = None
update name (set ∷ sets) test = Some (statement.Update name (set ∷ sets) test)

-- the statement of a change of a table with this definition: an Update of a table whose columns are all key columns has none
abbrev pub statement_of_change : TableDef → Change → Option Statement
statement_of_change def (change.Insert table row) = Some (statement.Insert def.name None (Values (literals row)))
statement_of_change def (change.Update table before after) = update def.name (sets_of def after) (where_key def before)
statement_of_change def (change.Delete table before) = Some (statement.Delete def.name (where_key def before))

-- ---- changes of the schema

abbrev pub type_of : Kind → TypeName
type_of kind.Integer = type.Integer
type_of (kind.Char n) = type.Char (pos n)
type_of (kind.Varchar n) = type.Varchar (pos n)

-- c TYPE, with NOT NULL exactly where the column does not take Null
abbrev pub column_element : Column → Element
column_element column = element.Column column.name (type_of column.kind) column.nullable false

-- CREATE TABLE t (c TYPE .., PRIMARY KEY (k, ..))
abbrev pub create_table : TableDef → Statement
create_table def = statement.CreateTable def.name (map column_element def.columns ++ element.Key (names_at def def.key) ∷ [])

-- CREATE INDEX i ON t (c, ..)
abbrev pub create_index : IndexDef → TableDef → Statement
create_index index def = statement.CreateIndex index.name def.name (names_at def index.columns)

abbrev pub statement_of_schema : Catalog → SchemaChange → Option Statement
statement_of_schema c (schema.CreateTable def) = Some (create_table def)
statement_of_schema c (schema.DropTable table) = option_map (λ def. statement.DropTable def.name) (def_at c table)
statement_of_schema c (schema.CreateIndex index) = option_map (create_index index) (def_at c index.table)

-- The statement that writes an act over this schema. There is none for an act of a table that does not stand, and none for an Update of key columns
-- alone, which changes nothing.
abbrev pub statement_of : Catalog → Act → Option Statement
statement_of c (OnRow change) = option_and_then (λ def. statement_of_change def change) (def_at c (changed_table change))
statement_of c (OnSchema change) = statement_of_schema c change
