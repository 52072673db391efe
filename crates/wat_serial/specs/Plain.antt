-- INSERT of a row that is written as literals and fits its table. Only functions within the crate cite this.
use Rattle.std.specs.Prelude.{◌≡◌, ℕ, true, List, [], ◌∷◌, map, Some, None}
use Rattle.wat_value.specs.declared.value.Value.{Value}
use Rattle.wat_value.specs.declared.change.Change.TheVariants as change
use Rattle.wat_value.specs.declared.change.Act.TheVariants.{OnRow}
use Rattle.wat_value.specs.Fits.{fits}
use Rattle.wat_ast.specs.declared.expression.Expr.{Expr}
use Rattle.wat_ast.specs.declared.expression.Expr.TheVariants.{Literal}
use Rattle.wat_ast.specs.declared.statement.InsertSource.TheVariants.{Values}
use Rattle.wat_ast.specs.declared.statement.Statement.{Statement}
use Rattle.wat_ast.specs.declared.statement.Statement.TheVariants.{Insert}
use Rattle.wat_schema.specs.Catalog.{Name}
use Rattle.wat_schema.specs.Tables.{Row, Table, Tables, table_at}
use Rattle.wat_names.specs.Refusals.{first}
use Rattle.wat_meaning.specs.declared.reply.Meaning.{Meaning}
use Rattle.wat_meaning.specs.declared.reply.Reply.TheVariants.{Inserted}
use Rattle.wat_meaning.specs.Meaning.{meaning, stands_already, unless_refused}
use Rattle.wat_serial.specs.Changing.{with_acts}

-- the values as they are written
abbrev pub literals : List Value → List Expr
literals row = map Literal row

-- INSERT INTO name VALUES of these
abbrev pub insert_of : Name → List Expr → Statement
insert_of name exprs = Insert name None (Values exprs)

-- The row is inserted, unless one with its key stands.
abbrev pub row_inserted : Table → Row → Meaning
row_inserted x row = unless_refused (first (stands_already (Some x) row)) (with_acts (Inserted 1) (OnRow (change.Insert x.def.number row) ∷ []))

-- the number of the table, and the row that these literals write, which fits it
pub record IsRowOf (x : Table) (exprs : List Expr) (number : ℕ) (row : Row) : Type 0 where
  pub numbered : number ≡ x.def.number
  pub written : exprs ≡ literals row
  pub fit : fits x.def row ≡ true

-- The table with the number stands, the row fits it, and the statement means that the row is inserted there.
pub record IsPlain (t : Tables) (s : Statement) (number : ℕ) (row : Row) : Type 0 where
  pub table : Table
  pub stands : table_at t number ≡ Some table
  pub fit : fits table.def row ≡ true
  pub means : meaning t s ≡ row_inserted table row

-- The literals write a row that fits the table, and this is what inserting it means.
pub record MeansRow (x : Table) (exprs : List Expr) (m : Meaning) : Type 0 where
  pub row : Row
  pub written : exprs ≡ literals row
  pub fit : fits x.def row ≡ true
  pub is : m ≡ row_inserted x row
