-- Statements over small tables, and what they mean there.
use Rattle.std.specs.Prelude.{◌≡◌, ℕ, pos, negsuc, true, false, List, [], ◌∷◌, Option, Some, None, codes}
use Rattle.wat_value.specs.declared.value.Value.{Value}
use Rattle.wat_value.specs.declared.value.Value.TheVariants.{Null, Int, Text}
use Rattle.wat_value.specs.declared.definition.Kind.TheVariants as kind
use Rattle.wat_value.specs.declared.definition.TableDef.{TableDef}
use Rattle.wat_value.specs.declared.change.Change.TheVariants as change
use Rattle.wat_value.specs.declared.change.SchemaChange.TheVariants as schema
use Rattle.wat_value.specs.declared.change.Act.TheVariants.{OnRow, OnSchema}
use Rattle.wat_ast.specs.declared.expression.Expr.{Expr}
use Rattle.wat_ast.specs.declared.expression.Expr.TheVariants as e
use Rattle.wat_ast.specs.declared.expression.BinaryOp.TheVariants as op
use Rattle.wat_ast.specs.declared.expression.UnaryOp.TheVariants as unary
use Rattle.wat_ast.specs.declared.expression.AggregateKind.TheVariants as aggregate
use Rattle.wat_ast.specs.declared.query.Source.{Source}
use Rattle.wat_ast.specs.declared.query.OrderItem.{OrderItem}
use Rattle.wat_ast.specs.declared.query.OrderBy.TheVariants as by
use Rattle.wat_ast.specs.declared.query.Query.{Query}
use Rattle.wat_ast.specs.declared.query.SelectItems.TheVariants as items
use Rattle.wat_ast.specs.declared.statement.Element.TheVariants as element
use Rattle.wat_ast.specs.declared.statement.InsertSource.TheVariants.{Values, Answer}
use Rattle.wat_ast.specs.declared.statement.SetItem.{SetItem}
use Rattle.wat_ast.specs.declared.statement.Statement.TheVariants.{CreateTable, CreateIndex, DropTable, Insert, Update, Delete, Select}
use Rattle.wat_ast.specs.declared.statement.TypeName.TheVariants as type
use Rattle.wat_schema.specs.declared.refusal.Refusal.TheVariants.{NoTable, NoColumn, WrongType, KeyAssigned, Arithmetic, NullValue, OutOfRange, TooLong, Duplicate}
use Rattle.wat_schema.specs.Tables.{Row, Tables, no_tables, apply_all}
use Rattle.std.specs.Option.{option_map}
use Rattle.wat_value.specs.declared.change.Act.{Act}
use Rattle.wat_meaning.specs.declared.reply.Meaning.{Meaning}
use Rattle.wat_meaning.specs.declared.reply.Reply.{Reply}
use Rattle.wat_meaning.specs.declared.reply.Reply.TheVariants.{Rows, Inserted, Updated, Deleted, Created, Dropped}
use Rattle.wat_meaning.specs.Meaning.{refusal_meaning, meaning}

-- ---- expressions and statements

abbrev pub int : ℕ → Expr
int n = e.Literal (Int (pos n))

abbrev pub text : List ℕ → Expr
text t = e.Literal (Text t)

abbrev pub null : Expr
null = e.Literal Null

abbrev pub column : List ℕ → Expr
column name = e.Named None name

abbrev pub k : Expr
k = column (codes "k")

abbrev pub v : Expr
v = column (codes "v")

abbrev pub s : Expr
s = column (codes "s")

abbrev pub a : Expr
a = column (codes "a")

abbrev pub b : Expr
b = column (codes "b")

abbrev pub c : Expr
c = column (codes "c")

abbrev pub set : List ℕ → Expr → SetItem
set name value = record { name = name; value = value }

abbrev pub source : List ℕ → Source
source name = record { table = name; alias = None }

-- a column of the source with that name
abbrev pub of : List ℕ → List ℕ → Expr
of qualifier name = e.Named (Some qualifier) name

abbrev pub called : List ℕ → List ℕ → Source
called table alias = record { table = table; alias = Some alias }

-- SELECT .. FROM .. WHERE .. ORDER BY ..
abbrev pub query : List Expr → List Source → Option Expr → List OrderItem → Query
query shown sources filter order =
    record { distinct = false; items = items.List shown; sources = sources; filter = filter; group = []; having = None; order = order }

-- ---- the tables

-- t (k INTEGER PRIMARY KEY, v INTEGER NOT NULL, s VARCHAR(3))
abbrev pub t_def : TableDef
t_def = record {
  number = 1;
  name = codes "t";
  columns =
      record { name = codes "k"; kind = kind.Integer; nullable = false }
      ∷ record { name = codes "v"; kind = kind.Integer; nullable = false }
      ∷ record { name = codes "s"; kind = kind.Varchar 3; nullable = true }
      ∷ [];
  key = 0 ∷ [];
}

-- u (a INTEGER PRIMARY KEY, b INTEGER, c INTEGER)
abbrev pub u_def : TableDef
u_def = record {
  number = 2;
  name = codes "u";
  columns =
      record { name = codes "a"; kind = kind.Integer; nullable = false }
      ∷ record { name = codes "b"; kind = kind.Integer; nullable = true }
      ∷ record { name = codes "c"; kind = kind.Integer; nullable = true }
      ∷ [];
  key = 0 ∷ [];
}

abbrev pub row : Value → Value → Value → Row
row x y z = x ∷ y ∷ z ∷ []

abbrev pub n : ℕ → Value
n x = Int (pos x)

-- t has the rows (1, 10, 'a'), (3, 30, NULL) and (5, 50, 'c'), and u has (1, 10, 20) and (2, 30, NULL)
abbrev pub base : Tables
base = record {
  tables =
      record { def = t_def; indexes = []; rows = row (n 1) (n 10) (Text (codes "a")) ∷ row (n 3) (n 30) Null ∷ row (n 5) (n 50) (Text (codes "c")) ∷ [] }
      ∷ record { def = u_def; indexes = []; rows = row (n 1) (n 10) (n 20) ∷ row (n 2) (n 30) Null ∷ [] }
      ∷ [];
  next = 3;
}

-- w (x INTEGER PRIMARY KEY, y CHAR(2)), with the next number
abbrev pub w_def : TableDef
w_def = record {
  number = 3;
  name = codes "w";
  columns = record { name = codes "x"; kind = kind.Integer; nullable = false } ∷ record { name = codes "y"; kind = kind.Char 2; nullable = true } ∷ [];
  key = 0 ∷ [];
}

-- p (a INTEGER NOT NULL, b INTEGER NOT NULL, v INTEGER, PRIMARY KEY (b, a)), with the rows (2, 1, 0) and (1, 2, 0)
abbrev pub paired : Tables
paired = record {
  tables =
      record {
        def = record {
          number = 1;
          name = codes "p";
          columns =
              record { name = codes "a"; kind = kind.Integer; nullable = false }
              ∷ record { name = codes "b"; kind = kind.Integer; nullable = false }
              ∷ record { name = codes "v"; kind = kind.Integer; nullable = true }
              ∷ [];
          key = 1 ∷ 0 ∷ [];
        };
        indexes = [];
        rows = row (n 2) (n 1) (n 0) ∷ row (n 1) (n 2) (n 0) ∷ [];
      }
      ∷ [];
  next = 2;
}

-- an answer with its acts
abbrev pub meant : Reply → List Act → Meaning
meant reply acts = record { answer = reply; acts = acts }

-- ---- INSERT

pub record InsertCases : Type 0 where
  -- INSERT INTO t VALUES (2, 20, 'b')
  pub a_row : meaning base (Insert (codes "t") None (Values (int 2 ∷ int 20 ∷ text (codes "b") ∷ [])))
      ≡ meant (Inserted 1) (OnRow (change.Insert 1 (row (n 2) (n 20) (Text (codes "b")))) ∷ [])
  -- INSERT INTO t (v, k) VALUES (20, 2): a column that is not named is Null
  pub columns_in_any_order : meaning base (Insert (codes "t") (Some (codes "v" ∷ codes "k" ∷ [])) (Values (int 20 ∷ int 2 ∷ [])))
      ≡ meant (Inserted 1) (OnRow (change.Insert 1 (row (n 2) (n 20) Null)) ∷ [])
  -- INSERT INTO t SELECT k + 1, v, s FROM t WHERE k > 1 ORDER BY k DESC: in the order of the query
  pub rows_of_a_query : meaning base (Insert (codes "t") None (Answer (query (e.Binary op.Add k (int 1) ∷ v ∷ s ∷ []) (source (codes "t") ∷ []) (Some (e.Binary op.Greater k (int 1))) (record { by = by.Column (column (codes "k")); descending = true } ∷ []))))
      ≡ meant (Inserted 2) (OnRow (change.Insert 1 (row (n 6) (n 50) (Text (codes "c")))) ∷ OnRow (change.Insert 1 (row (n 4) (n 30) Null)) ∷ [])
  -- INSERT INTO t (k) VALUES (2)
  pub no_null : meaning base (Insert (codes "t") (Some (codes "k" ∷ [])) (Values (int 2 ∷ [])))
      ≡ refusal_meaning (NullValue (codes "v"))
  -- INSERT INTO t VALUES (-2147483648, 2147483647, 'abc')
  pub the_limits : meaning base (Insert (codes "t") None (Values (e.Unary unary.Minus (int 2147483648) ∷ int 2147483647 ∷ text (codes "abc") ∷ [])))
      ≡ meant (Inserted 1) (OnRow (change.Insert 1 (row (Int (negsuc 2147483647)) (n 2147483647) (Text (codes "abc")))) ∷ [])
  -- INSERT INTO t VALUES (2, 2147483648, NULL)
  pub above_the_limit : meaning base (Insert (codes "t") None (Values (int 2 ∷ int 2147483648 ∷ null ∷ [])))
      ≡ refusal_meaning (OutOfRange (codes "v"))
  -- INSERT INTO t VALUES (2, -2147483649, NULL)
  pub below_the_limit : meaning base (Insert (codes "t") None (Values (int 2 ∷ e.Unary unary.Minus (int 2147483649) ∷ null ∷ [])))
      ≡ refusal_meaning (OutOfRange (codes "v"))
  -- INSERT INTO t VALUES (2, 20, 'abcd')
  pub too_long : meaning base (Insert (codes "t") None (Values (int 2 ∷ int 20 ∷ text (codes "abcd") ∷ [])))
      ≡ refusal_meaning (TooLong (codes "s"))
  -- INSERT INTO t VALUES (2, 20, 'éé'): four bytes, not two characters
  pub too_many_bytes : meaning base (Insert (codes "t") None (Values (int 2 ∷ int 20 ∷ text (195 ∷ 169 ∷ 195 ∷ 169 ∷ []) ∷ [])))
      ≡ refusal_meaning (TooLong (codes "s"))
  -- INSERT INTO t (s, v, k) VALUES ('abcd', NULL, 2147483648): the first in the order of the table
  pub the_first_column_that_fails : meaning base (Insert (codes "t") (Some (codes "s" ∷ codes "v" ∷ codes "k" ∷ [])) (Values (text (codes "abcd") ∷ null ∷ int 2147483648 ∷ [])))
      ≡ refusal_meaning (OutOfRange (codes "k"))
  -- INSERT INTO t SELECT k + 10, v * 50000000, s || 'bcd' FROM t: the first row has too long a text, and the last one too great a number
  pub the_first_row_that_fails : meaning base (Insert (codes "t") None (Answer (query (e.Binary op.Add k (int 10) ∷ e.Binary op.Multiply v (int 50000000) ∷ e.Binary op.Concat s (text (codes "bcd")) ∷ []) (source (codes "t") ∷ []) None [])))
      ≡ refusal_meaning (TooLong (codes "s"))
  -- INSERT INTO t VALUES (3, 0, NULL)
  pub a_key_that_stands : meaning base (Insert (codes "t") None (Values (int 3 ∷ int 0 ∷ null ∷ [])))
      ≡ refusal_meaning (Duplicate (n 3 ∷ []))
  -- INSERT INTO t SELECT 7, b, NULL FROM u
  pub a_key_of_an_earlier_row : meaning base (Insert (codes "t") None (Answer (query (int 7 ∷ b ∷ null ∷ []) (source (codes "u") ∷ []) None [])))
      ≡ refusal_meaning (Duplicate (n 7 ∷ []))
  -- INSERT INTO t SELECT k, v, s FROM t: each key stands, and the first one is named
  pub the_first_key_that_stands : meaning base (Insert (codes "t") None (Answer (query (k ∷ v ∷ s ∷ []) (source (codes "t") ∷ []) None [])))
      ≡ refusal_meaning (Duplicate (n 1 ∷ []))
  -- INSERT INTO t SELECT k, v * 50000000, s FROM t: each key stands, and the last row has too great a number
  pub columns_before_keys : meaning base (Insert (codes "t") None (Answer (query (k ∷ e.Binary op.Multiply v (int 50000000) ∷ s ∷ []) (source (codes "t") ∷ []) None [])))
      ≡ refusal_meaning (OutOfRange (codes "v"))
  -- INSERT INTO t SELECT k + 10, v / (k - 3), s FROM t: the second row fails
  pub arithmetic_of_the_query : meaning base (Insert (codes "t") None (Answer (query (e.Binary op.Add k (int 10) ∷ e.Binary op.Divide v (e.Binary op.Subtract k (int 3)) ∷ s ∷ []) (source (codes "t") ∷ []) None [])))
      ≡ refusal_meaning Arithmetic
  -- INSERT INTO t VALUES (NULL, 1 / 0, NULL)
  pub arithmetic_before_columns : meaning base (Insert (codes "t") None (Values (null ∷ e.Binary op.Divide (int 1) (int 0) ∷ null ∷ [])))
      ≡ refusal_meaning Arithmetic

-- ---- UPDATE and DELETE

pub record UpdateCases : Type 0 where
  -- UPDATE t SET v = 10 WHERE k < 4: also a row that stays as it was
  pub each_row_in_key_order : meaning base (Update (codes "t") (set (codes "v") (int 10) ∷ []) (Some (e.Binary op.Less k (int 4))))
      ≡ meant (Updated 2) (OnRow (change.Update 1 (row (n 1) (n 10) (Text (codes "a"))) (row (n 1) (n 10) (Text (codes "a")))) ∷ OnRow (change.Update 1 (row (n 3) (n 30) Null) (row (n 3) (n 10) Null)) ∷ [])
  -- UPDATE u SET b = c, c = b WHERE a = 1: both from the row before
  pub one_column_from_another : meaning base (Update (codes "u") (set (codes "b") c ∷ set (codes "c") b ∷ []) (Some (e.Binary op.Equal a (int 1))))
      ≡ meant (Updated 1) (OnRow (change.Update 2 (row (n 1) (n 10) (n 20)) (row (n 1) (n 20) (n 10))) ∷ [])
  -- UPDATE t SET v = NULL
  pub no_null : meaning base (Update (codes "t") (set (codes "v") null ∷ []) None)
      ≡ refusal_meaning (NullValue (codes "v"))
  -- UPDATE t SET v = v * 50000000: not the first row, but a later one
  pub out_of_range : meaning base (Update (codes "t") (set (codes "v") (e.Binary op.Multiply v (int 50000000)) ∷ []) None)
      ≡ refusal_meaning (OutOfRange (codes "v"))
  -- UPDATE t SET v = v / (k - 3)
  pub arithmetic_of_a_row_that_passes : meaning base (Update (codes "t") (set (codes "v") (e.Binary op.Divide v (e.Binary op.Subtract k (int 3))) ∷ []) None)
      ≡ refusal_meaning Arithmetic
  -- UPDATE u SET b = 1 / 0, c = 2: the first of the two fails
  pub arithmetic_of_any_column : meaning base (Update (codes "u") (set (codes "b") (e.Binary op.Divide (int 1) (int 0)) ∷ set (codes "c") (int 2) ∷ []) None)
      ≡ refusal_meaning Arithmetic
  -- UPDATE t SET v = v / (k - 3) WHERE k > 3
  pub no_arithmetic_of_others : meaning base (Update (codes "t") (set (codes "v") (e.Binary op.Divide v (e.Binary op.Subtract k (int 3))) ∷ []) (Some (e.Binary op.Greater k (int 3))))
      ≡ meant (Updated 1) (OnRow (change.Update 1 (row (n 5) (n 50) (Text (codes "c"))) (row (n 5) (n 25) (Text (codes "c")))) ∷ [])
  -- UPDATE t SET v = 0 WHERE k < 3 OR v / (k - 5) > 0: the last row fails, which would not pass
  pub arithmetic_of_any_row_in_where : meaning base (Update (codes "t") (set (codes "v") (int 0) ∷ []) (Some (e.Binary op.Or (e.Binary op.Less k (int 3)) (e.Binary op.Greater (e.Binary op.Divide v (e.Binary op.Subtract k (int 5))) (int 0)))))
      ≡ refusal_meaning Arithmetic
  -- DELETE FROM t WHERE v > 10
  pub deleted_in_key_order : meaning base (Delete (codes "t") (Some (e.Binary op.Greater v (int 10))))
      ≡ meant (Deleted 2) (OnRow (change.Delete 1 (row (n 3) (n 30) Null)) ∷ OnRow (change.Delete 1 (row (n 5) (n 50) (Text (codes "c")))) ∷ [])
  -- DELETE FROM t WHERE NOT s = 'a'
  pub unknown_does_not_pass : meaning base (Delete (codes "t") (Some (e.Unary unary.Not (e.Binary op.Equal s (text (codes "a"))))))
      ≡ meant (Deleted 1) (OnRow (change.Delete 1 (row (n 5) (n 50) (Text (codes "c")))) ∷ [])
  -- DELETE FROM t WHERE v / 0 = 1 AND k = 9: False hides the Error
  pub deleted_none : meaning base (Delete (codes "t") (Some (e.Binary op.And (e.Binary op.Equal (e.Binary op.Divide v (int 0)) (int 1)) (e.Binary op.Equal k (int 9)))))
      ≡ meant (Deleted 0) []
  -- DELETE FROM t WHERE 30 / (k - 3) > 100: a row fails, and none passes
  pub delete_with_arithmetic : meaning base (Delete (codes "t") (Some (e.Binary op.Greater (e.Binary op.Divide (int 30) (e.Binary op.Subtract k (int 3))) (int 100))))
      ≡ refusal_meaning Arithmetic

-- ---- SELECT, CREATE and DROP, and what the checks refuse

pub record SelectCases : Type 0 where
  -- SELECT k, s FROM t WHERE v >= 30
  pub rows_that_pass : meaning base (Select (query (k ∷ s ∷ []) (source (codes "t") ∷ []) (Some (e.Binary op.AtLeast v (int 30))) []))
      ≡ meant (Rows ((n 3 ∷ Null ∷ []) ∷ (n 5 ∷ Text (codes "c") ∷ []) ∷ [])) []
  -- SELECT k, a FROM t, u WHERE v >= b: the first source first
  pub all_pairs_that_pass : meaning base (Select (query (k ∷ a ∷ []) (source (codes "t") ∷ source (codes "u") ∷ []) (Some (e.Binary op.AtLeast v b)) []))
      ≡ meant (Rows ((n 1 ∷ n 1 ∷ []) ∷ (n 3 ∷ n 1 ∷ []) ∷ (n 3 ∷ n 2 ∷ []) ∷ (n 5 ∷ n 1 ∷ []) ∷ (n 5 ∷ n 2 ∷ []) ∷ [])) []
  -- SELECT COUNT(*), SUM(v) FROM t WHERE k > 9: one group of no rows
  pub aggregates_over_no_rows : meaning base (Select (query (e.Aggregate aggregate.Count None ∷ e.Aggregate aggregate.Sum (Some v) ∷ []) (source (codes "t") ∷ []) (Some (e.Binary op.Greater k (int 9))) []))
      ≡ meant (Rows ((n 0 ∷ Null ∷ []) ∷ [])) []
  -- SELECT k FROM t, u WHERE k = 9 OR 1 / (a - k) > 5
  pub arithmetic_of_a_pair_that_does_not_pass : meaning base (Select (query (k ∷ []) (source (codes "t") ∷ source (codes "u") ∷ []) (Some (e.Binary op.Or (e.Binary op.Equal k (int 9)) (e.Binary op.Greater (e.Binary op.Divide (int 1) (e.Binary op.Subtract a k)) (int 5)))) []))
      ≡ refusal_meaning Arithmetic
  -- CREATE TABLE w (x INTEGER PRIMARY KEY, y CHAR(2)): with the next number
  pub a_table : meaning base (CreateTable (codes "w") (element.Column (codes "x") type.Integer true true ∷ element.Column (codes "y") (type.Char (pos 2)) true false ∷ []))
      ≡ meant Created (OnSchema (schema.CreateTable w_def) ∷ [])
  -- CREATE INDEX i ON t (v, k)
  pub an_index : meaning base (CreateIndex (codes "i") (codes "t") (codes "v" ∷ codes "k" ∷ []))
      ≡ meant Created (OnSchema (schema.CreateIndex (record { number = 1; table = 1; name = codes "i"; columns = 1 ∷ 0 ∷ [] })) ∷ [])
  -- DROP TABLE u
  pub a_dropped_table : meaning base (DropTable (codes "u"))
      ≡ meant Dropped (OnSchema (schema.DropTable 2) ∷ [])
  -- DELETE FROM w WHERE k = 1 / 0
  pub no_table : meaning base (Delete (codes "w") (Some (e.Binary op.Equal k (e.Binary op.Divide (int 1) (int 0)))))
      ≡ refusal_meaning (NoTable (codes "w"))
  -- INSERT INTO t VALUES (1 / 0, x, NULL)
  pub names_before_arithmetic : meaning base (Insert (codes "t") None (Values (e.Binary op.Divide (int 1) (int 0) ∷ column (codes "x") ∷ null ∷ [])))
      ≡ refusal_meaning (NoColumn (codes "x"))
  -- UPDATE t SET k = 1 / 0
  pub keys_before_arithmetic : meaning base (Update (codes "t") (set (codes "k") (e.Binary op.Divide (int 1) (int 0)) ∷ []) None)
      ≡ refusal_meaning (KeyAssigned (codes "k"))
  -- INSERT INTO t VALUES ('a', 1 / 0, NULL)
  pub types_before_arithmetic : meaning base (Insert (codes "t") None (Values (text (codes "a") ∷ e.Binary op.Divide (int 1) (int 0) ∷ null ∷ [])))
      ≡ refusal_meaning (WrongType 11)

-- ---- a key of two columns, in another order than that of the table

pub record KeyCases : Type 0 where
  -- SELECT a FROM p: in key order
  pub rows_in_key_order : meaning paired (Select (query (a ∷ []) (source (codes "p") ∷ []) None []))
      ≡ meant (Rows ((n 2 ∷ []) ∷ (n 1 ∷ []) ∷ [])) []
  -- INSERT INTO p VALUES (1, 2, 9): the key that stands is (2, 1)
  pub the_key_of_a_row : meaning paired (Insert (codes "p") None (Values (int 1 ∷ int 2 ∷ int 9 ∷ [])))
      ≡ refusal_meaning (Duplicate (n 2 ∷ n 1 ∷ []))
  -- INSERT INTO p VALUES (2, 2, 9): neither column alone is the key
  pub another_key : meaning paired (Insert (codes "p") None (Values (int 2 ∷ int 2 ∷ int 9 ∷ [])))
      ≡ meant (Inserted 1) (OnRow (change.Insert 1 (row (n 2) (n 2) (n 9))) ∷ [])
  -- SELECT x.a, y.a FROM p x, p y WHERE x.b = 1: in the order of both keys
  pub pairs_in_key_order : meaning paired (Select (query (of (codes "x") (codes "a") ∷ of (codes "y") (codes "a") ∷ []) (called (codes "p") (codes "x") ∷ called (codes "p") (codes "y") ∷ []) (Some (e.Binary op.Equal (of (codes "x") (codes "b")) (int 1))) []))
      ≡ meant (Rows ((n 2 ∷ n 2 ∷ []) ∷ (n 2 ∷ n 1 ∷ []) ∷ [])) []
  -- UPDATE p SET v = 1, a = 3
  pub the_second_key_column : meaning paired (Update (codes "p") (set (codes "v") (int 1) ∷ set (codes "a") (int 3) ∷ []) None)
      ≡ refusal_meaning (KeyAssigned (codes "a"))

-- ---- the tables again

pub record ActCases : Type 0 where
  -- CREATE TABLE t and u, and their rows, in another order
  pub the_tables_are_made : apply_all (
      OnSchema (schema.CreateTable t_def) ∷ OnRow (change.Insert 1 (row (n 5) (n 50) (Text (codes "c")))) ∷ OnRow (change.Insert 1 (row (n 1) (n 10) (Text (codes "a"))))
      ∷ OnSchema (schema.CreateTable u_def) ∷ OnRow (change.Insert 2 (row (n 1) (n 10) (n 20))) ∷ OnRow (change.Insert 1 (row (n 3) (n 30) Null)) ∷ OnRow (change.Insert 2 (row (n 2) (n 30) Null)) ∷ []
      ) no_tables ≡ Some base
  -- UPDATE t SET v = 10 WHERE k < 4, and SELECT v FROM t over what it leaves
  pub a_statement_after_another : option_map (λ t. meaning t (Select (query (v ∷ []) (source (codes "t") ∷ []) None [])))
      (apply_all (meaning base (Update (codes "t") (set (codes "v") (int 10) ∷ []) (Some (e.Binary op.Less k (int 4))))).acts base)
      ≡ Some (meant (Rows ((n 10 ∷ []) ∷ (n 10 ∷ []) ∷ (n 50 ∷ []) ∷ [])) [])
