-- The statements that are drawn, and how they are written.
use Rattle.std.specs.Prelude.{ℕ, ◌+◌, ◌==◌, List, [], ◌∷◌, ◌++◌, codes, decimal, if◌then◌else◌}
use Rattle.std.specs.List.{flat_map}
use Rattle.wat_gen.specs.declared.statement.Statement.{Statement}
use Rattle.wat_gen.specs.declared.statement.Statement.TheVariants.{CreateTable, CreateIndex, Insert, Update, Delete, Count, Commit, SetLevel, SetBlockingOff}
use Rattle.wat_gen.specs.Between.{between_text}
use Rattle.wat_gen.specs.Numbers.{Drawn, ◌>>=◌, draw, given, in_a_row}

-- a statement as it is written
abbrev pub statement_text : Statement → List ℕ
statement_text CreateTable = codes "CREATE TABLE g (k INTEGER PRIMARY KEY, v INTEGER NOT NULL);"
statement_text CreateIndex = codes "CREATE INDEX gv ON g (v);"
statement_text (Insert k v) = codes "INSERT INTO g VALUES (" ++ decimal k ++ codes ", " ++ decimal v ++ codes ");"
statement_text (Update v low high) =
    codes "UPDATE g SET v = " ++ decimal v ++ codes " WHERE k " ++ between_text low high ++ codes ";"
statement_text (Delete k) = codes "DELETE FROM g WHERE k = " ++ decimal k ++ codes ";"
statement_text (Count low high) =
    codes "SELECT COUNT(*), SUM(k) FROM g WHERE v " ++ between_text low high ++ codes ";"
statement_text Commit = codes "COMMIT;"
statement_text (SetLevel level) = codes "SET TEMPORARY OPTION ISOLATION_LEVEL = " ++ decimal level ++ codes ";"
statement_text SetBlockingOff = codes "SET TEMPORARY OPTION BLOCKING = OFF;"

-- an insert of a key below 1000 with a number below 100
unfoldable pub drawn_insert : Drawn Statement
drawn_insert = do
  k ← draw 1000
  v ← draw 100
  given (Insert k v)

-- an update of the keys from one below 1000 on, at most 19 further
unfoldable pub drawn_update : Drawn Statement
drawn_update = do
  low ← draw 1000
  width ← draw 20
  v ← draw 100
  given (Update v low (low + width))

-- a delete of a key below 1000
unfoldable pub drawn_delete : Drawn Statement
drawn_delete = do
  k ← draw 1000
  given (Delete k)

-- a count of the rows with one of ten numbers
unfoldable pub drawn_count : Drawn Statement
drawn_count = do
  low ← draw 100
  given (Count low (low + 9))

-- a statement of the kind of this number
abbrev pub drawn_of_kind : ℕ → Drawn Statement
drawn_of_kind kind = if kind == 0 then drawn_insert else (if kind == 1 then drawn_update else (if kind == 2 then drawn_delete else drawn_count))

-- a statement: its kind first, then its numbers
unfoldable pub drawn_statement : Drawn Statement
drawn_statement = do
  kind ← draw 4
  drawn_of_kind kind

-- a transaction: three statements, and the commit
unfoldable pub drawn_transaction : Drawn (List Statement)
drawn_transaction = do
  first ← drawn_statement
  second ← drawn_statement
  third ← drawn_statement
  given (first ∷ second ∷ third ∷ Commit ∷ [])

-- the statements of so many transactions
unfoldable pub drawn_transactions : ℕ → Drawn (List Statement)
drawn_transactions count = do
  transactions ← in_a_row count drawn_transaction
  given (flat_map (λ statements. statements) transactions)
