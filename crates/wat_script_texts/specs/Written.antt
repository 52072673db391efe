-- The statements that write acts which are made one after another, as a log has them.
use Rattle.std.specs.Prelude.{◌≡◌, Bool, true, false, List, [], ◌∷◌, ◌++◌, Some, None, unwrap_or, if◌then◌else◌}
use Rattle.std.specs.List.{flat_map, list_any}
use Rattle.std.specs.Option.{option_to_list}
use Rattle.wat_value.specs.declared.change.Act.{Act}
use Rattle.wat_value.specs.declared.change.Act.TheVariants.{OnRow, OnSchema}
use Rattle.wat_ast.specs.declared.statement.Statement.{Statement}
use Rattle.wat_ast.specs.declared.statement.Statement.TheVariants.{Commit}
use Rattle.wat_schema.specs.Tables.{Tables, apply, apply_all, catalog_of}
use Rattle.wat_written.specs.Written.{statement_of}

-- The statements write these acts, each over the schema that the acts before it leave, with COMMIT at any places. An act that no statement
-- writes is left out.
pub data IsWritten : Tables → List Act → List Statement → Type 0 where
  ends : (t : Tables) → IsWritten t [] []
  commits : (t : Tables) (acts : List Act) (xs : List Statement) → IsWritten t acts xs → IsWritten t acts (Commit ∷ xs)
  writes : (t u : Tables) (act : Act) (s : Statement) (acts : List Act) (xs : List Statement)
      → apply act t ≡ Some u → statement_of (catalog_of t) act ≡ Some s → IsWritten u acts xs → IsWritten t (act ∷ acts) (s ∷ xs)
  leaves : (t u : Tables) (act : Act) (acts : List Act) (xs : List Statement)
      → apply act t ≡ Some u → statement_of (catalog_of t) act ≡ None → IsWritten u acts xs → IsWritten t (act ∷ acts) xs

-- the statements of acts, with none for an act that no statement writes
abbrev pub statements_from : Tables → List Act → List Statement
statements_from t [] = []
statements_from t (act ∷ acts) = option_to_list (statement_of (catalog_of t) act) ++ statements_from (unwrap_or (apply act t) t) acts

abbrev pub alters : Act → Bool
alters (OnRow change) = false
alters (OnSchema change) = true

-- COMMIT behind the acts of a transaction, unless a change of the schema is among them, which commits by itself
abbrev pub commit_behind : List Act → List Statement
commit_behind acts = if list_any alters acts then [] else Commit ∷ []

-- the acts of transactions, in order
abbrev pub acts_of : List (List Act) → List Act
acts_of log = flat_map (λ acts. acts) log

-- the statements of transactions, one after another
abbrev pub transactions_from : Tables → List (List Act) → List Statement
transactions_from t [] = []
transactions_from t (acts ∷ more) = (statements_from t acts ++ commit_behind acts) ++ transactions_from (unwrap_or (apply_all acts t) t) more
