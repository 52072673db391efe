-- Statements made one after another: each means what it means over the tables so far, and its acts are made.
use Rattle.std.specs.Prelude.{ℕ, suc, Bool, ◌||◌, List, [], ◌∷◌, Result, Ok, if◌then◌else◌}
use Rattle.wat_ast.specs.declared.statement.Statement.{Statement}
use Rattle.wat_schema.specs.declared.refusal.Refusal.{Refusal}
use Rattle.wat_schema.specs.Tables.{Tables}
use Rattle.wat_meaning.specs.Meaning.{has_meaning, meaning}
use Rattle.wat_serial.specs.declared.script.ScriptRefusal.{ScriptRefusal}
use Rattle.wat_serial.specs.Script.{is_commit, after_meaning, followed}

-- whether a script may have the statement: COMMIT, or one that means something over tables
abbrev pub is_run : Statement → Bool
is_run s = is_commit s || has_meaning s

-- the tables after a statement, or its refusal: COMMIT leaves them
abbrev pub after_tree : Statement → Tables → Result Tables Refusal
after_tree s t = if is_commit s then Ok t else after_meaning t (meaning t s)

-- the statements in order, of which the first has this number
abbrev pub run_trees_from : ℕ → List Statement → Tables → Result Tables ScriptRefusal
run_trees_from number [] t = Ok t
run_trees_from number (s ∷ ss) t = followed number (run_trees_from (suc number) ss) (after_tree s t)

-- the tables after all of them, or the first refusal, with the number of its statement
abbrev pub run_trees : List Statement → Tables → Result Tables ScriptRefusal
run_trees = run_trees_from 1
