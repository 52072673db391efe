-- A session that is made up.
use Rattle.std.specs.Prelude.{ℕ, ◌*◌, ◌==◌, ◌||◌, nat_lt, List, [], ◌∷◌, ◌++◌, codes, map, if◌then◌else◌}
use Rattle.std.specs.List.{join_by, range_with_len}
use Rattle.wat_schedule.specs.declared.item.Item.{Item}
use Rattle.wat_gen.specs.declared.statement.Statement.{Statement}
use Rattle.wat_gen.specs.declared.statement.Statement.TheVariants.{CreateTable, CreateIndex, Insert, Commit, SetLevel, SetBlockingOff}
use Rattle.wat_gen.specs.Numbers.{Drawn, ◌>>=◌, for_each, given}
use Rattle.wat_gen.specs.Statements.{drawn_transactions, statement_text}
use Rattle.wat_gen.specs.Schedule.{drawn_schedule}

-- the statements that make the table and its first hundred rows
unfoldable pub filling : List Statement
filling = CreateTable ∷ CreateIndex ∷ (map (λ i. Insert (10 * i) i) (range_with_len 0 100) ++ Commit ∷ [])

-- the isolation level of a script
abbrev pub level_of : ℕ → ℕ
level_of script = if script == 2 || script == 6 then 2 else (if script == 4 || script == 8 then 0 else 3)

-- what a script begins with: the first one makes the table, each one sets its level, and the last two wait for no lock
unfoldable pub opening : ℕ → List Statement
opening script =
    (if script == 1 then filling else []) ++ SetLevel (level_of script) ∷ (if nat_lt 6 script then SetBlockingOff ∷ [] else [])

-- the statements of a script with so many transactions
unfoldable pub drawn_script : ℕ → ℕ → Drawn (List Statement)
drawn_script count script = do
  statements ← drawn_transactions count
  given (opening script ++ statements)

-- a script as it is written: its statements with one space between
abbrev pub script_text : List Statement → List ℕ
script_text statements = join_by statement_text (codes " ") statements

-- the statements of the eight scripts
unfoldable pub drawn_scripts : ℕ → Drawn (List (List Statement))
drawn_scripts count = for_each (range_with_len 1 8) (drawn_script count)

-- what the eight connections are asked, and in which order they go on
pub record MadeUp : Type 0 where
  pub scripts : List (List Statement)
  pub schedule : List Item

-- a session with so many transactions in each script
unfoldable pub drawn_session : ℕ → Drawn MadeUp
drawn_session count = do
  scripts ← drawn_scripts count
  schedule ← drawn_schedule count
  given (record { scripts = scripts; schedule = schedule })

-- the session that is made up from a number
abbrev pub made_up : ℕ → ℕ → MadeUp
made_up number count = (drawn_session count number).0
