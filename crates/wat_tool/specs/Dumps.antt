-- What writing the tables as SQL comes to.
use Rattle.std.specs.Prelude.{◌≡◌, ℕ, List, Result, Ok, Err}
use Rattle.wat_schema.specs.Tables.{Tables, no_tables}
use Rattle.wat_serial.specs.Script.{run}
use Rattle.wat_commit_log.specs.Opening.{MayOpen}
use Rattle.wat_commit_log.specs.declared.opening.OpenWhy.{OpenWhy}
use Rattle.wat_dump.specs.Dump.{dump_text}
use Rattle.wat_dump_law.specs.Anew.{anew}
use Rattle.wat_begin.specs.declared.fault.Fault.{Fault}
use Rattle.wat_tool.specs.Called.{opened}
use Rattle.wat_tool.specs.declared.performing.Done.{Done}
use Rattle.wat_tool.specs.declared.performing.Done.TheVariants.{Dumped}

-- The text is that of these tables. Run alone on an empty database, it gives them, numbered 1, 2 and so on in their order.
pub record IsDumped (tells : Type 0) (tables : Tables) (ended : Result Done Fault) : Type 0 where
  pub is : ended ≡ Ok (Dumped (dump_text tables))
  pub runs : tells → run (dump_text tables) no_tables ≡ Ok (anew tables)

-- these tables were written as SQL
abbrev pub EndsDumped : Type 0 → Result Tables Fault → Result Done Fault → Type 0
EndsDumped tells (Err fault) ended = ended ≡ Err fault
EndsDumped tells (Ok tables) ended = IsDumped tells tables ended

-- Opening the log with these bytes answered in some way that it may, where a fault has this cause, and the call ended by that.
pub record IsDump (tells : Type 0) (content : List ℕ) (rose : Type 0) (ended : Result Done Fault) : Type 0 where
  pub opening : Result Tables OpenWhy
  pub may_open : MayOpen tells content rose opening
  pub is : EndsDumped tells (opened opening) ended
