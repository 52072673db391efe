-- What the steps inside a call leave.
use Rattle.std.specs.Prelude.{Result, Ok, Err}
use Rattle.wat_schema.specs.Tables.{Tables}
use Rattle.wat_commit_log.specs.declared.opening.Opened.{Opened}
use Rattle.wat_begin.specs.declared.fault.Fault.{Fault}

-- the tables of what was opened
abbrev pub tables_of : Result Opened Fault → Result Tables Fault
tables_of (Ok opened) = Ok opened.tables
tables_of (Err fault) = Err fault
