-- The names that the words call for, and what the steps of a command come to.
use Rattle.std.specs.Prelude.{⊤, ℕ, List, [], Result, Ok, Err, unwrap_or}
use Rattle.wat_schema.specs.Tables.{Tables}
use Rattle.std.specs.Option.{option_map}
use Rattle.wat_words.specs.Commands.{command_of, names_of}
use Rattle.wat_begin.specs.declared.fault.Fault.{Fault}
use Rattle.wat_begin.specs.declared.fault.Fault.TheVariants.{NoDatabase, Exists, Damaged, DiskFault, Memory}
use Rattle.wat_commit_log.specs.declared.making.InitRefusal.{InitRefusal}
use Rattle.wat_commit_log.specs.declared.making.InitRefusal.TheVariants as refusal
use Rattle.wat_commit_log.specs.declared.opening.OpenWhy.{OpenWhy}
use Rattle.wat_commit_log.specs.declared.opening.OpenWhy.TheVariants as why

-- the names of the scripts that the words name
abbrev pub names_called : List (List ℕ) → List (List ℕ)
names_called words = unwrap_or (option_map (λ command. names_of command words) (command_of words)) []

-- the tables of the log, or the fault that opening met
abbrev pub opened : Result Tables OpenWhy → Result Tables Fault
opened (Ok tables) = Ok tables
opened (Err why.NoDatabase) = Err NoDatabase
opened (Err (why.Damaged at)) = Err (Damaged at)
opened (Err why.DiskFault) = Err DiskFault
opened (Err why.Memory) = Err Memory

-- a log that was made, or the fault that making it met
abbrev pub made : Result ⊤ InitRefusal → Result ⊤ Fault
made (Ok done) = Ok done
made (Err refusal.Exists) = Err Exists
made (Err refusal.DiskFault) = Err DiskFault
made (Err refusal.Memory) = Err Memory
