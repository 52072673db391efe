-- The commit that a stop cut: it was not acknowledged, and may be kept all the same.
use Rattle.std.specs.Prelude.{ℕ, Bool, true, false, List, [], ◌∷◌, map, Option, Some, None, Result, Ok, Err, if◌then◌else◌, unwrap_or}
use Rattle.std.specs.List.{flat_map}
use Rattle.std.specs.Option.{option_to_list}
use Rattle.wat_value.specs.declared.change.Act.{Act}
use Rattle.wat_value.specs.declared.change.Act.TheVariants.{OnRow}
use Rattle.wat_ast.specs.declared.statement.Statement.{Statement}
use Rattle.wat_ast.specs.declared.statement.Statement.TheVariants.{Commit}
use Rattle.wat_schema.specs.Tables.{Tables, apply_all}
use Rattle.wat_rules.specs.Changes.{changes_schema}
use Rattle.wat_meaning.specs.Meaning.{meaning}
use Rattle.wat_conn.specs.declared.answer.Reason.{Reason}
use Rattle.wat_conn.specs.declared.answer.Reason.TheVariants.{DiskFault}
use Rattle.wat_conn.specs.declared.answer.Answer.{Answer}
use Rattle.wat_conn.specs.declared.answer.Answer.TheVariants.{Stopped}
use Rattle.wat_conn.specs.declared.session.Session.{Session}
use Rattle.wat_history.specs.Connection.{Part, Connection, new_connection, next, standing}
use Rattle.wat_history.specs.History.{connections_of}

abbrev pub is_stop : Answer → Bool
is_stop (Stopped reason) = true
is_stop answer = false

-- the first statement that the stop answers, and where its connection stands then
abbrev pub first_stopped : Connection → List Part → Option (Connection × Part)
first_stopped c [] = None
first_stopped c (p ∷ parts) = if is_stop p.entry.answer then Some (c, p) else first_stopped (next c p) parts

-- what it would have committed: a COMMIT the changes that stand, a CREATE or DROP what it means over the tables
abbrev pub statement_cut : Tables → Connection → Statement → Option (List Act)
statement_cut t c Commit = Some (map OnRow (standing c))
statement_cut t c statement = if changes_schema statement then Some (meaning t statement).acts else None

abbrev pub read_cut : Tables → Connection → Result Statement ℕ → Option (List Act)
read_cut t c (Err at) = None
read_cut t c (Ok statement) = statement_cut t c statement

abbrev pub stopped_cut : Tables → Option (Connection × Part) → Option (List Act)
stopped_cut t None = None
stopped_cut t (Some (c, p)) = read_cut t c p.read

-- the acts that a fault of the disk cut, one for each connection whose first statement that the stop answers is of those
abbrev pub cuts_by : Option Reason → Tables → List (List Part) → List (List Act)
cuts_by (Some DiskFault) t connections = flat_map (λ parts. option_to_list (stopped_cut t (first_stopped new_connection parts))) connections
cuts_by stop t connections = []

abbrev pub cuts : Session → Tables → List (List Act)
cuts s t = cuts_by s.stop t (connections_of s)

-- the tables with a cut, which applies where none of another connection's changes stands in its way
abbrev pub with_cut : Tables → List Act → Tables
with_cut t acts = unwrap_or (apply_all acts t) t
