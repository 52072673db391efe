-- What a session prints.
use Rattle.std.specs.Prelude.{ℕ, List, [], ◌++◌, length, codes, decimal, Option, None, Some}
use Rattle.std.specs.List.{flat_map, enumerate_from}
use Rattle.wat_list.specs.Reservation.{Reservation}
use Rattle.wat_conn.specs.declared.answer.Reason.{Reason}
use Rattle.wat_conn.specs.declared.session.Entry.{Entry}
use Rattle.wat_conn.specs.declared.session.TableName.{TableName}
use Rattle.wat_conn.specs.declared.session.Session.{Session}
use Rattle.wat_print.specs.Answers.{line, answer_text, stop_line}

-- an entry under its number in the transcript
abbrev pub entry_text : List TableName → ℕ × Entry → List ℕ
entry_text names numbered = decimal numbered.0 ++ codes ": " ++ answer_text names numbered.1.answer

-- a transcript under the number of its connection
abbrev pub connection_text : List TableName → ℕ × Reservation Entry → List ℕ
connection_text names numbered = line (codes "connection " ++ decimal numbered.0) ++ flat_map (entry_text names) (enumerate_from 1 numbered.1.items)

abbrev pub stop_text : Option Reason → List ℕ
stop_text None = []
stop_text (Some reason) = stop_line reason

-- the connections, the number of commits, and the stop where there is one
abbrev pub printed : Session → List ℕ
printed session =
    flat_map (connection_text session.names) (enumerate_from 1 session.transcripts)
    ++ line (codes "commits " ++ decimal (length session.moments.items))
    ++ stop_text session.stop
