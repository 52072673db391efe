-- How answers are written: one line each, and below that of SELECT one line for each row.
use Rattle.std.specs.Prelude.{ℕ, ◌==◌, List, ◌++◌, length, codes, decimal, if◌then◌else◌}
use Rattle.std.specs.List.{flat_map, join_by}
use Rattle.wat_value.specs.declared.value.Value.{Value}
use Rattle.wat_schema.specs.declared.refusal.Refusal.{Refusal}
use Rattle.wat_schema.specs.declared.refusal.Refusal.TheVariants.{Syntax, NoTable, NoColumn, Ambiguous, WrongType, TableExists, IndexExists, BadTable, BadIndex, KeyAssigned, Arithmetic, NullValue, OutOfRange, TooLong, Duplicate, NoSavepoint}
use Rattle.wat_locks.specs.declared.held.Against.{Against}
use Rattle.wat_cycle.specs.declared.request.Edge.{Edge}
use Rattle.wat_conn.specs.declared.answer.Reply.{Reply}
use Rattle.wat_conn.specs.declared.answer.Reply.TheVariants.{Rows, Inserted, Updated, Deleted, Created, Dropped, Committed, NothingToCommit, RolledBack, Savepoint, BackToSavepoint, Released, Checkpointed, OptionSet}
use Rattle.wat_conn.specs.declared.answer.Reason.{Reason}
use Rattle.wat_conn.specs.declared.answer.Reason.TheVariants.{DiskFault, Damaged, PageLimit, Memory}
use Rattle.wat_conn.specs.declared.answer.Answer.{Answer}
use Rattle.wat_conn.specs.declared.answer.Answer.TheVariants.{Given, Refused, Locked, Deadlock, OpenTransaction, Unsupported, Stopped}
use Rattle.wat_conn.specs.declared.session.TableName.{TableName}
use Rattle.wat_print.specs.Literal.{row_text}
use Rattle.wat_print.specs.Locks.{lock_text}

-- a text with its line feed
abbrev pub line : List ℕ → List ℕ
line text = text ++ codes "\n"

-- ---- what was given

abbrev pub row_line : List Value → List ℕ
row_line row = line (row_text row)

abbrev pub reply_text : Reply → List ℕ
reply_text (Rows rows) = line (codes "rows " ++ decimal (length rows)) ++ flat_map row_line rows
reply_text (Inserted count) = line (codes "inserted " ++ decimal count)
reply_text (Updated count) = line (codes "updated " ++ decimal count)
reply_text (Deleted count) = line (codes "deleted " ++ decimal count)
reply_text (Created number) = line (codes "created " ++ decimal number)
reply_text (Dropped number) = line (codes "dropped " ++ decimal number)
reply_text (Committed number) = line (codes "committed " ++ decimal number)
reply_text NothingToCommit = line (codes "nothing to commit")
reply_text RolledBack = line (codes "rolled back")
reply_text Savepoint = line (codes "savepoint")
reply_text BackToSavepoint = line (codes "rolled back to savepoint")
reply_text Released = line (codes "released")
reply_text Checkpointed = line (codes "checkpoint")
reply_text OptionSet = line (codes "option set")

-- ---- why a statement was refused

abbrev pub refusal_text : Refusal → List ℕ
refusal_text (Syntax at) = line (codes "error Syntax at " ++ decimal at)
refusal_text (NoTable name) = line (codes "error NoTable " ++ name)
refusal_text (NoColumn name) = line (codes "error NoColumn " ++ name)
refusal_text (Ambiguous name) = line (codes "error Ambiguous " ++ name)
refusal_text (WrongType rule) = line (codes "error WrongType rule " ++ decimal rule)
refusal_text (TableExists name) = line (codes "error TableExists " ++ name)
refusal_text (IndexExists name) = line (codes "error IndexExists " ++ name)
refusal_text (BadTable rule) = line (codes "error BadTable rule " ++ decimal rule)
refusal_text (BadIndex rule) = line (codes "error BadIndex rule " ++ decimal rule)
refusal_text (KeyAssigned name) = line (codes "error KeyAssigned " ++ name)
refusal_text Arithmetic = line (codes "error Arithmetic")
refusal_text (NullValue name) = line (codes "error NullValue " ++ name)
refusal_text (OutOfRange name) = line (codes "error OutOfRange " ++ name)
refusal_text (TooLong name) = line (codes "error TooLong " ++ name)
refusal_text (Duplicate key) = line (codes "error Duplicate " ++ row_text key)
refusal_text (NoSavepoint name) = line (codes "error NoSavepoint " ++ name)

-- ---- what was in the way

abbrev pub locked_text : List TableName → Against → List ℕ
locked_text names against = line (codes "locked by " ++ decimal against.holder ++ codes ": " ++ lock_text names against.lock)

-- C waits for C (LOCK)
abbrev pub edge_text : List TableName → Edge → List ℕ
edge_text names edge = decimal edge.from ++ codes " waits for " ++ decimal edge.to ++ codes " (" ++ lock_text names edge.lock ++ codes ")"

abbrev pub deadlock_text : List TableName → List Edge → List ℕ
deadlock_text names cycle = line (codes "deadlock: " ++ join_by (edge_text names) (codes ", ") cycle)

abbrev pub open_text : ℕ → List ℕ
open_text conn = line (codes "open transaction of " ++ decimal conn)

-- ---- why the session stopped

-- the word for a file, by its number
abbrev pub file_text : ℕ → List ℕ
file_text number =
    if number == 0 then codes "main" else (
    if number == 1 then codes "before" else (
    if number == 2 then codes "log" else (
    if number == 3 then codes "backup" else (
    if number == 4 then codes "copy" else (
    if number == 5 then codes "mirror" else (
    if number == 6 then codes "leader" else codes "spare"))))))

abbrev pub reason_text : Reason → List ℕ
reason_text DiskFault = codes "disk fault"
reason_text (Damaged file at) = codes "damaged " ++ file_text file.0 ++ codes " at " ++ decimal at
reason_text (PageLimit count limit) = codes "page limit"
reason_text Memory = codes "want of memory"

abbrev pub stop_line : Reason → List ℕ
stop_line reason = line (codes "stopped: " ++ reason_text reason)

-- ---- an answer

abbrev pub answer_text : List TableName → Answer → List ℕ
answer_text names (Given reply) = reply_text reply
answer_text names (Refused refusal) = refusal_text refusal
answer_text names (Locked against) = locked_text names against
answer_text names (Deadlock cycle) = deadlock_text names cycle
answer_text names (OpenTransaction conn) = open_text conn
answer_text names Unsupported = line (codes "unsupported")
answer_text names (Stopped reason) = stop_line reason
