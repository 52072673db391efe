-- One step of one connection.
use Rattle.std.specs.Prelude.{◌≡◌, ℕ, ◌++◌, true, List, [], ◌∷◌, map, ◌⊎◌, Option, Some, None, Result, Ok, Err}
use Rattle.wat_value.specs.declared.change.Act.TheVariants.{OnRow}
use Rattle.wat_ast.specs.declared.statement.Statement.{Statement}
use Rattle.wat_ast.specs.declared.statement.Statement.TheVariants as s
use Rattle.wat_schema.specs.declared.refusal.Refusal.TheVariants.{Syntax}
use Rattle.wat_parse.specs.declared.script.Span.{Span}
use Rattle.wat_parse.specs.Parsing.{parsed_at}
use Rattle.wat_meaning.specs.declared.reply.Reply.{Reply as Meant}
use Rattle.wat_conn.specs.declared.answer.Reason.{Reason}
use Rattle.wat_conn.specs.declared.answer.Reply.TheVariants as reply
use Rattle.wat_conn.specs.declared.answer.Answer.TheVariants.{Given, Refused, Stopped}
use Rattle.wat_scans.specs.Running.{Run, Next, Next.ToVisit, Next.ToChange, Next.ToRefuse, Next.ToReply, next}
use Rattle.wat_steps.specs.State.{CoreState, Progressed, Progressed.Answered, Progressed.Ended, with_connection}
use Rattle.wat_steps.specs.Answering.{IsSame, with_answer, answered, transaction_of, with_transaction, rolled_back}
use Rattle.wat_steps.specs.Statements.{with_savepoint, back_to, released, saves_from, committed, answer_saying, IsSchemaStep, Begins, with_level, with_blocking}
use Rattle.wat_steps.specs.Asking.{refused}
use Rattle.wat_steps.specs.Visiting.{IsVisit}
use Rattle.wat_steps.specs.Making.{IsChange}

-- ---- a statement under way

-- its changes stand
abbrev pub replied : ℕ → CoreState → Run → Meant → CoreState
replied c e run said =
    let t = transaction_of c e in answered c (with_transaction c (record t { standing = t.standing ++ run.made }) e) (answer_saying 0 said) (map OnRow run.made)

abbrev pub GoesOn : ℕ → CoreState → Run → Next → Progressed → CoreState → Type 0
GoesOn c e run (ToVisit scan taken met) a after = IsVisit c e run scan taken met a after
GoesOn c e run (ToChange change) a after = IsChange c e run change a after
GoesOn c e run (ToRefuse refusal) a after = (a ≡ Answered) × IsSame (refused c e run (Refused refusal)) after
GoesOn c e run (ToReply said) a after = (a ≡ Answered) × IsSame (replied c e run said) after

-- ---- the next statement

-- one that is not under way
abbrev pub Starts : ℕ → CoreState → Statement → Progressed → CoreState → Type 0
Starts c e (s.SetLevel level) a after = (a ≡ Answered) × IsSame (with_level c level (answered c e (Given reply.OptionSet) [])) after
Starts c e (s.SetBlocking on) a after = (a ≡ Answered) × IsSame (with_blocking c on (answered c e (Given reply.OptionSet) [])) after
Starts c e s.Checkpoint a after = (a ≡ Answered) × IsSame (answered c e (Given reply.Checkpointed) []) after
Starts c e s.Commit a after = (a ≡ Answered) × (moment : ℕ) × IsSame (committed c moment (e.connections c).transaction e) after
Starts c e s.Rollback a after = (a ≡ Answered) × IsSame (answered c (rolled_back c e) (Given reply.RolledBack) []) after
Starts c e (s.Savepoint name) a after = (a ≡ Answered) × IsSame (answered c (with_transaction c (with_savepoint name (transaction_of c e)) e) (Given reply.Savepoint) []) after
Starts c e (s.RollbackTo name) a after = (a ≡ Answered) × IsSame (back_to c name (saves_from c name e) e) after
Starts c e (s.Release name) a after = (a ≡ Answered) × IsSame (released c name (saves_from c name e) e) after
Starts c e (s.CreateTable name elements) a after = (a ≡ Answered) × IsSchemaStep c e (s.CreateTable name elements) after
Starts c e (s.CreateIndex name table columns) a after = (a ≡ Answered) × IsSchemaStep c e (s.CreateIndex name table columns) after
Starts c e (s.DropTable name) a after = (a ≡ Answered) × IsSchemaStep c e (s.DropTable name) after
Starts c e (s.Insert table columns source) a after = Begins c e (s.Insert table columns source) a after
Starts c e (s.Update table sets filter) a after = Begins c e (s.Update table sets filter) a after
Starts c e (s.Delete table filter) a after = Begins c e (s.Delete table filter) a after
Starts c e (s.Select query) a after = Begins c e (s.Select query) a after

-- as its text was read, or where the text goes wrong
abbrev pub IsRead : ℕ → CoreState → Result Statement ℕ → Progressed → CoreState → Type 0
IsRead c e (Err at) a after = (a ≡ Answered) × IsSame (answered c e (Refused (Syntax at)) []) after
IsRead c e (Ok x) a after = Starts c e x a after

-- ---- a stop

-- After a stop each statement that is left is answered so, and nothing else is done: what was open stays open.
abbrev pub Stays : ℕ → CoreState → Reason → List Span → Progressed → CoreState → Type 0
Stays c e reason [] a after = (a ≡ Ended) × IsSame (with_connection c (record (e.connections c) { has_ended = true }) e) after
Stays c e reason (span ∷ more) a after = (a ≡ Answered) × IsSame (with_connection c (with_answer (span ∷ more) (e.connections c) (Stopped reason) []) e) after

-- ---- all steps

-- at the end of its script the connection has ended, and its open transaction is rolled back
abbrev pub closed : ℕ → CoreState → CoreState
closed c e = with_connection c (record ((rolled_back c e).connections c) { has_ended = true }) (rolled_back c e)

abbrev pub Goes : ℕ → CoreState → Option Run → List Span → Progressed → CoreState → Type 0
Goes c e (Some run) left a after = GoesOn c e run (next run) a after
Goes c e None [] a after = (a ≡ Ended) × IsSame (closed c e) after
Goes c e None (span ∷ more) a after = IsRead c e (parsed_at (e.connections c).script span) a after

-- a step may be the first that stops
abbrev pub GoesOrStops : ℕ → CoreState → Option Reason → Progressed → CoreState → Type 0
GoesOrStops c e (Some reason) a after = Stays c e reason (e.connections c).left a after
GoesOrStops c e None a after =
    Goes c e (e.connections c).work (e.connections c).left a after
    ⊎ ((reason : Reason) × Stays c (record e { stop = Some reason }) reason (e.connections c).left a after)

-- A connection that there isn't does nothing: it has ended.
unfoldable pub IsStep : CoreState → ℕ → Progressed → CoreState → Type 0
IsStep e c a after = GoesOrStops c e e.stop a after

-- steps one after another
abbrev pub Runs : CoreState → List ℕ → CoreState → Type 0
Runs e [] last = e ≡ last
Runs e (c ∷ more) last = (a : Progressed) × (after : CoreState) × IsStep e c a after × Runs after more last
