-- A statement under way is answered no reply of a CREATE or DROP.
use Rattle.std.proofs.Common.{◌≡◌, Bool, true, false, if◌then◌else◌, List, [], ◌∷◌, length, drop, map, Option, Some, None, Result, Ok, Err, refl, subst}
use Rattle.wat_value.specs.declared.definition.TableDef.{TableDef}
use Rattle.wat_value.specs.declared.change.Change.{Change}
use Rattle.wat_value.specs.declared.change.Change.TheVariants as change
use Rattle.wat_ast.specs.declared.statement.SetItem.{SetItem}
use Rattle.wat_ast.specs.declared.statement.Statement.{Statement}
use Rattle.wat_ast.specs.declared.statement.Statement.TheVariants as s
use Rattle.wat_schema.specs.declared.refusal.Refusal.{Refusal}
use Rattle.wat_schema.specs.declared.refusal.Refusal.TheVariants.{Arithmetic}
use Rattle.wat_schema.specs.Catalog.{Listing, Name}
use Rattle.wat_names.specs.Refusals.{first, or_refused}
use Rattle.wat_expr.specs.Evaluation.{Combination}
use Rattle.wat_group.specs.declared.answer.Finished.{Finished}
use Rattle.wat_group.specs.declared.answer.Finished.TheVariants as finished
use Rattle.wat_group.specs.Query.{finish}
use Rattle.wat_meaning.specs.declared.reply.Reply.{Reply}
use Rattle.wat_meaning.specs.declared.reply.Reply.TheVariants as meant
use Rattle.wat_meaning.specs.Meaning.{Made, Made.Shown, Made.Changing, Made.Altering, row_faults, changed, given_row, inserted, updated, deleted, set_fails, after_set, met_rows, shown}
use Rattle.wat_scans.specs.Running.{Task, Run, Next.ToReply, change_next, made_next, next, defs_of, rows_found, with_target, made_by}
use Rattle.wat_scans.proofs.Going.{IsDone, done_reply}
use Rattle.wat_steps.specs.Statements.{answer_saying}
use Rattle.wat_tied.proofs.Telling.{IsReplyAnswer}

abbrev IsOnRows : Reply → Type 0
IsOnRows (meant.Rows rows) = Unit {0}
IsOnRows (meant.Inserted n) = Unit {0}
IsOnRows (meant.Updated n) = Unit {0}
IsOnRows (meant.Deleted n) = Unit {0}
IsOnRows meant.Created = ⊥
IsOnRows meant.Dropped = ⊥
IsOnRows (meant.Refused x) = Unit {0}

abbrev IsMadeOnRows : Result Made Refusal → Type 0
IsMadeOnRows (Ok (Shown rows)) = Unit {0}
IsMadeOnRows (Ok (Changing reply changes)) = IsOnRows reply
IsMadeOnRows (Ok (Altering reply alteration)) = ⊥
IsMadeOnRows (Err x) = Unit {0}

refused_on : (reply : Reply) (changes : List Change) → IsOnRows reply → (o : Option Refusal) → IsMadeOnRows (or_refused (Changing reply changes) o)
refused_on reply changes h None = h
refused_on reply changes h (Some x) = tt

target_on : (target : Option Listing) (name : Name) (make : TableDef → Result Made Refusal) → ((def : TableDef) → IsMadeOnRows (make def)) → IsMadeOnRows (with_target target name make)
target_on None name make each = tt
target_on (Some l) name make each = each l.def

inserted_on : (columns : Option (List Name)) (found : Finished) (def : TableDef) → IsMadeOnRows (inserted columns found def)
inserted_on columns finished.Arithmetic def = tt
inserted_on columns (finished.Rows values) def =
    let rows = map (given_row def columns) values in
    refused_on (meant.Inserted (length (map (change.Insert def.number) rows))) (map (change.Insert def.number) rows) tt (first (row_faults def rows))

updated_on : (sets : List SetItem) (met : List Combination) (def : TableDef) → IsMadeOnRows (updated sets met def)
updated_on sets met def = by (set_fails sets (met_rows def met))
  where
    changes : List Change
    changes = map (λ row. change.Update def.number row (after_set def sets row)) (met_rows def met)

    by : (b : Bool) → IsMadeOnRows (if b then Err Arithmetic else changed def (map (after_set def sets) (met_rows def met)) meant.Updated changes)
    by true = tt
    by false = refused_on (meant.Updated (length changes)) changes tt (first (row_faults def (map (after_set def sets) (met_rows def met))))

shown_on : (found : Finished) → IsMadeOnRows (shown found)
shown_on finished.Arithmetic = tt
shown_on (finished.Rows rows) = tt

made_on : (task : Task) (met : List Combination) (x : Statement) → IsMadeOnRows (made_by task met x)
made_on task met (s.Insert table columns source) = target_on task.target table (inserted columns (rows_found task.plan source met)) (λ def. inserted_on columns (rows_found task.plan source met) def)
made_on task met (s.Update table sets filter) = target_on task.target table (updated sets met) (λ def. updated_on sets met def)
made_on task met (s.Delete table filter) = target_on task.target table (deleted met) (λ def. tt)
made_on task met (s.Select q) = shown_on (finish q (defs_of task.plan) met)
made_on task met (s.CreateTable name elements) = tt
made_on task met (s.CreateIndex name table columns) = tt
made_on task met (s.DropTable name) = tt
made_on task met s.Commit = tt
made_on task met s.Checkpoint = tt
made_on task met s.Rollback = tt
made_on task met (s.RollbackTo name) = tt
made_on task met (s.Savepoint name) = tt
made_on task met (s.Release name) = tt
made_on task met (s.SetLevel level) = tt
made_on task met (s.SetBlocking on) = tt

pub never_altering : (task : Task) (met : List Combination) (x : Statement) (reply : Reply) (alteration : _) → made_by task met x ≡ Ok (Altering reply alteration) → ⊥
never_altering task met x reply alteration h = subst IsMadeOnRows h (made_on task met x)

reply_on : (run : Run) (r : Reply) → next run ≡ ToReply r → IsOnRows r
reply_on run r h = by (made_by run.task d.at.met run.task.statement) d.is (made_on run.task d.at.met run.task.statement)
  where
    d : IsDone run (ToReply r)
    d = done_reply run r h

    last : (reply : Reply) (left : List Change) → change_next reply left ≡ ToReply r → reply ≡ r
    last reply [] j = cc
    last reply (x ∷ left) j = absurd (cc)

    by : (o : Result Made Refusal) → made_next run.made o ≡ ToReply r → IsMadeOnRows o → IsOnRows r
    by (Err x) j k = absurd (cc)
    by (Ok (Altering reply alteration)) j k = absurd k
    by (Ok (Shown rows)) j k = let same : meant.Rows rows ≡ r = cc in subst IsOnRows same tt
    by (Ok (Changing reply changes)) j k = subst IsOnRows (last reply (drop (length run.made) changes) j) k

says_plain : (r : Reply) → IsOnRows r → IsReplyAnswer (answer_saying 0 r)
says_plain (meant.Rows rows) h = record { done = refl; lasts = refl; commits_none = λ c p. refl }
says_plain (meant.Inserted n) h = record { done = refl; lasts = refl; commits_none = λ c p. refl }
says_plain (meant.Updated n) h = record { done = refl; lasts = refl; commits_none = λ c p. refl }
says_plain (meant.Deleted n) h = record { done = refl; lasts = refl; commits_none = λ c p. refl }
says_plain meant.Created h = absurd h
says_plain meant.Dropped h = absurd h
says_plain (meant.Refused x) h = record { done = refl; lasts = refl; commits_none = λ c p. refl }

pub reply_plain : (run : Run) (r : Reply) → next run ≡ ToReply r → IsReplyAnswer (answer_saying 0 r)
reply_plain run r h = says_plain r (reply_on run r h)
