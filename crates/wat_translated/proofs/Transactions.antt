-- The transactions of a log are all that it commits.
use Rattle.std.proofs.Common.{◌≡◌, List, [], ◌∷◌, ◌++◌, map, refl, sym, ap, ap₂, ◌∙◌, append_assoc, append-nil}
use Rattle.wat_value.specs.declared.change.Change.{Change}
use Rattle.wat_value.specs.declared.change.Act.{Act}
use Rattle.wat_value.specs.declared.change.Act.TheVariants.{OnRow, OnSchema}
use Rattle.wat_log_record.specs.declared.log_record.LogRecord.{LogRecord}
use Rattle.wat_log_record.specs.declared.log_record.LogRecord.TheVariants.{Changed, UndoTo, Commit, Rollback, Schema}
use Rattle.wat_replay.specs.State.{Lists}
use Rattle.wat_replay.specs.Replay.{lists_after}
use Rattle.wat_replay.specs.Committed.{commits, commits_of}
use Rattle.wat_script_texts.specs.Written.{acts_of}
use Rattle.wat_translated.specs.Translated.{unless_empty, transaction, transactions_of}

acts_more : (xs ys : List (List Act)) → acts_of (xs ++ ys) ≡ acts_of xs ++ acts_of ys
acts_more [] ys = refl
acts_more (x ∷ xs) ys = ap (λ rest. x ++ rest) (acts_more xs ys) ∙ sym (append_assoc x (acts_of xs) (acts_of ys))

acts_unless : (changes : List Change) → acts_of (unless_empty changes) ≡ map OnRow changes
acts_unless [] = refl
acts_unless (change ∷ changes) = append-nil (map OnRow (change ∷ changes))

acts_one : (entry : LogRecord) (lists : Lists) → acts_of (transaction entry lists) ≡ commits entry lists
acts_one (Changed conn change) lists = refl
acts_one (UndoTo conn count) lists = refl
acts_one (Commit conn) lists = acts_unless (lists conn)
acts_one (Rollback conn) lists = refl
acts_one (Schema change) lists = refl

pub all_acts : (entries : List LogRecord) (lists : Lists) → acts_of (transactions_of entries lists) ≡ commits_of entries lists
all_acts [] lists = refl
all_acts (entry ∷ entries) lists =
    acts_more (transaction entry lists) (transactions_of entries (lists_after entry lists))
    ∙ ap₂ (λ xs ys. xs ++ ys) (acts_one entry lists) (all_acts entries (lists_after entry lists))
