-- What more records add to what a log has committed.
use Rattle.std.proofs.Common.{◌≡◌, ℕ, List, [], ◌∷◌, ◌++◌, Option, Some, None, refl, sym, ap, ◌∙◌, append_assoc}
use Rattle.std.specs.List.{AllByRecursion}
use Rattle.std.specs.Option.{option_and_then}
use Rattle.std.proofs.lemmas.List.{append-nil}
use Rattle.wat_schema.specs.Tables.{Tables, apply_all, no_tables}
use Rattle.wat_log_record.specs.declared.log_record.LogRecord.{LogRecord}
use Rattle.wat_log_record.specs.declared.log_record.LogRecord.TheVariants.{Changed, UndoTo, Commit, Rollback, Schema}
use Rattle.wat_log_record.specs.Bodies.{SpellsLog, SpellsRecords}
use Rattle.wat_log_record.proofs.Cancelling.{log_once}
use Rattle.wat_replay.specs.State.{Lists, no_lists}
use Rattle.wat_replay.specs.Replay.{lists_after}
use Rattle.wat_replay.specs.Committed.{CommitsNothing, Restarts, commits, commits_of, committed, lists_after_all, open_lists}
use Rattle.wat_replay.proofs.Replaying.{apply_all-append}

commits_append : (entries more : List LogRecord) (lists : Lists) → commits_of (entries ++ more) lists ≡ commits_of entries lists ++ commits_of more (lists_after_all entries lists)
commits_append [] more lists = refl
commits_append (entry ∷ entries) more lists =
    ap (λ acts. commits entry lists ++ acts) (commits_append entries more (lists_after entry lists))
    ∙ sym (append_assoc (commits entry lists) (commits_of entries (lists_after entry lists)) (commits_of more (lists_after_all entries (lists_after entry lists))))

pub frame_more : (entries more : List LogRecord) → committed (entries ++ more) ≡ option_and_then (apply_all (commits_of more (open_lists entries))) (committed entries)
frame_more entries more =
    ap (λ acts. apply_all acts no_tables) (commits_append entries more no_lists)
    ∙ apply_all-append (commits_of entries no_lists) (commits_of more (open_lists entries)) no_tables

one_quiet : (entry : LogRecord) (lists : Lists) → CommitsNothing entry → commits entry lists ≡ []
one_quiet (Changed conn change) lists q = refl
one_quiet (UndoTo conn count) lists q = refl
one_quiet (Commit conn) lists q = absurd q
one_quiet (Rollback conn) lists q = refl
one_quiet (Schema change) lists q = absurd q

pub none_committed : (entries : List LogRecord) (lists : Lists) → AllByRecursion CommitsNothing entries → commits_of entries lists ≡ []
none_committed [] lists q = refl
none_committed (entry ∷ entries) lists q =
    ap (λ acts. acts ++ commits_of entries (lists_after entry lists)) (one_quiet entry lists q.0) ∙ none_committed entries (lists_after entry lists) q.1

nothing_more : (o : Option Tables) → option_and_then (apply_all []) o ≡ o
nothing_more None = refl
nothing_more (Some t) = refl

pub quiet_frame : (entries more : List LogRecord) → AllByRecursion CommitsNothing more → committed (entries ++ more) ≡ committed entries
quiet_frame entries more q =
    frame_more entries more ∙ ap (λ acts. option_and_then (apply_all acts) (committed entries)) (none_committed more (open_lists entries) q) ∙ nothing_more (committed entries)

pub body_more : (bodies : List (List ℕ)) (body : List ℕ) (entries more : List LogRecord) → SpellsLog bodies entries → SpellsRecords body more → SpellsLog (bodies ++ body ∷ []) (entries ++ more)
body_more [] body entries more none spelled = (more, [], spelled, ap (λ front. front ++ more) none ∙ sym (append-nil more), refl)
body_more (first ∷ bodies) body entries more s spelled =
    (s.0, s.1 ++ more, s.2, ap (λ xs. xs ++ more) s.3 ∙ append_assoc s.0 s.1 more, body_more bodies body s.1 more s.4 spelled)

pub restarts_once : (bodies : List (List ℕ)) (t u : Tables) → Restarts bodies t → Restarts bodies u → t ≡ u
restarts_once bodies t u a b =
    let one : Some t ≡ Some u = sym a.committed ∙ ap committed (log_once bodies a.entries b.entries a.spelled b.spelled) ∙ b.committed in
    cc
