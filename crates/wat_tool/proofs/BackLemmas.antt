-- A log that is read back fails nowhere, and its text gives its tables.
use Rattle.std.proofs.Common.{◌≡◌, ◌⊎◌, ⊎_elim, ℕ, List, [], ◌∷◌, ◌++◌, Ok, Some, refl, sym, ◌∙◌, subst}
use Rattle.wat_schema.specs.Tables.{Tables, no_tables}
use Rattle.wat_gate.specs.Bodies.{bodies}
use Rattle.wat_commit_log.proofs.Refused.{broken_not_whole}
use Rattle.wat_log_record.specs.declared.log_record.LogRecord.{LogRecord}
use Rattle.wat_log_record.specs.Bodies.{SpellsLog}
use Rattle.wat_log_record.proofs.Cancelling.{spelled_once}
use Rattle.wat_replay.specs.Committed as log
use Rattle.wat_replay.specs.Replay.{AppliesAll}
use Rattle.wat_replay.specs.State.{State, empty_state}
use Rattle.wat_replay.proofs.Replaying.{one_next}
use Rattle.wat_files.specs.Formed.{BodiesStop}
use Rattle.wat_serial.specs.Script.{run}
use Rattle.wat_translated.specs.Translated.{translated}
use Rattle.wat_translate.specs.Reading.{FailsAt, IsReadBack}
use Rattle.wat_tool.specs.ReadingBack.{GivesTablesBack}

split : (xs ys : List LogRecord) (s last : State) → AppliesAll (xs ++ ys) s last → (mid : State) × AppliesAll xs s mid × AppliesAll ys mid last
split [] ys s last all = (s, refl, all)
split (x ∷ xs) ys s last all = let rest = split xs ys all.0 last all.2 in (rest.0, (all.0, all.1, rest.1), rest.2)

applied_once : (entries : List LogRecord) (s a b : State) → AppliesAll entries s a → AppliesAll entries s b → a ≡ b
applied_once [] s a b p q = sym p ∙ q
applied_once (entry ∷ entries) s a b p q =
    let same = one_next entry s p.0 q.0 p.1 q.1 in
    applied_once entries q.0 a b (subst (λ mid. AppliesAll entries mid a) same p.2) q.2

-- no body stops the walk
no_stop : (all : List (List ℕ)) (entries : List LogRecord) (s last : State) (stop : ℕ) → SpellsLog all entries → AppliesAll entries s last → BodiesStop all s stop → ⊥
no_stop [] entries s last stop spelled applied stops = stops
no_stop (body ∷ rest) entries s last stop spelled applied stops =
    let parts = split spelled.0 spelled.1 s last (subst (λ (es : List LogRecord). AppliesAll es s last) spelled.3 applied) in
    ⊎_elim
    (λ none. none.1 parts.0 (record { entries = spelled.0; spells = spelled.2; applied = parts.1 }))
    (λ more.
    let same : more.2.entries ≡ spelled.0 = spelled_once body more.2.entries spelled.0 more.2.spells spelled.2 in
    let there = applied_once spelled.0 s more.0 parts.0 (subst (λ (es : List LogRecord). AppliesAll es s more.0) same more.2.applied) parts.1 in
    no_stop rest spelled.1 parts.0 last more.1 spelled.4 parts.2 (subst (λ (at : State). BodiesStop rest at more.1) there more.4))
    stops

pub never_fails : (content text : List ℕ) (at : ℕ) → IsReadBack content text → FailsAt content at → ⊥
never_fails content text at back fails =
    ⊎_elim
    (λ broken. broken_not_whole content at broken back.whole)
    (λ bad. no_stop (bodies content) back.entries empty_state back.reached bad.behind back.spelled back.replays bad.stops)
    fails

pub gives_back : (content : List ℕ) → ((all : List (List ℕ)) (entries : List LogRecord) (t : Tables) → SpellsLog all entries → log.committed entries ≡ Some t → run (translated entries) no_tables ≡ Ok t) → GivesTablesBack content
gives_back content law t restarts = (restarts.entries, restarts.spelled, law (bodies content) restarts.entries t restarts.spelled restarts.committed)
