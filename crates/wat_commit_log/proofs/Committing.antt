-- The tables that restart gives are those that the records of the log have committed.
use Rattle.std.proofs.Common.{◌≡◌, ℕ, ◌==◌, Bool, true, false, cond, List, [], ◌∷◌, ◌++◌, map, Some, All, refl, sym, ◌∙◌, ap, subst, append-nil, append_assoc}
use Rattle.std.specs.List.{flat_map}
use Rattle.std.proofs.lemmas.List.{map-append}
use Rattle.std.proofs.lemmas.List.Elements.{All-head, All-tail}
use Rattle.wat_value.specs.declared.change.Change.{Change}
use Rattle.wat_value.specs.declared.change.Act.{Act}
use Rattle.wat_value.specs.declared.change.Act.TheVariants.{OnRow, OnSchema}
use Rattle.wat_schema.specs.Tables.{Tables, apply_all, no_tables}
use Rattle.wat_gate.specs.Bodies.{bodies}
use Rattle.wat_log_record.specs.declared.log_record.LogRecord.{LogRecord}
use Rattle.wat_log_record.specs.declared.log_record.LogRecord.TheVariants as entries
use Rattle.wat_log_record.specs.Bodies.{SpellsLog}
use Rattle.wat_replay.specs.State.{Lists, no_lists, with_list}
use Rattle.wat_replay.specs.Committed as committed
use Rattle.wat_replay.specs.Committed.{commits_of}
use Rattle.wat_commit_log.specs.Logged.{Transaction, OfRows, OfSchema, acts_of, all_acts, body_of, changed, records_of, IsFramed, Restarts}
use Rattle.wat_commit_log.proofs.LogLaws.{spells_one}

-- the records of these transactions
abbrev all_records : List Transaction → List LogRecord
all_records ts = flat_map records_of ts

spells_all : (ts : List Transaction) → All IsFramed ts → SpellsLog (map body_of ts) (all_records ts)
spells_all [] framed = refl
spells_all (t ∷ ts) framed = (records_of t, all_records ts, spells_one t (All-head IsFramed t ts framed), refl, spells_all ts (All-tail IsFramed t ts framed))

-- connection 1 alone has a list
abbrev only : List Change → Lists
only changes = with_list 1 changes no_lists

by_conn : (b : Bool) (new old : List Change) → cond b new (cond b old []) ≡ cond b new []
by_conn true new old = refl
by_conn false new old = refl

only_again : (new old : List Change) → with_list 1 new (only old) ≡ only new
only_again new old = λ i conn. by_conn (1 == conn) new old i

both_none : (b : Bool) → ◌≡◌ {A = List Change} (cond b [] []) []
both_none true = refl
both_none false = refl

only_none : only [] ≡ no_lists
only_none = λ i conn. both_none (1 == conn) i

-- the changes since these, and the Commit
rows_committed : (since changes : List Change) (rest : List LogRecord) → commits_of ((map changed changes ++ entries.Commit 1 ∷ []) ++ rest) (only since) ≡ map OnRow (since ++ changes) ++ commits_of rest no_lists
rows_committed since [] rest =
    let none : with_list 1 [] (only since) ≡ no_lists = only_again [] since ∙ only_none in
    ap (λ (lists : Lists). map OnRow since ++ commits_of rest lists) none
    ∙ ap (λ (changes : List Change). map OnRow changes ++ commits_of rest no_lists) (sym (append-nil since))
rows_committed since (change ∷ changes) rest =
    let more = since ++ change ∷ [] in
    ap (commits_of ((map changed changes ++ entries.Commit 1 ∷ []) ++ rest)) (only_again more since)
    ∙ rows_committed more changes rest
    ∙ ap (λ (all : List Change). map OnRow all ++ commits_of rest no_lists) (append_assoc since (change ∷ []) changes)

one_committed : (t : Transaction) (rest : List LogRecord) → commits_of (records_of t ++ rest) no_lists ≡ acts_of t ++ commits_of rest no_lists
one_committed (OfRows changes) rest = ap (commits_of ((map changed changes ++ entries.Commit 1 ∷ []) ++ rest)) (sym only_none) ∙ rows_committed [] changes rest
one_committed (OfSchema change) rest = refl

all_committed : (ts : List Transaction) → commits_of (all_records ts) no_lists ≡ all_acts ts
all_committed [] = refl
all_committed (t ∷ ts) = one_committed t (all_records ts) ∙ ap (λ (acts : List Act). acts_of t ++ acts) (all_committed ts)

pub restarts_committed : (content : List ℕ) (t : Tables) → Restarts content t → committed.Restarts (bodies content) t
restarts_committed content t r =
    let ts = r.transactions in
    record {
      entries = all_records ts;
      spelled = subst (λ (all : List (List ℕ)). SpellsLog all (all_records ts)) (sym r.logged.bodies) (spells_all ts r.logged.framed);
      committed = ap (λ (acts : List Act). apply_all acts no_tables) (all_committed ts) ∙ r.is;
    }
