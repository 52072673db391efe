-- A session, seen from before the opening of its log.
use Rattle.std.proofs.Common.{◌≡◌, ℕ, ◌+◌, ◌*◌, List, [], ◌∷◌, take, length, Option, None, Some, Result, Ok, Err, refl, sym, ◌∙◌, subst, arith}
use Rattle.wat_disk.specs.Disk.{Told, IsSynced, MakesCalls}
use Rattle.wat_gate.specs.Bodies.{bodies}
use Rattle.wat_stops.specs.Commits.{KeepsCommits}
use Rattle.wat_stops.proofs.CommitsLemmas.{keeps_earlier}
use Rattle.wat_stops.proofs.MomentsLemmas.{moments_earlier}
use Rattle.wat_schema.specs.Tables.{IsTables, Tables}
use Rattle.wat_commit_log.specs.Logged.{Transaction, log_file, Restarts}
use Rattle.wat_conn.specs.declared.answer.Reason.{Reason}
use Rattle.wat_conn.specs.declared.session.Session.{Session}
use Rattle.wat_session.specs.Session.{HasCommitted, IsSession, Setting, commits_on, tables_after}
use Rattle.wat_commit_log.specs.Opening.{MayOpen}
use Rattle.wat_commit_log.specs.declared.opening.OpenWhy.{OpenWhy}
use Rattle.std.specs.Prelude.{⊤}
use Rattle.wat_one_history.proofs.OneHistory.{one_history}
use Rattle.wat_dump.specs.Dump.{dump_text}
use Rattle.wat_words.specs.Commands.{command_of}
use Rattle.wat_words.specs.declared.Command.{Command}
use Rattle.wat_words.specs.declared.Command.TheVariants.{Init, Run, Translate, Dump}
use Rattle.wat_begin.specs.Readings.{scripts_of}
use Rattle.wat_begin.specs.declared.fault.Fault.{Fault}
use Rattle.wat_tool.specs.Called.{made, opened}
use Rattle.wat_tool.specs.Dumps.{EndsDumped}
use Rattle.wat_tool.specs.Ending.{Outside, Ends, EndsBy, EndsMade, EndsPlayed, EndsRead, HasOneHistory, IsSessionOf, IsUntouched, ended, over}
use Rattle.wat_begin.specs.declared.fault.Fault.TheVariants.{Usage}
use Rattle.wat_tool.specs.declared.performing.Done.{Done}
use Rattle.wat_tool.specs.declared.performing.Done.TheVariants.{Made, Played, Dumped}
use Rattle.wat_tool.proofs.CalledLemmas.{opened_tables}

-- before the first transaction
tables_before : (base : Tables) (transactions : List Transaction) → base ≡ tables_after base (take 0 transactions)
tables_before base [] = refl
tables_before base (t ∷ ts) = refl

-- A session after calls that changed nothing is one since before them.
module _ (before : Told) (s : Setting) (untouched : IsUntouched before s.entry) (faults : s.entry.faults ≡ before.faults) where
  leaves_earlier : (transactions cut : List Transaction) (stop : Option Reason) (moments : List ℕ) → HasCommitted s transactions cut stop moments → HasCommitted (record s { entry = before }) transactions cut stop moments
  leaves_earlier transactions cut stop moments is = record {
    commits = is.commits;
    order = moments_earlier before.moment s.entry.moment s.now.moment moments untouched.stops.later is.order;
    noted = is.noted;
    calls = is.calls;
    cut_calls = is.cut_calls;
    reason = is.reason;
    disk_fault = λ stop. let rose = is.disk_fault stop in omega (arith, rose, faults);
    at_commit = is.at_commit;
    never_falls = omega (arith, is.never_falls, faults);
    faults_stay = λ well. is.faults_stay well ∙ faults;
    others = λ other not_it. is.others other not_it ∙ untouched.content other;
    kept = is.kept;
  }

  synced_later : IsSynced before s.file → IsSynced s.entry s.file
  synced_later synced image left =
      let found = untouched.stops.each s.entry.moment image untouched.stops.later (omega arith) left in
      found.2 s.file ∙ synced found.0 found.1 ∙ sym (untouched.content s.file)

  stops_earlier : (transactions cut : List Transaction) (moments : List ℕ) → s.tells → Restarts (before.content s.file) s.base → IsSynced before s.file → KeepsCommits (commits_on s transactions cut moments)
      → KeepsCommits (commits_on (record s { entry = before }) transactions cut moments)
  stops_earlier transactions cut moments told restarts synced keeps = keeps_earlier before (commits_on s transactions cut moments) untouched.stops
      (λ image left. subst (λ (log : List ℕ). Restarts log (tables_after s.base (take 0 transactions))) (sym (synced image left))
      (subst (Restarts (before.content s.file)) (tables_before s.base transactions) restarts))
      (λ one other same has. subst (λ (log : List ℕ). Restarts log (tables_after s.base (take 0 transactions))) (sym (same s.file)) has)
      keeps

  pub session_earlier : (texts : List (List ℕ)) (session : Session) → (s.tells → Restarts (before.content s.file) s.base) → IsSession s texts session → IsSession (record s { entry = before }) texts session
  session_earlier texts session restarts is = record {
    scripts = is.scripts;
    text = is.text;
    one_text = is.one_text;
    transcript = is.transcript;
    one_transcript = is.one_transcript;
    answered = is.answered;
    last = is.last;
    turns = is.turns;
    entries = is.entries;
    names = is.names;
    leaves = leaves_earlier _ _ session.stop session.moments.items is.leaves;
    stops = λ told synced. stops_earlier _ _ session.moments.items told (restarts told) synced (is.stops told (synced_later synced));
  }

-- A session over the log that was opened at mid is one of the whole call.
pub session_of : (outside : Outside) (mid : Told) (texts : List (List ℕ)) (tables : Tables) (session : Session) (frames : ℕ) →
    IsUntouched outside.disk_before mid → mid.faults ≡ outside.disk_before.faults → MakesCalls (6 * frames + 3) outside.disk_before mid →
    (outside.tells → frames ≡ length (bodies (outside.disk_before.content log_file))) → (outside.tells → Restarts (outside.disk_before.content log_file) tables) → IsTables tables →
    IsSession (record { tells = outside.tells; entry = mid; now = outside.disk; start = mid.moment; file = log_file; base = tables }) texts session → IsSessionOf outside texts tables session
session_of outside mid texts tables session frames untouched faults calls counted restarts good plays =
    let s : Setting = record { tells = outside.tells; entry = mid; now = outside.disk; start = mid.moment; file = log_file; base = tables } in
    let is : IsSession (over outside tables frames) texts session =
    subst (λ (start : ℕ). IsSession (record { tells = outside.tells; entry = outside.disk_before; now = outside.disk; start = start; file = log_file; base = tables }) texts session) calls
    (session_earlier outside.disk_before s untouched faults texts session restarts plays) in
    record { frames = frames; counted = counted; is = is; one = one_history (over outside tables frames) texts session good is }

-- ---- the history of a session that was played

no_fault : (session : Session) (fault : Fault) (T : Type 0) → Ok (Played session) ≡ Err fault → T
no_fault session fault T is = cc

not_made : (ended : Result Done Fault) (session : Session) (T : Type 0) → ended ≡ Ok (Played session) → ended ≡ Ok Made → T
not_made ended session T is made = cc

played_has : (outside : Outside) (texts : List (List ℕ)) (opening : Result Tables OpenWhy) (rose : Type 0) (session : Session) → MayOpen outside.tells (outside.disk_before.content log_file) rose opening
    → (tables : Result Tables Fault) → tables ≡ opened opening → EndsPlayed outside texts tables (Ok (Played session)) → HasOneHistory outside session
played_has outside texts opening rose session may (Ok tables) is ends =
    record { base = tables; restarts = opened_tables outside.tells (outside.disk_before.content log_file) rose opening tables is may; frames = ends.frames; one = ends.one }
played_has outside texts opening rose session may (Err fault) is ends = no_fault session fault _ ends

read_has : (outside : Outside) (session : Session) (texts : Result (List (List ℕ)) Fault) → EndsRead outside texts (Ok (Played session)) → HasOneHistory outside session
read_has outside session (Ok texts) ends = played_has outside texts ends.opening _ session ends.may_open (opened ends.opening) refl ends.is
read_has outside session (Err fault) ends = no_fault session fault _ ends

made_has : (outside : Outside) (session : Session) (making : Result ⊤ Fault) → EndsMade outside making (Ok (Played session)) → HasOneHistory outside session
made_has outside session (Ok done) ends = not_made (Ok (Played session)) session _ refl ends.0
made_has outside session (Err fault) ends = no_fault session fault _ ends

not_dumped : (ended : Result Done Fault) (session : Session) (text : List ℕ) (T : Type 0) → ended ≡ Ok (Played session) → ended ≡ Ok (Dumped text) → T
not_dumped ended session text T is dumped = cc

dumped_has : (outside : Outside) (session : Session) (tables : Result Tables Fault) → EndsDumped outside.tells tables (Ok (Played session)) → HasOneHistory outside session
dumped_has outside session (Ok tables) ends = not_dumped (Ok (Played session)) session (dump_text tables) _ refl ends.is
dumped_has outside session (Err fault) ends = no_fault session fault _ ends

by_has : (outside : Outside) (words : List (List ℕ)) (session : Session) (command : Option Command) → EndsBy outside words command (Ok (Played session)) → HasOneHistory outside session
by_has outside words session None ends = no_fault session Usage _ ends
by_has outside words session (Some Init) ends = made_has outside session (made ends.making) ends.is
by_has outside words session (Some Run) ends = read_has outside session (scripts_of 1 ends.readings) ends.is
by_has outside words session (Some Translate) ends = absurd ends
by_has outside words session (Some Dump) ends = dumped_has outside session (opened ends.opening) ends.is

-- A session that was played has one history.
pub ends_has : (outside : Outside) (words : List (List ℕ)) (session : Session) → Ends outside words (Ok (Played session)) → HasOneHistory outside session
ends_has outside words session ends = by_has outside words session (command_of words) ends

-- where the outcome is that of `run`
pub outcome_has : (outside : Outside) (words : List (List ℕ)) (outcome : Result Command Fault) (session : Session) (text : List ℕ) → Ends outside words (ended outcome session text) → outcome ≡ Ok Run → HasOneHistory outside session
outcome_has outside words outcome session text ends is = ends_has outside words session (subst (λ (o : Result Command Fault). Ends outside words (ended o session text)) is ends)
