-- What an append to the log makes of a store: as one frame, what was noted and more.
use Rattle.std.proofs.Common.{◌≡◌, ◌≢◌, ◌⊎◌, ⊎_elim, inl, inr, ℕ, ◌<◌, ◌^◌, List, [], ◌∷◌, ◌++◌, length, Some, refl, sym, ◌∙◌, ap, subst, arith, append-nil}
use Rattle.std.specs.Prelude.{nat_eq, MatchOption}
use Rattle.std.specs.List.{flat_map, AllByRecursion}
use Rattle.std.specs.Map.{lookup}
use Rattle.std.proofs.lemmas.Grind.{flat_map-append}
use Rattle.wat_disk.specs.Disk.{Image, Told, IsSynced, EachStop, InFile, SameOthers}
use Rattle.wat_disk.proofs.Stops.{stays, weaker}
use Rattle.wat_gate.specs.Bodies.{bodies, end_of, IsWhole, KeepsOrAdds}
use Rattle.wat_gate.specs.GateLog.{file_of, IsLogOf}
use Rattle.wat_restore.specs.Restored.{HasPage, StandsIn, images_in}
use Rattle.wat_images.specs.Reading.{SameImages}
use Rattle.wat_pages.specs.Pages.{IsPagesOf}
use Rattle.wat_pages.specs.declared.pages.Pages.{Pages}
use Rattle.wat_schema.specs.Tables.{Tables}
use Rattle.wat_log_record.specs.declared.log_record.LogRecord.{LogRecord}
use Rattle.wat_log_record.specs.declared.log_record.LogRecord.TheVariants.{Changed, UndoTo, Commit, Rollback, Schema}
use Rattle.wat_log_record.specs.Encoding.{record_bytes, IsEncodableRecord}
use Rattle.wat_log_record.specs.Bodies.{SpellsRecords}
use Rattle.wat_log.specs.declared.record_log.Log.{Log}
use Rattle.wat_log.specs.Log.{gate_of, noted_bytes, HasNoted, IsOpenLog}
use Rattle.wat_replay.specs.State.{State, undone}
use Rattle.wat_replay.specs.Replay.{Applies, AppliesAll}
use Rattle.wat_keeping.specs.Durable.{LeavesEither}
use Rattle.wat_keeping.specs.Kept.{IsKept}
use Rattle.wat_keeping.specs.Steps.{MayAppend, Appends}
use Rattle.wat_keeping.proofs.Calls.{now, committed, append_stopped, append_stays}

-- ---- the pages, beside an append to the log

stands_on : (old new : Image) (page : ℕ) (bytes : List ℕ) → new 0 ≡ old 0 → new 1 ≡ old 1 → StandsIn old page bytes → StandsIn new page bytes
stands_on old new page bytes main images stands =
    subst (λ (m : List ℕ). MatchOption (lookup (nat_eq page) (images_in (new 1))) (HasPage m page bytes) (λ image. image ≡ bytes)) (sym main)
    (subst (λ (l : List ℕ). MatchOption (lookup (nat_eq page) (images_in l)) (HasPage (old 0) page bytes) (λ image. image ≡ bytes)) (sym images) stands)

pub pages_stay : (old new : Told) (pages : Pages) → file_of pages.before ≡ 1 → SameOthers 2 old.content new.content → IsPagesOf old pages → IsPagesOf new pages
pages_stay old new pages file same is =
    let main : new.content 0 ≡ old.content 0 = same 0 (λ e. omega (arith, e)) in
    let images : new.content 1 ≡ old.content 1 = same 1 (λ e. omega (arith, e)) in
    let before : new.content (file_of pages.before) ≡ old.content (file_of pages.before) = same (file_of pages.before) (λ e. omega (arith, file, e)) in
    record {
      log = record {
        whole = subst IsWhole (sym before) is.log.whole;
        frames = is.log.frames ∙ ap (λ (l : List ℕ). length (bodies l)) (sym before);
        end = is.log.end ∙ ap end_of (sym before);
      };
      images = subst (λ (l : List ℕ). SameImages pages.images.entries (images_in l)) (sym images) is.images;
      read = λ page bytes found. stands_on old.content new.content page bytes main images (is.read page bytes found);
    }

-- ---- what is noted

some_bytes : (entry : LogRecord) (rest : List ℕ) → record_bytes entry ++ rest ≡ [] → ⊥
some_bytes (Changed conn change) rest e = cc
some_bytes (UndoTo conn count) rest e = cc
some_bytes (Commit conn) rest e = cc
some_bytes (Rollback conn) rest e = cc
some_bytes (Schema change) rest e = cc

pub none_spelled : (entries : List LogRecord) → flat_map record_bytes entries ≡ [] → entries ≡ []
none_spelled [] e = refl
none_spelled (entry ∷ entries) e = absurd (some_bytes entry (flat_map record_bytes entries) e)

pub spells_noted : (log : Log) (entries : List LogRecord) → HasNoted log entries → noted_bytes log ≢ [] → SpellsRecords (noted_bytes log) entries
spells_noted log entries noted some = record {
  spelled = noted.spelled;
  some = λ none. some (noted.spelled ∙ ap (flat_map record_bytes) none);
  encodable = noted.encodable;
}

all_more : (xs ys : List LogRecord) → AllByRecursion IsEncodableRecord xs → AllByRecursion IsEncodableRecord ys → AllByRecursion IsEncodableRecord (xs ++ ys)
all_more [] ys a b = b
all_more (x ∷ xs) ys a b = (a.0, all_more xs ys a.1 b)

some_more : (xs : List LogRecord) (entry : LogRecord) → xs ++ entry ∷ [] ≡ [] → ⊥
some_more [] entry e = cc
some_more (x ∷ xs) entry e = cc

pub spells_commit : (log : Log) (entries : List LogRecord) (conn : ℕ) → HasNoted log entries → conn < 2 ^ 16 → SpellsRecords (noted_bytes log ++ record_bytes (Commit conn)) (entries ++ Commit conn ∷ [])
spells_commit log entries conn noted small = record {
  spelled = ap (λ (b : List ℕ). b ++ record_bytes (Commit conn)) noted.spelled
      ∙ sym (flat_map-append record_bytes entries (Commit conn ∷ []) ∙ ap (λ (b : List ℕ). flat_map record_bytes entries ++ b) (append-nil (record_bytes (Commit conn))));
  some = some_more entries (Commit conn);
  encodable = all_more entries (Commit conn ∷ []) noted.encodable (small, tt);
}

-- ---- nothing was noted

none_left : (xs ys : List LogRecord) → xs ++ ys ≡ [] → (xs ≡ []) × (ys ≡ [])
none_left [] ys e = (refl, e)
none_left (x ∷ xs) ys e = cc

-- What holds where no byte is noted: no record is, and the tables are the committed ones.
pub record IsSame (noted : List LogRecord) (s next : State) (t after : Tables) : Type 0 where
  pub none : noted ≡ []
  pub state : s ≡ next
  pub tables : t ≡ after

one_state : (t u : Tables) → Some t ≡ Some u → t ≡ u
one_state t u e = cc

pub same_now : (told : Told) (log : Log) (limit stored : ℕ) (noted more : List LogRecord) (s next : State) (t after : Tables) → IsKept limit stored told noted s t → HasNoted log (noted ++ more) → noted_bytes log ≡ []
    → AppliesAll more s next → undone next ≡ Some after → IsSame noted s next t after
same_now told log limit stored noted more s next t after k has none applied is =
    let nothing = none_left noted more (none_spelled (noted ++ more) (sym has.spelled ∙ none)) in
    let state : s ≡ next = subst (λ (m : List LogRecord). AppliesAll m s next) nothing.1 applied in
    record { none = nothing.0; state = state; tables = one_state t after (sym (committed told limit stored noted s t k) ∙ ap undone state ∙ is) }

pub same_stops : (told : Told) (limit stored : ℕ) (noted : List LogRecord) (s : State) (t after : Tables) → IsKept limit stored told noted s t → t ≡ after → EachStop told told (LeavesEither limit t after)
same_stops told limit stored noted s t after k is = stays told (LeavesEither limit t after) (λ image left. inl (now told limit stored noted s t k image left))

pub same_kept : (told : Told) (limit stored : ℕ) (noted : List LogRecord) (s next : State) (t after : Tables) → IsKept limit stored told noted s t → IsSame noted s next t after → IsKept limit stored told [] next after
same_kept told limit stored noted s next t after k same =
    subst (λ (u : Tables). IsKept limit stored told [] next u) same.tables (subst (λ (u : State). IsKept limit stored told [] u t) same.state (subst (λ (n : List LogRecord). IsKept limit stored told n s t) same.none k))

-- ---- the calls

empty_or : (bytes : List ℕ) → (bytes ≡ []) ⊎ (bytes ≢ [])
empty_or [] = inl refl
empty_or (byte ∷ bytes) = inr (λ e. cc)

told_same : (old new : Told) (limit stored : ℕ) (noted : List LogRecord) (s : State) (t after : Tables) → new ≡ old → IsKept limit stored old noted s t → t ≡ after → EachStop old new (LeavesEither limit t after)
told_same old new limit stored noted s t after same k is = subst (λ (d : Told). EachStop old d (LeavesEither limit t after)) (sym same) (same_stops old limit stored noted s t after k is)

-- a flush
pub flush_stops : (old new : Told) (log : Log) (limit stored : ℕ) (noted more : List LogRecord) (s next : State) (t after : Tables) → (noted_bytes log ≡ [] → new ≡ old) → (noted_bytes log ≢ [] → MayAppend (noted_bytes log) old new)
    → IsKept limit stored old noted s t → HasNoted log (noted ++ more) → AppliesAll more s next → undone next ≡ Some after → EachStop old new (LeavesEither limit t after)
flush_stops old new log limit stored noted more s next t after nothing stops k has applied is = ⊎_elim
    (λ (none : noted_bytes log ≡ []).
    told_same old new limit stored noted s t after (nothing none) k (same_now old log limit stored noted more s next t after k has none applied is).tables)
    (λ (some : noted_bytes log ≢ []).
    append_stopped old new limit stored noted more s next t after (noted_bytes log) k (spells_noted log (noted ++ more) has some) applied is (stops some))
    (empty_or (noted_bytes log))

pub flush_kept : (old new : Told) (log : Log) (limit stored : ℕ) (noted more : List LogRecord) (s next : State) (t after : Tables) → (noted_bytes log ≡ [] → new ≡ old) → (noted_bytes log ≢ [] → MayAppend (noted_bytes log) old new)
    → (noted_bytes log ≢ [] → Appends (noted_bytes log) old new)
    → IsKept limit stored old noted s t → HasNoted log (noted ++ more) → AppliesAll more s next → undone next ≡ Some after → IsKept limit stored new [] next after
flush_kept old new log limit stored noted more s next t after nothing stops added k has applied is = ⊎_elim
    (λ (none : noted_bytes log ≡ []).
    subst (λ (d : Told). IsKept limit stored d [] next after) (sym (nothing none))
    (same_kept old limit stored noted s next t after k (same_now old log limit stored noted more s next t after k has none applied is)))
    (λ (some : noted_bytes log ≢ []).
    append_stays old new limit stored noted more s next t after (noted_bytes log) k (spells_noted log (noted ++ more) has some) applied is (stops some) (added some))
    (empty_or (noted_bytes log))

-- beside the log
pub flush_beside : (old new : Told) (log : Log) → (noted_bytes log ≡ [] → new ≡ old) → (noted_bytes log ≢ [] → MayAppend (noted_bytes log) old new) → IsSynced old 2 → EachStop old new (SameOthers 2)
flush_beside old new log nothing stops synced = ⊎_elim
    (λ (none : noted_bytes log ≡ []). subst (λ (d : Told). EachStop old d (SameOthers 2)) (sym (nothing none)) (stays old (SameOthers 2) (λ image left other apart. refl)))
    (λ (some : noted_bytes log ≢ []). weaker old new (InFile 2 (KeepsOrAdds (noted_bytes log))) (SameOthers 2) (stops some synced) (λ before image left step. step.others))
    (empty_or (noted_bytes log))

pub flush_synced : (old new : Told) (log : Log) → (noted_bytes log ≡ [] → new ≡ old) → (noted_bytes log ≢ [] → IsSynced new 2) → IsSynced old 2 → IsSynced new 2
flush_synced old new log nothing some synced = ⊎_elim
    (λ (none : noted_bytes log ≡ []). subst (λ (d : Told). IsSynced d 2) (sym (nothing none)) synced)
    some
    (empty_or (noted_bytes log))

-- a commit
pub commit_stops : (old new : Told) (log : Log) (conn limit stored : ℕ) (noted : List LogRecord) (s next : State) (t after : Tables) → conn < 2 ^ 16 → MayAppend (noted_bytes log ++ record_bytes (Commit conn)) old new
    → IsKept limit stored old noted s t → HasNoted log noted → Applies (Commit conn) s next → undone next ≡ Some after → EachStop old new (LeavesEither limit t after)
commit_stops old new log conn limit stored noted s next t after small stops k has applies is =
    append_stopped old new limit stored noted (Commit conn ∷ []) s next t after (noted_bytes log ++ record_bytes (Commit conn)) k (spells_commit log noted conn has small) (next, applies, refl) is stops

pub commit_keeps : (old new : Told) (log : Log) (conn limit stored : ℕ) (noted : List LogRecord) (s next : State) (t after : Tables) → conn < 2 ^ 16 → MayAppend (noted_bytes log ++ record_bytes (Commit conn)) old new
    → Appends (noted_bytes log ++ record_bytes (Commit conn)) old new → IsKept limit stored old noted s t → HasNoted log noted → Applies (Commit conn) s next → undone next ≡ Some after → IsKept limit stored new [] next after
commit_keeps old new log conn limit stored noted s next t after small stops added k has applies is =
    append_stays old new limit stored noted (Commit conn ∷ []) s next t after (noted_bytes log ++ record_bytes (Commit conn)) k (spells_commit log noted conn has small) (next, applies, refl) is stops added

-- nothing is noted then
pub none_noted : (log : Log) → noted_bytes log ≡ [] → HasNoted log []
none_noted log none = record { spelled = none; encodable = tt }

-- the log is whole, in file 2
pub whole_log : (told : Told) (log : Log) → file_of (gate_of log) ≡ 2 → IsOpenLog told log → IsWhole (told.content 2)
whole_log told log file known = subst (λ (n : ℕ). IsWhole (told.content n)) file known.whole
