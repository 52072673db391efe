-- How the calls of pages and of the log, one behind another, make one call of a store.
use Rattle.std.proofs.Common.{◌≡◌, ◌≢◌, ℕ, ◌≤◌, length, List, [], ◌∷◌, ◌++◌, Some, refl, sym, ap, ◌∙◌, subst, arith, append-nil, Bool, true, false, cond, if◌then◌else◌}
use Rattle.std.specs.Prelude.{nat_eq, Option, None, unwrap_or}
use Rattle.std.specs.Map.{lookup}
use Rattle.wat_disk.specs.Disk.{Image, Told, EachStop, SameOthers}
use Rattle.wat_gate.specs.Bodies.{bodies, end_of, IsWhole}
use Rattle.wat_gate.specs.GateLog.{file_of, IsLogOf}
use Rattle.wat_restore.specs.Restored.{Checkpoint, OnlyPages, images_in, page_at}
use Rattle.wat_restore.specs.Safe.{IsSafe}
use Rattle.wat_book.specs.Book.{Book}
use Rattle.wat_pages.specs.declared.pages.Pages.{Pages}
use Rattle.wat_pages.specs.Pages.{limit_of, stored_of, count_of, first_free_of, page_in, book_of, IsPagesOf}
use Rattle.wat_cells.specs.Going.{Goes, Keeps}
use Rattle.wat_value.specs.declared.change.Change.{Change}
use Rattle.wat_value.specs.declared.change.SchemaChange.{SchemaChange}
use Rattle.wat_schema.specs.Definitions.{allows}
use Rattle.wat_schema.specs.Tables.{Tables, after_alter, catalog_of}
use Rattle.wat_log_record.specs.declared.log_record.LogRecord.{LogRecord}
use Rattle.wat_log_record.specs.declared.log_record.LogRecord.TheVariants.{Changed, Schema}
use Rattle.wat_log.specs.declared.record_log.Log.{Log}
use Rattle.wat_log.specs.Log.{gate_of, HasNoted, IsOpenLog}
use Rattle.wat_replay.specs.State.{State, IsLawful, undone, with_list}
use Rattle.wat_replay.specs.Replay.{Applies, AppliesAll}
use Rattle.wat_replay.specs.Committed.{CommitsNothing}
use Rattle.wat_replay.proofs.Replaying.{stays_lawful}
use Rattle.wat_keeping.specs.Durable.{LeavesEither}
use Rattle.wat_keeping.specs.Kept.{IsKept}
use Rattle.wat_keeping.proofs.Calls.{pages_stopped, pages_stay, note, committed, call_behind}
use Rattle.wat_objects.specs.declared.objects.Objects.{Objects}
use Rattle.wat_objects.specs.Objects.{pages_of, Holds, HoldsOn}
use Rattle.wat_store.specs.Parts.{IsStore, AreOpen, StopsAt}
use Rattle.wat_store.proofs.Appended as appended

-- ---- calls of the pages

log_stays : (old new : Told) (log : Log) → file_of (gate_of log) ≡ 2 → new.content 2 ≡ old.content 2 → IsOpenLog old log → IsOpenLog new log
log_stays old new log file same is =
    let here : new.content (file_of (gate_of log)) ≡ old.content (file_of (gate_of log)) = ap new.content file ∙ same ∙ ap old.content (sym file) in
    record {
      whole = subst IsWhole (sym here) is.whole;
      frames = is.frames ∙ ap (λ (l : List ℕ). length (bodies l)) (sym here);
      end = is.end ∙ ap end_of (sym here);
    }

-- over a call of the pages the log stays as it is
pub log_beside : (old new : Told) (log : Log) → OnlyPages old.content new.content → IsOpenLog old log → IsOpenLog new log
log_beside old new log only is = log_stays old new log log.known_file (only 2 (omega arith)) is

pub kept_beside : (old new : Told) (objects after : Objects) (noted : List LogRecord) (s : State) (t : Tables) → IsKept (limit_of (pages_of objects)) (stored_of (pages_of objects)) old noted s t
    → Goes old new (pages_of objects) (pages_of after) → Keeps old new (pages_of after) → IsKept (limit_of (pages_of after)) (stored_of (pages_of after)) new noted s t
kept_beside old new objects after noted s t k goes keeps =
    subst (λ (n : ℕ). IsKept n (stored_of (pages_of after)) new noted s t) (sym goes.limit)
    (subst (λ (n : ℕ). IsKept (limit_of (pages_of objects)) n new noted s t) (sym goes.stored)
    (pages_stay old new (limit_of (pages_of objects)) (stored_of (pages_of objects)) noted s t k goes.stops (record { others = goes.others; safe = keeps.safe })))

pub stops_beside : (old new : Told) (objects after : Objects) (log : Log) (s : State) (t : Tables) → IsStore old objects log s t → Goes old new (pages_of objects) (pages_of after) → StopsAt old new objects t t
stops_beside old new objects after log s t is goes =
    pages_stopped old new (limit_of (pages_of objects)) (stored_of (pages_of objects)) is.noted s t is.kept goes.stops

-- a read
pub stands_beside : (old new : Told) (objects after : Objects) (log : Log) (s : State) (t : Tables) → IsStore old objects log s t → Goes old new (pages_of objects) (pages_of after) → Keeps old new (pages_of after) → Holds new after s
    → IsStore new after log s t
stands_beside old new objects after log s t is goes keeps holds = record {
  holds = holds;
  records = log_beside old new log goes.others is.records;
  noted = is.noted;
  has = is.has;
  kept = kept_beside old new objects after is.noted s t is.kept goes keeps;
  lawful = is.lawful;
}

-- the premises of what the objects say of damage
pub safe_of : (told : Told) (objects : Objects) (log : Log) (s : State) (t : Tables) → (is : IsStore told objects log s t) → IsSafe is.kept.saved told × (is.kept.saved.count ≡ stored_of (pages_of objects))
safe_of told objects log s t is = (is.kept.durable.pages, is.kept.counted)

-- ---- calls of the log

book_stays : (old new : Told) (pages : Pages) → SameOthers 2 old.content new.content → book_of old pages ≡ book_of new pages
unfolding page_in
book_stays old new pages same =
    let main : old.content 0 ≡ new.content 0 = sym (same 0 (λ e. omega (arith, e))) in
    let images : old.content 1 ≡ new.content 1 = sym (same 1 (λ e. omega (arith, e))) in
    λ i. record {
      count = count_of pages;
      page = λ page. unwrap_or (lookup (nat_eq page) pages.changed.entries) (unwrap_or (lookup (nat_eq page) (images_in (images i))) (page_at (main i) page));
      first_free = first_free_of pages;
    }

pub holds_beside : (old new : Told) (objects : Objects) (s : State) → SameOthers 2 old.content new.content → Holds old objects s → Holds new objects s
holds_beside old new objects s same is = record {
  known = appended.pages_stay old new (pages_of objects) (pages_of objects).before_file same is.known;
  on = subst (λ (book : Book). HoldsOn book objects s) (book_stays old new (pages_of objects) same) is.on;
}

-- What was noted is flushed: it commits nothing.
pub flushed : (old new : Told) (objects : Objects) (log after : Log) (s : State) (t : Tables) → IsStore old objects log s t → SameOthers 2 old.content new.content → IsOpenLog new after → HasNoted after []
    → ((noted more : List LogRecord) (s next : State) (t after : Tables) → IsKept (limit_of (pages_of objects)) (stored_of (pages_of objects)) old noted s t → HasNoted log (noted ++ more) → AppliesAll more s next → undone next ≡ Some after
    → IsKept (limit_of (pages_of objects)) (stored_of (pages_of objects)) new [] next after)
    → IsStore new objects after s t
flushed old new objects log after s t is same opened none kept = record {
  holds = holds_beside old new objects s same is.holds;
  records = opened;
  noted = [];
  has = none;
  kept = kept is.noted [] s s t t is.kept (subst (λ (l : List LogRecord). HasNoted log l) (sym (append-nil is.noted)) is.has) refl
      (committed old (limit_of (pages_of objects)) (stored_of (pages_of objects)) is.noted s t is.kept);
  lawful = is.lawful;
}

pub flush_stops : (old new : Told) (objects : Objects) (log : Log) (s : State) (t : Tables) → IsStore old objects log s t
    → ((noted more : List LogRecord) (s next : State) (t after : Tables) → IsKept (limit_of (pages_of objects)) (stored_of (pages_of objects)) old noted s t → HasNoted log (noted ++ more) → AppliesAll more s next → undone next ≡ Some after
    → EachStop old new (LeavesEither (limit_of (pages_of objects)) t after))
    → StopsAt old new objects t t
flush_stops old new objects log s t is stops =
    stops is.noted [] s s t t is.kept (subst (λ (l : List LogRecord). HasNoted log l) (sym (append-nil is.noted)) is.has) refl
    (committed old (limit_of (pages_of objects)) (stored_of (pages_of objects)) is.noted s t is.kept)
