-- How a change, an undoing, a commit and a change of the schema are made on the objects and noted.
use Rattle.std.proofs.Common.{◌≡◌, ◌≢◌, ℕ, ◌≤◌, length, List, [], ◌∷◌, ◌++◌, Option, Some, None, refl, sym, ap, ◌∙◌, subst, arith, Bool, true, false, cond, if◌then◌else◌}
use Rattle.wat_disk.specs.Disk.{Told, EachStop, SameOthers}
use Rattle.wat_book.specs.Book.{Book}
use Rattle.wat_pages.specs.declared.pages.Pages.{Pages}
use Rattle.wat_pages.specs.Pages.{limit_of, stored_of, book_of, IsPagesOf}
use Rattle.wat_cells.specs.Going.{Goes, Keeps}
use Rattle.wat_value.specs.declared.change.Change.{Change}
use Rattle.wat_value.specs.declared.change.SchemaChange.{SchemaChange}
use Rattle.wat_schema.specs.Definitions.{allows}
use Rattle.wat_schema.specs.Tables.{Tables, after_alter, catalog_of}
use Rattle.wat_log_record.specs.declared.log_record.LogRecord.{LogRecord}
use Rattle.wat_log_record.specs.declared.log_record.LogRecord.TheVariants.{Changed, UndoTo, Rollback, Schema}
use Rattle.wat_log.specs.declared.record_log.Log.{Log}
use Rattle.wat_log.specs.Log.{gate_of, HasNoted, IsOpenLog}
use Rattle.wat_gate.specs.declared.gate_log.GateLog.{GateLog}
use Rattle.wat_gate.specs.GateLog.{IsLogOf}
use Rattle.wat_replay.specs.State.{State, Lists, IsLawful, undone, with_list}
use Rattle.wat_replay.specs.Replay.{Applies, AppliesAll}
use Rattle.wat_replay.specs.Committed.{CommitsNothing}
use Rattle.wat_replay.proofs.Replaying.{stays_lawful, one_next}
use Rattle.wat_keeping.specs.Durable.{LeavesEither}
use Rattle.wat_keeping.specs.Kept.{IsKept}
use Rattle.wat_keeping.proofs.Calls.{note, call_behind}
use Rattle.wat_objects.specs.declared.objects.Objects.{Objects}
use Rattle.wat_objects.specs.Objects.{pages_of, Holds, HoldsOn}
use Rattle.wat_store.specs.Parts.{IsStore, AreOpen, StopsAt}
use Rattle.wat_store.proofs.Standing.{log_beside, kept_beside}

-- Within a call: the objects hold the one state, and what is noted leads to the other.
pub record IsBetween (told : Told) (objects : Objects) (log : Log) (held s : State) (t : Tables) : Type 0 where
  pub holds : Holds told objects held
  pub records : IsOpenLog told log
  pub noted : List LogRecord
  pub has : HasNoted log noted
  pub kept : IsKept (limit_of (pages_of objects)) (stored_of (pages_of objects)) told noted s t
  pub lawful : IsLawful s

-- the objects have gone on to a state
pub gone_on : (old new : Told) (objects after : Objects) (log : Log) (s held : State) (t : Tables) → IsStore old objects log s t → Goes old new (pages_of objects) (pages_of after) → Keeps old new (pages_of after) → Holds new after held
    → IsBetween new after log held s t
gone_on old new objects after log s held t is goes keeps holds = record {
  holds = holds;
  records = log_beside old new log goes.others is.records;
  noted = is.noted;
  has = is.has;
  kept = kept_beside old new objects after is.noted s t is.kept goes keeps;
  lawful = is.lawful;
}

pub same_gate : (told : Told) (log after : Log) → gate_of after ≡ gate_of log → IsOpenLog told log → IsOpenLog told after
same_gate told log after same is = subst (λ (gate : GateLog). IsLogOf told gate) (sym same) is

-- a record is noted
pub noted_so : (told : Told) (objects : Objects) (log after : Log) (entry : LogRecord) (held s next : State) (t : Tables) → IsBetween told objects log held s t
    → ((noted : List LogRecord) → HasNoted log noted → HasNoted after (noted ++ entry ∷ [])) → gate_of after ≡ gate_of log → Applies entry s next → CommitsNothing entry → IsBetween told objects after held next t
noted_so told objects log after entry held s next t is has gate applies quiet = record {
  holds = is.holds;
  records = same_gate told log after gate is.records;
  noted = is.noted ++ entry ∷ [];
  has = has is.noted is.has;
  kept = note told (limit_of (pages_of objects)) (stored_of (pages_of objects)) is.noted entry s next t is.kept applies quiet;
  lawful = stays_lawful entry s next is.lawful applies;
}

-- the objects have come to the state
pub come : (told : Told) (objects : Objects) (log : Log) (s : State) (t : Tables) → IsBetween told objects log s s t → IsStore told objects log s t
come told objects log s t is = record { holds = is.holds; records = is.records; noted = is.noted; has = is.has; kept = is.kept; lawful = is.lawful }

-- the lists are others, on the same pages
pub held_so : (told : Told) (objects after : Objects) (held next : State) → ((book : Book) → HoldsOn book objects held → HoldsOn book after next) → pages_of after ≡ pages_of objects → Holds told objects held → Holds told after next
held_so told objects after held next on pages is = record {
  known = subst (λ (p : Pages). IsPagesOf told p) (sym pages) is.known;
  on = subst (λ (p : Pages). HoldsOn (book_of told p) after next) (sym pages) (on (book_of told (pages_of objects)) is.on);
}

pub pushed_so : (told : Told) (objects after : Objects) (log : Log) (held next : State) (t : Tables) → IsBetween told objects log held next t → ((book : Book) → HoldsOn book objects held → HoldsOn book after next)
    → pages_of after ≡ pages_of objects → IsStore told after log next t
pushed_so told objects after log held next t is on pages = record {
  holds = held_so told objects after held next on pages is.holds;
  records = is.records;
  noted = is.noted;
  has = is.has;
  kept = subst (λ (p : Pages). IsKept (limit_of p) (stored_of p) told is.noted next t) (sym pages) is.kept;
  lawful = is.lawful;
}

-- the state after a change, as it is pushed
pub changed_state : (s next : State) (conn : ℕ) (change : Change) → Applies (Changed conn change) s next → (record { tables = next.tables; lists = with_list conn (s.lists conn ++ change ∷ []) s.lists }) ≡ next
changed_state s next conn change a = λ i. record { tables = next.tables; lists = sym a.lists i }

-- a change that was made, noted and pushed
pub changed_so : (old new : Told) (objects made after : Objects) (log noted : Log) (conn : ℕ) (change : Change) (s next : State) (t : Tables) → IsStore old objects log s t → Applies (Changed conn change) s next
    → Goes old new (pages_of objects) (pages_of made) → Keeps old new (pages_of made) → Holds new made (record { tables = next.tables; lists = s.lists })
    → ((entries : List LogRecord) → HasNoted log entries → HasNoted noted (entries ++ Changed conn change ∷ [])) → gate_of noted ≡ gate_of log
    → ((book : Book) (held : State) → HoldsOn book made held → HoldsOn book after (record { tables = held.tables; lists = with_list conn (held.lists conn ++ change ∷ []) held.lists })) → pages_of after ≡ pages_of made
    → IsStore new after noted next t
changed_so old new objects made after log noted conn change s next t is applies goes keeps holds has gate on pages =
    let held : State = record { tables = next.tables; lists = s.lists } in
    pushed_so new made after noted held next t
    (noted_so new made log noted (Changed conn change) held s next t (gone_on old new objects made log s held t is goes keeps holds) has gate applies tt)
    (λ book h. subst (λ (u : State). HoldsOn book after u) (changed_state s next conn change applies) (on book held h)) pages

-- one call behind another, where the first leaves the tables
pub stops_two : (old mid new : Told) (objects after : Objects) (t u : Tables) → StopsAt old mid objects t t → limit_of (pages_of after) ≡ limit_of (pages_of objects) → StopsAt mid new after t u → StopsAt old new objects t u
stops_two old mid new objects after t u first same next =
    call_behind old mid new (limit_of (pages_of objects)) t u first (subst (λ (n : ℕ). EachStop mid new (LeavesEither n t u)) same next)

-- ---- a change of the schema

pub record IsAltered (change : SchemaChange) (s next : State) : Type 0 where
  pub allowed : allows change (catalog_of s.tables) ≡ true
  pub is : (record { tables = after_alter change s.tables; lists = s.lists }) ≡ next

pub altered : (change : SchemaChange) (s next : State) → Applies (Schema change) s next → IsAltered change s next
altered change s next a = by (allows change (catalog_of s.tables)) refl a.tables
  where
    by : (b : Bool) → allows change (catalog_of s.tables) ≡ b → (if b then Some (after_alter change s.tables) else None) ≡ Some next.tables → IsAltered change s next
    by true allowed made =
        let same : after_alter change s.tables ≡ next.tables = cc in
        record { allowed = allowed; is = λ i. record { tables = same i; lists = sym a.lists i } }
    by false allowed made = absurd (let no : None ≡ Some next.tables = made in cc)

-- ---- what is open

pub open_after : (old new : Told) (objects made after : Objects) (log noted : Log) → AreOpen old objects log → Goes old new (pages_of objects) (pages_of made) → Keeps old new (pages_of made) → pages_of after ≡ pages_of made → gate_of noted ≡ gate_of log
    → AreOpen new after noted
open_after old new objects made after log noted are goes keeps pages gate = record {
  pages = subst (λ (p : Pages). IsPagesOf new p) (sym pages) keeps.known;
  records = same_gate new log noted gate (log_beside old new log goes.others are.records);
}

pub limit_after : (old new : Told) (objects made after : Objects) → Goes old new (pages_of objects) (pages_of made) → pages_of after ≡ pages_of made → limit_of (pages_of after) ≡ limit_of (pages_of objects)
limit_after old new objects made after goes pages = ap limit_of pages ∙ goes.limit
