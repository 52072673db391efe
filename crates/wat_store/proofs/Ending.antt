-- How a commit, a change of the schema and an undoing are made and noted.
use Rattle.std.proofs.Common.{◌≡◌, ◌≢◌, ℕ, ◌≤◌, ◌<◌, length, List, [], ◌∷◌, ◌++◌, Option, Some, None, refl, sym, ap, ◌∙◌, subst, arith, inl, inr, ⊎_elim, Result, Ok, Err}
use Rattle.wat_disk.specs.Disk.{Image, Told, EachStop, SameOthers}
use Rattle.wat_disk.proofs.Stops.{weaker, stays}
use Rattle.wat_book.specs.Book.{Book}
use Rattle.wat_images.specs.declared.refusal.PageRefusal.{PageRefusal}
use Rattle.wat_images.specs.declared.refusal.PageRefusal.TheVariants.{DiskFault}
use Rattle.wat_pages.specs.declared.pages.Pages.{Pages}
use Rattle.wat_pages.specs.Pages.{limit_of, stored_of}
use Rattle.wat_cells.specs.Going.{Goes, Keeps}
use Rattle.wat_value.specs.declared.change.SchemaChange.{SchemaChange}
use Rattle.wat_schema.specs.Tables.{Tables, after_alter}
use Rattle.wat_log_record.specs.declared.log_record.LogRecord.{LogRecord}
use Rattle.wat_log_record.specs.declared.log_record.LogRecord.TheVariants.{UndoTo, Commit, Rollback, Schema}
use Rattle.wat_log.specs.declared.record_log.Log.{Log}
use Rattle.wat_log.specs.Log.{gate_of, HasNoted, IsOpenLog}
use Rattle.wat_replay.specs.State.{State, Lists, IsLawful, undone, with_list}
use Rattle.wat_replay.specs.Replay.{Applies, AppliesAll}
use Rattle.wat_replay.specs.Committed.{CommitsNothing}
use Rattle.wat_replay.proofs.Replaying.{stays_lawful, one_next}
use Rattle.wat_keeping.specs.Durable.{LeavesEither, IsDatabase}
use Rattle.wat_keeping.specs.Kept.{IsKept}
use Rattle.wat_keeping.proofs.Calls.{now}
use Rattle.wat_recover.proofs.Stepping.{none_cut}
use Rattle.wat_objects.specs.declared.objects.Objects.{Objects}
use Rattle.wat_objects.specs.Objects.{pages_of, Holds, HoldsOn}
use Rattle.wat_store.specs.Parts.{IsStore, AreOpen, StopsAt}
use Rattle.wat_store.proofs.Standing.{holds_beside, kept_beside, stops_beside}
use Rattle.wat_store.proofs.Changing.{IsAltered, altered, gone_on, noted_so, come, held_so, stops_two}

pub ok_not_fault : {A : Type 0} (r : Result A PageRefusal) (x : A) → r ≡ Ok x → r ≡ Err DiskFault → ⊥
ok_not_fault r x is h = let no : Ok x ≡ Err DiskFault = sym is ∙ h in cc

-- one of the tables, and so one of more
pub stops_less : (old new : Told) (objects : Objects) (t u : Tables) → StopsAt old new objects t t → StopsAt old new objects t u
stops_less old new objects t u stops =
    let limit = limit_of (pages_of objects) in
    weaker old new (LeavesEither limit t t) (LeavesEither limit t u) stops (λ before image left step. ⊎_elim (λ (d : IsDatabase limit t image). inl d) (λ (d : IsDatabase limit t image). inl d) step)

-- no call is made
pub stops_still : (told : Told) (objects : Objects) (log : Log) (s : State) (t u : Tables) → IsStore told objects log s t → StopsAt told told objects t u
stops_still told objects log s t u is =
    let limit = limit_of (pages_of objects) in
    stays told (LeavesEither limit t u) (λ image left. inl (now told limit (stored_of (pages_of objects)) is.noted s t is.kept image left))

-- ---- a commit

some_one : (t u : Tables) → Some t ≡ Some u → t ≡ u
some_one t u e = cc

pub commit_state : (s next : State) (conn : ℕ) → Applies (Commit conn) s next → (record { tables = s.tables; lists = with_list conn [] s.lists }) ≡ next
commit_state s next conn a = λ i. record { tables = some_one s.tables next.tables a.tables i; lists = sym a.lists i }

pub committed_so : (old new : Told) (objects after : Objects) (log ended : Log) (conn : ℕ) (s next : State) (t u : Tables) → IsStore old objects log s t → Applies (Commit conn) s next → SameOthers 2 old.content new.content
    → ((book : Book) (held : State) → HoldsOn book objects held → HoldsOn book after (record { tables = held.tables; lists = with_list conn [] held.lists })) → pages_of after ≡ pages_of objects → IsOpenLog new ended → HasNoted ended []
    → IsKept (limit_of (pages_of objects)) (stored_of (pages_of objects)) new [] next u → IsStore new after ended next u
committed_so old new objects after log ended conn s next t u is applies same left pages opened none kept = record {
  holds = held_so new objects after s next (λ book h. subst (λ (v : State). HoldsOn book after v) (commit_state s next conn applies) (left book s h)) pages (holds_beside old new objects s same is.holds);
  records = opened;
  noted = [];
  has = none;
  kept = subst (λ (p : Pages). IsKept (limit_of p) (stored_of p) new [] next u) (sym pages) kept;
  lawful = stays_lawful (Commit conn) s next is.lawful applies;
}

-- ---- a change of the schema

pub altered_so : (old mid new : Told) (objects after : Objects) (log ended : Log) (change : SchemaChange) (s next : State) (t u : Tables) → IsStore old objects log s t → Applies (Schema change) s next
    → Holds mid after (record { tables = after_alter change s.tables; lists = s.lists }) → SameOthers 2 mid.content new.content → IsOpenLog new ended → HasNoted ended []
    → IsKept (limit_of (pages_of after)) (stored_of (pages_of after)) new [] next u → IsStore new after ended next u
altered_so old mid new objects after log ended change s next t u is applies holds same opened none kept = record {
  holds = holds_beside mid new after next same (subst (λ (v : State). Holds mid after v) (altered change s next applies).is holds);
  records = opened;
  noted = [];
  has = none;
  kept = kept;
  lawful = stays_lawful (Schema change) s next is.lawful applies;
}

-- ---- an undoing

pub nothing_undone : (s next : State) (conn count : ℕ) → Applies (UndoTo conn count) s next → length (s.lists conn) ≤ count → s ≡ next
nothing_undone s next conn count a few =
    let all : length (s.lists conn) ≡ count = omega (arith, a.allowed, few) in
    one_next (UndoTo conn count) s s next (subst (λ (n : ℕ). Applies (UndoTo conn n) s s) all (none_cut s conn a.conn)) a

pub undone_so : (old mid : Told) (objects after : Objects) (log noted : Log) (conn count : ℕ) (entry : LogRecord) (s next : State) (t : Tables) → IsStore old objects log s t → Applies (UndoTo conn count) s next
    → Goes old mid (pages_of objects) (pages_of after) → Keeps old mid (pages_of after) → ((reached : State) × Applies (UndoTo conn count) s reached × Holds mid after reached)
    → ((entries : List LogRecord) → HasNoted log entries → HasNoted noted (entries ++ entry ∷ [])) → gate_of noted ≡ gate_of log → Applies entry s next → CommitsNothing entry
    → IsStore mid after noted next t
undone_so old mid objects after log noted conn count entry s next t is applies goes keeps reached has gate says quiet =
    let there : reached.0 ≡ next = one_next (UndoTo conn count) s reached.0 next reached.1 applies in
    come mid after noted next t
    (noted_so mid after log noted entry next s next t (gone_on old mid objects after log s next t is goes keeps (subst (λ (u : State). Holds mid after u) there reached.2)) has gate says quiet)

-- to undo all is to roll back
pub rolled_back : (s next : State) (conn : ℕ) → Applies (UndoTo conn 0) s next → Applies (Rollback conn) s next
rolled_back s next conn a = record { conn = a.conn; allowed = tt; tables = a.tables; lists = a.lists }

pub all_undone : (s next : State) (conn : ℕ) → Applies (Rollback conn) s next → Applies (UndoTo conn 0) s next
all_undone s next conn a = record { conn = a.conn; allowed = omega arith; tables = a.tables; lists = a.lists }
