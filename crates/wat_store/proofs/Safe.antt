-- What the objects hold safely, over the calls of a checkpoint, whether pages and log agree or not.
use Rattle.std.proofs.Common.{◌≡◌, ◌≢◌, ℕ, List, sym, ◌∙◌, ap, subst, arith}
use Rattle.wat_disk.specs.Disk.{Image, Told, IsSynced, EachStop, SameOthers}
use Rattle.wat_gate.specs.Bodies.{bodies, IsWhole}
use Rattle.wat_restore.specs.Restored.{Checkpoint, IsCovered, OnlyPages}
use Rattle.wat_restore.specs.Safe.{IsSafe}
use Rattle.wat_restore.proofs.Covering.{covered_same}
use Rattle.wat_pages.specs.Pages.{count_of, stored_of, next_checkpoint}
use Rattle.wat_pages.specs.declared.header.Header.{Header}
use Rattle.wat_cells.specs.Going.{Goes, Keeps}
use Rattle.wat_schema.specs.Tables.{Tables}
use Rattle.wat_log.specs.declared.record_log.Log.{Log}
use Rattle.wat_replay.specs.State.{State, IsLawful}
use Rattle.wat_objects.specs.declared.objects.Objects.{Objects}
use Rattle.wat_objects.specs.Objects.{pages_of, Holds}
use Rattle.wat_store.specs.Parts.{IsStore, HoldsSafe}
use Rattle.wat_store.proofs.Standing.{holds_beside}

-- a store's objects do
pub safe_store : (told : Told) (objects : Objects) (log : Log) (s : State) (t : Tables) → IsStore told objects log s t → HoldsSafe told objects s
safe_store told objects log s t is = record {
  holds = is.holds;
  lawful = is.lawful;
  saved = is.kept.saved;
  safe = is.kept.durable.pages;
  counted = is.kept.counted;
  logged = is.kept.durable.synced;
}

-- ---- a call of the log

same_covered : (saved : Checkpoint) (files new : Image) → SameOthers 2 files new → IsCovered saved files → IsCovered saved new
same_covered saved files new same covered =
    let before : new 1 ≡ files 1 = same 1 (λ e. omega (arith, e)) in
    covered_same saved files new covered (same 0 (λ e. omega (arith, e))) (subst IsWhole (sym before) covered.log.whole) (ap bodies before)

safe_beside : (old new : Told) (saved : Checkpoint) → SameOthers 2 old.content new.content → EachStop old new (SameOthers 2) → IsSafe saved old → IsSafe saved new
safe_beside old new saved same stops safe = record {
  before = λ image left.
      let found = stops.each new.moment image stops.later (omega arith) left in
      found.2 1 (λ e. omega (arith, e)) ∙ safe.before found.0 found.1 ∙ sym (same 1 (λ e. omega (arith, e)));
  covered = λ image left.
      let found = stops.each new.moment image stops.later (omega arith) left in
      same_covered saved found.0 image found.2 (safe.covered found.0 found.1);
}

pub flushed_safe : (old new : Told) (objects : Objects) (s : State) → SameOthers 2 old.content new.content → EachStop old new (SameOthers 2) → IsSynced new 2 → HoldsSafe old objects s → HoldsSafe new objects s
flushed_safe old new objects s same stops synced is = record {
  holds = holds_beside old new objects s same is.holds;
  lawful = is.lawful;
  saved = is.saved;
  safe = safe_beside old new is.saved same stops is.safe;
  counted = is.counted;
  logged = synced;
}

-- ---- calls of the pages

-- they leave the log
pub log_synced : (old new : Told) (Step : Image → Image → Type 0) → ((before image : Image) → Step before image → OnlyPages before image) → OnlyPages old.content new.content → EachStop old new Step → IsSynced old 2 → IsSynced new 2
log_synced old new Step only_pages only stops synced image left =
    let found = stops.each new.moment image stops.later (omega arith) left in
    only_pages found.0 image found.2 2 (omega arith) ∙ synced found.0 found.1 ∙ sym (only 2 (omega arith))
