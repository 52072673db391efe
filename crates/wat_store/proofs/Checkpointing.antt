-- A checkpoint: what is noted is flushed, the lists are written, and the pages saved.
use Rattle.std.proofs.Common.{◌≡◌, ℕ, ◌<◌, ◌≤◌, ◌^◌, length, List, [], take, refl, sym, ap, ◌∙◌, subst, arith}
use Rattle.std.proofs.lemmas.List.{take_all}
use Rattle.wat_disk.specs.Disk.{Told, EachStop}
use Rattle.wat_gate.specs.Bodies.{bodies, frames_len, end_of, gate_place}
use Rattle.wat_gate.specs.GateLog.{file_of, IsLogOf}
use Rattle.wat_restore.specs.Restored.{OnlyPages}
use Rattle.wat_restore.specs.Safe.{IsSafe}
use Rattle.wat_pages.specs.declared.header.Header.{Header}
use Rattle.wat_pages.specs.declared.pages.Pages.{Pages}
use Rattle.wat_pages.specs.Pages.{count_of, limit_of, stored_of, book_of, next_head, next_checkpoint}
use Rattle.wat_cells.specs.Going.{Goes, Keeps}
use Rattle.wat_schema.specs.Tables.{Tables}
use Rattle.wat_log_record.specs.declared.log_record.LogRecord.{LogRecord}
use Rattle.wat_log.specs.declared.record_log.Log.{Log}
use Rattle.wat_log.specs.Log.{gate_of, log_frames, HasNoted, IsOpenLog}
use Rattle.wat_replay.specs.State.{State}
use Rattle.wat_held.specs.Held.{HoldsState}
use Rattle.wat_keeping.specs.Durable.{LeavesEither}
use Rattle.wat_keeping.specs.Kept.{IsKept}
use Rattle.wat_keeping.specs.Steps.{MaySave, SavesPages}
use Rattle.wat_keeping.proofs.Calls.{checkpoint_stopped, checkpoint_stays}
use Rattle.wat_objects.specs.declared.objects.Objects.{Objects}
use Rattle.wat_objects.specs.declared.chains.Roots.{Roots}
use Rattle.wat_objects.specs.Objects.{pages_of, Holds}
use Rattle.wat_objects.specs.Chains.{header_with, HoldsRoots}
use Rattle.wat_store.specs.Parts.{IsStore, StopsAt}
use Rattle.wat_store.specs.Saving.{CountsLog, Fits}
use Rattle.wat_store.proofs.Appended.{none_spelled}
use Rattle.wat_store.proofs.Saved.{saves_all}
use Rattle.wat_store.proofs.Standing.{log_beside, kept_beside}

-- the header counts the frames and has the place behind them
pub counts_so : (told : Told) (log : Log) (header : Header) → IsOpenLog told log → header.frames ≡ log_frames log → header.place ≡ gate_place (told.content 2) header.frames → CountsLog told header
counts_so told log header is frames place =
    let many : header.frames ≡ length (bodies (told.content 2)) = frames ∙ is.frames ∙ ap (λ (n : ℕ). length (bodies (told.content n))) log.known_file in
    record {
      frames = many;
      place = place ∙ ap frames_len (take_all header.frames (bodies (told.content 2)) (omega (arith, many)));
    }

-- another file stays, so the count does
pub counts_beside : (old new : Told) (header : Header) → OnlyPages old.content new.content → CountsLog old header → CountsLog new header
counts_beside old new header only counts =
    let same : old.content 2 ≡ new.content 2 = sym (only 2 (omega arith)) in
    record {
      frames = counts.frames ∙ ap (λ (l : List ℕ). length (bodies l)) same;
      place = counts.place ∙ ap end_of same;
    }

-- nothing is noted
pub kept_settled : (told : Told) (objects : Objects) (log : Log) (s : State) (t : Tables) → (is : IsStore told objects log s t) → HasNoted log [] → IsKept (limit_of (pages_of objects)) (stored_of (pages_of objects)) told [] s t
kept_settled told objects log s t is none =
    let nothing : is.noted ≡ [] = none_spelled is.noted (sym is.has.spelled ∙ none.spelled) in
    subst (λ (noted : List LogRecord). IsKept (limit_of (pages_of objects)) (stored_of (pages_of objects)) told noted s t) nothing is.kept

module _ (old new : Told) (objects after : Objects) (log : Log) (header : Header) (roots : Roots) (s : State) (t : Tables)
    (kept : IsKept (limit_of (pages_of objects)) (stored_of (pages_of objects)) old [] s t) (holds : HoldsRoots old objects roots s) (is : header ≡ header_with roots header.frames header.place)
    (counts : CountsLog old header) (fits : Fits (next_head (pages_of objects) header)) (may : MaySave (stored_of (pages_of objects)) (next_checkpoint old (pages_of objects) header) old new) where
  held : HoldsState (book_of old (pages_of objects)) holds.owners holds.free (next_head (pages_of objects) header) s
  held = subst (λ (h : Header). HoldsState (book_of old (pages_of objects)) holds.owners holds.free (next_head (pages_of objects) h) s) (sym is) (holds.holds header.frames header.place)

  pub save_stops : StopsAt old new objects t t
  save_stops =
      checkpoint_stopped old new (limit_of (pages_of objects)) (stored_of (pages_of objects)) s t (next_checkpoint old (pages_of objects) header) (next_head (pages_of objects) header) kept
      (saves_all old (pages_of objects) header holds.owners holds.free s fits held counts) may

  pub saved_so : OnlyPages old.content new.content → IsSafe (next_checkpoint old (pages_of objects) header) new → limit_of (pages_of after) ≡ limit_of (pages_of objects) → stored_of (pages_of after) ≡ count_of (pages_of objects)
      → Holds new after s → IsOpenLog old log → HasNoted log [] → (before : Told) → (was : Objects) → (log_before : Log) → IsStore before was log_before s t → IsStore new after log s t
  saved_so others safe limit stored holds_after opened none before was log_before stood = record {
    holds = holds_after;
    records = log_beside old new log others opened;
    noted = [];
    has = none;
    kept =
        subst (λ (n : ℕ). IsKept n (stored_of (pages_of after)) new [] s t) (sym limit)
        (subst (λ (n : ℕ). IsKept (limit_of (pages_of objects)) n new [] s t) (sym stored)
        (checkpoint_stays old new (limit_of (pages_of objects)) (stored_of (pages_of objects)) s t (next_checkpoint old (pages_of objects) header) (next_head (pages_of objects) header) kept
        (saves_all old (pages_of objects) header holds.owners holds.free s fits held counts) may (record { others = others; safe = safe })));
    lawful = stood.lawful;
  }

-- the header is made without a call
pub may_same : (mid same new : Told) (stored : ℕ) (pages : Pages) (header : Header) → same ≡ mid → MaySave stored (next_checkpoint same pages header) same new → MaySave stored (next_checkpoint mid pages header) mid new
may_same mid same new stored pages header is may = subst (λ (x : Told). MaySave stored (next_checkpoint x pages header) x new) is may
