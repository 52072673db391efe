-- What is read of a database, and what the records behind the checkpoint make of it.
use Rattle.std.proofs.Common.{◌≡◌, inr, ℕ, List, [], drop, Some, sym, ap, ◌∙◌, subst, arith}
use Rattle.wat_disk.specs.Disk.{Image, Told, EachStop}
use Rattle.wat_gate.specs.Bodies.{bodies, IsAtGate, IsWhole}
use Rattle.wat_gate.specs.GateLog.{file_of}
use Rattle.wat_restore.specs.Head.{Head}
use Rattle.wat_restore.specs.Restored.{Checkpoint, OnlyPages}
use Rattle.wat_restore.specs.Safe.{IsSafe, Covers}
use Rattle.wat_images.specs.declared.refusal.PageRefusal.{PageRefusal}
use Rattle.wat_images.specs.Refusal.{IfDamaged}
use Rattle.wat_cells.proofs.Then.{damaged_to}
use Rattle.wat_pages.specs.Pages.{limit_of, stored_of, header_of}
use Rattle.wat_schema.specs.Tables.{Tables}
use Rattle.wat_log.specs.Log.{gate_of}
use Rattle.wat_replay.specs.State.{State, undone}
use Rattle.wat_files.specs.Pages.{first_pages}
use Rattle.wat_files.specs.Formed.{IsFormed, Stands, AppliesBodies, Opens, FailsAt, FailsInRecords}
use Rattle.wat_files.proofs.Finding.{header_once}
use Rattle.wat_files.proofs.Walking.{stands_once, now_once}
use Rattle.wat_keeping.specs.Durable.{IsDatabase, LeavesEither}
use Rattle.wat_keeping.specs.Kept.{IsKept}
use Rattle.wat_keeping.proofs.There.{saved_by, covered_first}
use Rattle.wat_restore.proofs.Covering.{covered_same}
use Rattle.wat_keeping.proofs.Calls.{opens, first, pages_stay, pages_stopped}
use Rattle.wat_objects.specs.Objects.{pages_of}
use Rattle.wat_loading.specs.declared.loading.Loaded.{Loaded}
use Rattle.wat_loading.specs.Loaded.{IsLoaded}
use Rattle.wat_store.specs.Parts.{HoldsSafe}
use Rattle.wat_store.proofs.Safe.{log_synced}
use Rattle.wat_opening.specs.Opening.{IsOnDisk}
use Rattle.wat_opening.specs.Bringing.{AreRead, IsRead, later_in}

-- ---- what is loaded of files that are formed

module _ (old new : Told) (loaded : Loaded) (formed : IsFormed old.content) (l : IsLoaded old.content new loaded) (only : OnlyPages old.content new.content) where
  same_head : formed.head ≡ l.head
  same_head = header_once old.content formed.head l.head formed.header l.header

  same_saved : formed.saved ≡ l.saved
  same_saved =
      stands_once (first_pages old.content l.head.count) l.head formed.saved l.saved
      (subst (λ (h : Head). Stands (first_pages old.content h.count) h formed.saved) same_head formed.stands) l.stands

  pub same_limit : formed.head.limit ≡ limit_of (pages_of loaded.objects)
  same_limit = ap (λ (h : Head). h.limit) same_head ∙ sym (ap (λ (h : Head). h.limit) l.tells)

  pub same_stored : formed.head.count ≡ stored_of (pages_of loaded.objects)
  same_stored = ap (λ (h : Head). h.count) same_head ∙ sym (l.unchanged ∙ ap (λ (h : Head). h.count) l.tells)

  same_frames : formed.head.frames ≡ (header_of (pages_of loaded.objects)).frames
  same_frames = ap (λ (h : Head). h.frames) same_head ∙ sym (ap (λ (h : Head). h.frames) l.tells)

  same_log : old.content 2 ≡ new.content 2
  same_log = sym (only 2 (omega arith))

  pub later_now : AppliesBodies (later_in new loaded.objects) l.saved formed.now
  later_now =
      subst (λ (log : List ℕ). AppliesBodies (drop (header_of (pages_of loaded.objects)).frames (bodies log)) l.saved formed.now) same_log
      (subst (λ (n : ℕ). AppliesBodies (drop n (bodies (old.content 2))) l.saved formed.now) same_frames
      (subst (λ (s : State). AppliesBodies (drop formed.head.frames (bodies (old.content 2))) s formed.now) same_saved formed.later))

-- ---- what is loaded of a database

module _ (old new : Told) (limit : ℕ) (t : Tables) (there : IsOnDisk old) (is : IsDatabase limit t old.content) where
  undone_now : undone is.sound.formed.now ≡ Some t
  undone_now =
      let o : Opens old.content t = opens limit t old.content is in
      subst (λ (s : State). undone s ≡ Some t) (now_once old.content o.formed is.sound.formed) o.undone

  kept_first : IsKept is.sound.formed.head.limit is.sound.formed.head.count old [] is.sound.formed.now t
  kept_first = first old t is.sound there.main there.before there.log undone_now

  pub load_stops : ((saved : Checkpoint) → IsSafe saved old → EachStop old new (Covers saved)) → EachStop old new (LeavesEither limit t t)
  load_stops stops =
      subst (λ (n : ℕ). EachStop old new (LeavesEither n t t)) is.limited
      (pages_stopped old new is.sound.formed.head.limit is.sound.formed.head.count [] is.sound.formed.now t kept_first stops)

  pub read_so : (loaded : Loaded) (l : IsLoaded old.content new loaded) → OnlyPages old.content new.content → ((saved : Checkpoint) → IsSafe saved old → EachStop old new (Covers saved)) → ((saved : Checkpoint) → IsSafe saved old → IsSafe saved new)
      → IsRead new loaded.objects limit t
  read_so loaded l only stops safe = record {
    saved = l.saved;
    now = is.sound.formed.now;
    holds = l.holds;
    lawful = l.lawful;
    later = later_now old new loaded is.sound.formed l only;
    kept =
        subst (λ (n : ℕ). IsKept (limit_of (pages_of loaded.objects)) n new [] is.sound.formed.now t) (same_stored old new loaded is.sound.formed l only)
        (subst (λ (n : ℕ). IsKept n is.sound.formed.head.count new [] is.sound.formed.now t) (same_limit old new loaded is.sound.formed l only)
        (pages_stay old new is.sound.formed.head.limit is.sound.formed.head.count [] is.sound.formed.now t kept_first stops (record { others = only; safe = safe })));
    limited = sym (same_limit old new loaded is.sound.formed l only) ∙ is.limited;
  }

-- the header's gate stands in the log
pub are_read : (old new : Told) (loaded : Loaded) → IsLoaded old.content new loaded → OnlyPages old.content new.content → AreRead new loaded.objects loaded.log
are_read old new loaded l only =
    let log : old.content 2 ≡ new.content (file_of (gate_of loaded.log)) = sym (only 2 (omega arith)) ∙ ap new.content (sym loaded.log.known_file) in
    let frames : l.head.frames ≡ (header_of (pages_of loaded.objects)).frames = sym (ap (λ (h : Head). h.frames) l.tells) in
    let place : l.head.place ≡ (header_of (pages_of loaded.objects)).place = sym (ap (λ (h : Head). h.place) l.tells) in
    record {
      pages = l.holds.known;
      records = l.opened;
      noted = l.noted;
      place =
          subst (λ (content : List ℕ). IsAtGate content (header_of (pages_of loaded.objects)).place (header_of (pages_of loaded.objects)).frames) log
          (subst (λ (n : ℕ). IsAtGate (old.content 2) n (header_of (pages_of loaded.objects)).frames) place
          (subst (λ (n : ℕ). IsAtGate (old.content 2) l.head.place n) frames (record { count = l.log.frames; place = l.log.place })));
    }

-- ---- what is loaded of any files

-- before they are read the checkpoint that the files have is safe
safe_first : (old new : Told) (loaded : Loaded) → IsOnDisk old → (l : IsLoaded old.content new loaded) → IsSafe (saved_by old.content l.head.count) old
safe_first old new loaded there l = record {
  before = there.before;
  covered = λ image left.
      covered_same (saved_by old.content l.head.count) old.content image (covered_first old.content l.head l.saved l.header l.stands)
      (there.main image left) (subst IsWhole (sym (there.before image left)) l.header.log.whole) (ap bodies (there.before image left));
}

pub safe_loaded : (old new : Told) (loaded : Loaded) → IsOnDisk old → (l : IsLoaded old.content new loaded) → OnlyPages old.content new.content → ((saved : Checkpoint) → IsSafe saved old → EachStop old new (Covers saved))
    → ((saved : Checkpoint) → IsSafe saved old → IsSafe saved new) → HoldsSafe new loaded.objects l.saved
safe_loaded old new loaded there l only stops safe =
    let saved = saved_by old.content l.head.count in
    let before = safe_first old new loaded there l in
    record {
      holds = l.holds;
      lawful = l.lawful;
      saved = saved;
      safe = safe saved before;
      counted = sym (l.unchanged ∙ ap (λ (h : Head). h.count) l.tells);
      logged = log_synced old new (Covers saved) (λ image after step. step.others) only (stops saved before) there.log;
    }

pub frames_loaded : (old new : Told) (loaded : Loaded) → (l : IsLoaded old.content new loaded) → l.head.frames ≡ (header_of (pages_of loaded.objects)).frames
frames_loaded old new loaded l = sym (ap (λ (h : Head). h.frames) l.tells)

-- they are formed, where the records lead on to a state
pub formed_so : (old new : Told) (loaded : Loaded) (l : IsLoaded old.content new loaded) → OnlyPages old.content new.content → (now : State) → AppliesBodies (later_in new loaded.objects) l.saved now → IsFormed old.content
formed_so old new loaded l only now applies =
    let log : new.content 2 ≡ old.content 2 = only 2 (omega arith) in
    let frames : (header_of (pages_of loaded.objects)).frames ≡ l.head.frames = ap (λ (h : Head). h.frames) l.tells in
    record {
      head = l.head;
      header = l.header;
      saved = l.saved;
      stands = l.stands;
      log = l.log;
      now = now;
      later =
          subst (λ (n : ℕ). AppliesBodies (drop n (bodies (old.content 2))) l.saved now) frames
          (subst (λ (log : List ℕ). AppliesBodies (drop (header_of (pages_of loaded.objects)).frames (bodies log)) l.saved now) log applies);
    }

-- ---- where the records fail

pub fails_in_records : (refusal : PageRefusal) (files : Image) (told : Told) (loaded : Loaded) (l : IsLoaded files told loaded) → OnlyPages files told.content
    → IfDamaged refusal (FailsInRecords (told.content 2) l.head l.saved) → IfDamaged refusal (FailsAt files)
fails_in_records refusal files told loaded l only is =
    let log : told.content 2 ≡ files 2 = only 2 (omega arith) in
    damaged_to refusal (FailsInRecords (told.content 2) l.head l.saved) (FailsAt files)
    (λ file at fails. inr (
      l.head,
      l.header,
      inr (
        l.stands.chains,
        l.stands.has,
        inr (
          l.stands.schema,
          l.stands.holds,
          inr (
            l.saved.lists,
            l.stands.lists,
            inr (
              l.stands.catalog,
              inr (l.saved.tables, l.stands.rows, inr (l.stands.undoes, inr (l.log, subst (λ (log : List ℕ). FailsInRecords log l.head l.saved file at) log fails))),
            ),
          ),
        ),
      ),
    )) is
