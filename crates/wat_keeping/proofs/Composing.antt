-- How the facts on stops of the pages and of the log make one on the database.
use Rattle.std.proofs.Common.{◌≡◌, ◌⊎◌, inl, inr, ℕ, ◌+◌, ◌<◌, ◌≤◌, List, [], ◌∷◌, ◌++◌, length, take, drop, Option, Some, refl, sym, ap, ◌∙◌, subst, arith, length-append}
use Rattle.std.proofs.lemmas.List.{take-append-drop, take-append-le, drop-append-le, append-nil, take_all, drop_all}
use Rattle.wat_disk.specs.Disk.{Image, Told, Leaves, IsSynced, EachStop, InFile, SameFiles, SameOthers}
use Rattle.wat_disk.proofs.Stops.{weaker}
use Rattle.wat_gate.specs.Bodies.{bodies, frames_len, IsWhole, KeepsOrAdds}
use Rattle.wat_restore.specs.Head.{Head}
use Rattle.wat_restore.specs.Restored.{Checkpoint, IsCovered, OnlyPages}
use Rattle.wat_restore.specs.Safe.{IsSafe, Covers, CoversEither}
use Rattle.wat_restore.proofs.Covering.{covered_same}
use Rattle.wat_book.specs.Book.{Section}
use Rattle.wat_schema.specs.Tables.{Tables, apply_all}
use Rattle.wat_log_record.specs.declared.log_record.LogRecord.{LogRecord}
use Rattle.wat_log_record.specs.Bodies.{SpellsRecords, SpellsLog}
use Rattle.wat_replay.specs.State.{State, IsLawful, undone, empty_state}
use Rattle.wat_replay.specs.Replay.{AppliesAll, Replays}
use Rattle.wat_replay.specs.Committed.{commits_of, committed}
use Rattle.wat_replay.proofs.Replaying.{replay_is_committed, all_stay_lawful, empty_is_lawful, reached, Undone, undone_of}
use Rattle.wat_files.specs.Pages.{first_pages}
use Rattle.wat_files.specs.Formed.{HasHeader, Stands, AppliesBodies, IsFormed}
use Rattle.wat_files.proofs.Replaying.{applies_append, spells_append, bodies_apply}
use Rattle.wat_keeping.specs.Durable.{saved_pages, Saves, Makes, IsAt, IsDurable, IsDatabase, LeavesEither}
use Rattle.wat_keeping.proofs.There.{covered_pages}

-- ---- a checkpoint and a log's bodies

module _ (saved : Checkpoint) (head : Head) (log : List (List ℕ)) (now : State) (makes : Makes saved head log now) where
  pub all_replayed : Replays (makes.earlier ++ makes.later) now
  all_replayed = applies_append makes.earlier makes.later empty_state makes.at now makes.replayed makes.applied

  pub all_spelled : SpellsLog log (makes.earlier ++ makes.later)
  all_spelled = subst (λ (l : List (List ℕ)). SpellsLog l (makes.earlier ++ makes.later)) (take-append-drop head.frames log)
      (spells_append (take head.frames log) (drop head.frames log) makes.earlier makes.later makes.before makes.behind)

  pub all_committed : undone now ≡ committed (makes.earlier ++ makes.later)
  all_committed = replay_is_committed (makes.earlier ++ makes.later) now all_replayed

  pub all_lawful : IsLawful now
  all_lawful = all_stay_lawful (makes.earlier ++ makes.later) empty_state now empty_is_lawful all_replayed

  module _ (files : Image) (is : IsAt saved log files) where
    same_pages : first_pages files head.count ≡ saved_pages saved
    same_pages = subst (λ (n : ℕ). first_pages files n ≡ saved_pages saved) makes.saves.count (covered_pages saved files is.covered)

    has_header : HasHeader files head
    has_header = record {
      log = is.covered.log;
      is = record { page = saved.page 0; stands = is.covered.pages 0 (omega (arith, makes.saves.count, makes.saves.first.fits.some)); is = makes.saves.first };
    }

    formed : IsFormed files
    formed = record {
      head = head;
      header = has_header;
      saved = makes.at;
      stands = subst (λ (pages : Section). Stands pages head makes.at) (sym same_pages) makes.saves.stands;
      log = record {
        whole = is.whole;
        frames = subst (λ (l : List (List ℕ)). head.frames ≤ length l) (sym is.bodies) makes.frames;
        place = makes.place ∙ ap (λ (l : List (List ℕ)). frames_len (take head.frames l)) (sym is.bodies);
      };
      now = now;
      later = subst (λ (l : List (List ℕ)). AppliesBodies (drop head.frames l) makes.at now) (sym is.bodies) (bodies_apply (drop head.frames log) makes.at now makes.later makes.behind makes.applied);
    }

    -- such an image is a database
    pub is_database : (t : Tables) → undone now ≡ Some t → IsDatabase head.limit t files
    unfolding formed
    is_database t h = record {
      sound = record {
        formed = formed;
        agrees = record { earlier = makes.earlier; spelled = subst (λ (l : List (List ℕ)). SpellsLog (take head.frames l) makes.earlier) (sym is.bodies) makes.before; replayed = makes.replayed };
      };
      restarts = record {
        entries = makes.earlier ++ makes.later;
        spelled = subst (λ (l : List (List ℕ)). SpellsLog l (makes.earlier ++ makes.later)) (sym is.bodies) all_spelled;
        committed = sym all_committed ∙ h;
      };
      limited = refl;
    }

-- ---- one body more

pub makes_more : (saved : Checkpoint) (head : Head) (log : List (List ℕ)) (now next : State) (body : List ℕ) (entries : List LogRecord) → Makes saved head log now
    → SpellsRecords body entries → AppliesAll entries now next → Makes saved head (log ++ body ∷ []) next
makes_more saved head log now next body entries makes spelled applied = record {
  at = makes.at;
  saves = makes.saves;
  frames = omega (arith, makes.frames, length-append log (body ∷ []));
  place = makes.place ∙ ap frames_len (sym front);
  earlier = makes.earlier;
  before = subst (λ (l : List (List ℕ)). SpellsLog l makes.earlier) (sym front) makes.before;
  replayed = makes.replayed;
  later = makes.later ++ entries;
  behind = subst (λ (l : List (List ℕ)). SpellsLog l (makes.later ++ entries)) (sym rest)
      (spells_append (drop head.frames log) (body ∷ []) makes.later entries makes.behind (entries, [], spelled, sym (append-nil entries), refl));
  applied = applies_append makes.later entries makes.at now next makes.applied applied;
}
  where
    front : take head.frames (log ++ body ∷ []) ≡ take head.frames log
    front = take-append-le head.frames log (body ∷ []) makes.frames

    rest : drop head.frames (log ++ body ∷ []) ≡ drop head.frames log ++ body ∷ []
    rest = drop-append-le head.frames log (body ∷ []) makes.frames

-- Records that follow change the committed tables by what they commit, and by nothing else.
pub record CommitsMore (entries : List LogRecord) (now next : State) (t : Tables) : Type 0 where
  pub after : Tables
  pub undone : undone next ≡ Some after
  pub commits : apply_all (commits_of entries now.lists) t ≡ Some after

pub commits_more : (saved : Checkpoint) (head : Head) (log : List (List ℕ)) (now next : State) (entries : List LogRecord) (t : Tables) → Makes saved head log now
    → undone now ≡ Some t → AppliesAll entries now next → CommitsMore entries now next t
commits_more saved head log now next entries t makes h applied =
    let lawful = all_lawful saved head log now makes in
    let to : Undone next = undone_of next (all_stay_lawful entries now next lawful applied) in
    record { after = to.to; undone = to.is; commits = sym (reached entries now next t lawful applied h) ∙ to.is }

-- the same log, with a checkpoint that stands for all of it
pub makes_anew : (saved next : Checkpoint) (head next_head : Head) (log : List (List ℕ)) (now : State) → Makes saved head log now
    → Saves next next_head now → next_head.frames ≡ length log → next_head.place ≡ frames_len log → Makes next next_head log now
makes_anew saved next head next_head log now makes saves frames place = record {
  at = now;
  saves = saves;
  frames = omega (arith, frames);
  place = place ∙ ap frames_len (sym whole);
  earlier = makes.earlier ++ makes.later;
  before = subst (λ (l : List (List ℕ)). SpellsLog l (makes.earlier ++ makes.later)) (sym whole) (all_spelled saved head log now makes);
  replayed = all_replayed saved head log now makes;
  later = [];
  behind = subst (λ (l : List (List ℕ)). SpellsLog l []) (sym (drop_all next_head.frames log (omega (arith, frames)))) refl;
  applied = refl;
}
  where
    whole : take next_head.frames log ≡ log
    whole = take_all next_head.frames log (omega (arith, frames))

-- ---- stops

left_at_end : (old new : Told) (Step : Image → Image → Type 0) → EachStop old new Step → (image : Image) → Leaves new image → (before : Image) × Leaves old before × Step before image
left_at_end old new Step stops image left = stops.each new.moment image stops.later (omega arith) left

pub at_of_durable : (saved : Checkpoint) (log : List (List ℕ)) (told : Told) → IsDurable saved log told → (image : Image) → Leaves told image → IsAt saved log image
at_of_durable saved log told d image left = record {
  covered = d.pages.covered image left;
  whole = subst IsWhole (sym (d.synced image left)) d.whole;
  bodies = ap bodies (d.synced image left) ∙ d.bodies;
}

module _ (saved : Checkpoint) (log : List (List ℕ)) (old new : Told) (d : IsDurable saved log old) where
  -- a call that changes no file
  pub same_at : EachStop old new SameFiles → EachStop old new (λ before after. IsAt saved log after)
  same_at stops = weaker old new SameFiles (λ before after. IsAt saved log after) stops
      (λ before image left same.
      let at = at_of_durable saved log old d before left in
      record {
        covered = covered_same saved before image at.covered (same 0) (subst IsWhole (sym (same 1)) at.covered.log.whole) (ap bodies (same 1));
        whole = subst IsWhole (sym (same 2)) at.whole;
        bodies = ap bodies (same 2) ∙ at.bodies;
      })

  -- a call of the pages
  pub pages_at : EachStop old new (Covers saved) → EachStop old new (λ before after. IsAt saved log after)
  pages_at stops = weaker old new (Covers saved) (λ before after. IsAt saved log after) stops
      (λ before image left step.
      let at = at_of_durable saved log old d before left in
      record { covered = step.covered; whole = subst IsWhole (sym (step.others 2 (omega arith))) at.whole; bodies = ap bodies (step.others 2 (omega arith)) ∙ at.bodies })

  pub pages_durable : EachStop old new (Covers saved) → OnlyPages old.content new.content → IsSafe saved new → IsDurable saved log new
  pages_durable stops others safe = record {
    pages = safe;
    synced = λ image left. let b = left_at_end old new (Covers saved) stops image left in b.2.others 2 (omega arith) ∙ d.synced b.0 b.1 ∙ sym (others 2 (omega arith));
    whole = subst IsWhole (sym (others 2 (omega arith))) d.whole;
    bodies = ap bodies (others 2 (omega arith)) ∙ d.bodies;
  }

  -- a checkpoint
  pub checkpoint_at : (next : Checkpoint) → EachStop old new (CoversEither saved next) → EachStop old new (λ before after. IsAt saved log after ⊎ IsAt next log after)
  checkpoint_at next stops = weaker old new (CoversEither saved next) (λ before after. IsAt saved log after ⊎ IsAt next log after) stops (λ before image left step. by before image left step step.covered)
    where
      by : (before image : Image) → Leaves old before → CoversEither saved next before image → IsCovered saved image ⊎ IsCovered next image → IsAt saved log image ⊎ IsAt next log image
      by before image left step (inl covered) =
          let at = at_of_durable saved log old d before left in
          inl (record { covered = covered; whole = subst IsWhole (sym (step.others 2 (omega arith))) at.whole; bodies = ap bodies (step.others 2 (omega arith)) ∙ at.bodies })
      by before image left step (inr covered) =
          let at = at_of_durable saved log old d before left in
          inr (record { covered = covered; whole = subst IsWhole (sym (step.others 2 (omega arith))) at.whole; bodies = ap bodies (step.others 2 (omega arith)) ∙ at.bodies })

  pub checkpoint_durable : (next : Checkpoint) → EachStop old new (CoversEither saved next) → OnlyPages old.content new.content → IsSafe next new → IsDurable next log new
  checkpoint_durable next stops others safe = record {
    pages = safe;
    synced = λ image left. let b = left_at_end old new (CoversEither saved next) stops image left in b.2.others 2 (omega arith) ∙ d.synced b.0 b.1 ∙ sym (others 2 (omega arith));
    whole = subst IsWhole (sym (others 2 (omega arith))) d.whole;
    bodies = ap bodies (others 2 (omega arith)) ∙ d.bodies;
  }

  -- an append to the log
  module _ (body : List ℕ) (stops : EachStop old new (InFile 2 (KeepsOrAdds body))) where
    covered_by : (before image : Image) → Leaves old before → InFile 2 (KeepsOrAdds body) before image → IsCovered saved image
    covered_by before image left step =
        let covered = d.pages.covered before left in
        let main : image 0 ≡ before 0 = step.others 0 (λ e. omega arith) in
        let images : image 1 ≡ before 1 = step.others 1 (λ e. omega arith) in
        covered_same saved before image covered main (subst IsWhole (sym images) covered.log.whole) (ap bodies images)

    pub append_at : EachStop old new (λ before after. IsAt saved log after ⊎ IsAt saved (log ++ body ∷ []) after)
    append_at = weaker old new (InFile 2 (KeepsOrAdds body)) (λ before after. IsAt saved log after ⊎ IsAt saved (log ++ body ∷ []) after) stops
        (λ before image left step. by before image left step step.changed.either)
      where
        by : (before image : Image) → Leaves old before → InFile 2 (KeepsOrAdds body) before image → (bodies (image 2) ≡ bodies (before 2)) ⊎ (bodies (image 2) ≡ bodies (before 2) ++ body ∷ [])
            → IsAt saved log image ⊎ IsAt saved (log ++ body ∷ []) image
        by before image left step (inl same) =
            inl (record { covered = covered_by before image left step; whole = step.changed.whole; bodies = same ∙ ap bodies (d.synced before left) ∙ d.bodies })
        by before image left step (inr more) =
            inr (record { covered = covered_by before image left step; whole = step.changed.whole; bodies = more ∙ ap (λ file. bodies file ++ body ∷ []) (d.synced before left) ∙ ap (λ l. l ++ body ∷ []) d.bodies })

    pub append_durable : IsSynced new 2 → IsWhole (new.content 2) → bodies (new.content 2) ≡ bodies (old.content 2) ++ body ∷ [] → SameOthers 2 old.content new.content
        → IsDurable saved (log ++ body ∷ []) new
    append_durable synced whole added others = record {
      pages = record {
        before = λ image left. let b = left_at_end old new (InFile 2 (KeepsOrAdds body)) stops image left in
            b.2.others 1 (λ e. omega arith) ∙ d.pages.before b.0 b.1 ∙ sym (others 1 (λ e. omega arith));
        covered = λ image left. let b = left_at_end old new (InFile 2 (KeepsOrAdds body)) stops image left in covered_by b.0 image b.1 b.2;
      };
      synced = synced;
      whole = whole;
      bodies = added ∙ ap (λ l. l ++ body ∷ []) d.bodies;
    }
