-- What the calls of a store do to what its files know.
use Rattle.std.proofs.Common.{◌≡◌, ◌≢◌, ◌⊎◌, inl, inr, ℕ, zero, suc, ◌≤◌, List, [], ◌∷◌, ◌++◌, length, drop, Option, Some, None, refl, sym, ap, ◌∙◌, subst, arith}
use Rattle.std.specs.List.{AllByRecursion}
use Rattle.std.specs.Option.{option_and_then}
use Rattle.wat_disk.specs.Disk.{Image, Told, Leaves, IsSynced, EachStop, InFile, SameFiles, SameOthers}
use Rattle.wat_disk.proofs.Stops.{weaker, goes_on}
use Rattle.wat_gate.specs.Bodies.{bodies, frames_len, IsWhole, KeepsOrAdds}
use Rattle.wat_restore.specs.Head.{Head}
use Rattle.wat_restore.specs.Restored.{Checkpoint, OnlyPages}
use Rattle.wat_restore.specs.Safe.{IsSafe, Covers, CoversEither}
use Rattle.wat_restore.proofs.Covering.{covered_same}
use Rattle.wat_book.specs.Book.{Section}
use Rattle.wat_schema.specs.Tables.{Tables, apply_all}
use Rattle.wat_log_record.specs.declared.log_record.LogRecord.{LogRecord}
use Rattle.wat_log_record.specs.Bodies.{SpellsRecords}
use Rattle.wat_replay.specs.State.{State, Lists, undo, undo_below, connections, undone}
use Rattle.wat_replay.specs.Replay.{AppliesAll, Applies}
use Rattle.wat_replay.specs.Committed.{CommitsNothing, commits_of}
use Rattle.wat_replay.proofs.Committing.{none_committed}
use Rattle.wat_files.specs.Pages.{first_pages}
use Rattle.wat_files.specs.Formed.{Stands, IsSound}
use Rattle.wat_files.proofs.Replaying.{applies_append, Leads, leads}
use Rattle.wat_keeping.specs.Durable.{saved_pages, Saves, Makes, IsAt, IsDurable, IsDatabase, LeavesEither}
use Rattle.wat_keeping.specs.Kept.{IsKept}
use Rattle.wat_keeping.proofs.There.{saved_by, covered_first, covered_pages, header_first}
use Rattle.wat_keeping.proofs.Composing.{is_database, makes_more, commits_more, CommitsMore, makes_anew, same_at, pages_at, pages_durable, checkpoint_at, checkpoint_durable, append_at, append_durable, at_of_durable}

pub quiet_append : (xs ys : List LogRecord) → AllByRecursion CommitsNothing xs → AllByRecursion CommitsNothing ys → AllByRecursion CommitsNothing (xs ++ ys)
quiet_append [] ys a b = b
quiet_append (x ∷ xs) ys a b = (a.0, quiet_append xs ys a.1 b)

-- one call behind another, where each says what it leaves
pub one_then : (old mid new : Told) (P Q : Image → Type 0) → EachStop old mid (λ before after. P after) → EachStop mid new (λ before after. Q after) → EachStop old new (λ before after. P after ⊎ Q after)
one_then old mid new P Q first second =
    goes_on old mid new (λ before after. P after ⊎ Q after) (λ before after. Q after) (weaker old mid (λ before after. P after) (λ before after. P after ⊎ Q after) first (λ before image left p. inl p)) second
    (λ before image after was now p q. inr q)

module _ (limit stored : ℕ) (old new : Told) (noted : List LogRecord) (s : State) (t : Tables) (k : IsKept limit stored old noted s t) where
  database : (image : Image) → IsAt k.saved k.log image → IsDatabase limit t image
  database image at = subst (λ n. IsDatabase n t image) k.limited (is_database k.saved k.head k.log k.flushed k.makes image at t k.committed)

  -- what a stop now may leave
  pub kept_now : (image : Image) → Leaves old image → IsDatabase limit t image
  kept_now image left = database image (at_of_durable k.saved k.log old k.durable image left)

  -- what was noted commits nothing
  pub kept_state : undone s ≡ Some t
  kept_state =
      let c = commits_more k.saved k.head k.log k.flushed s noted t k.makes k.committed k.unflushed in
      let same : Some t ≡ Some c.after = sym (ap (λ acts. apply_all acts t) (none_committed noted k.flushed.lists k.quiet)) ∙ c.commits in
      c.undone ∙ sym same

  -- A record more is noted. No file is touched.
  pub kept_note : (entry : LogRecord) (next : State) → Applies entry s next → CommitsNothing entry → IsKept limit stored old (noted ++ entry ∷ []) next t
  kept_note entry next applies nothing = record {
    saved = k.saved;
    head = k.head;
    log = k.log;
    flushed = k.flushed;
    durable = k.durable;
    makes = k.makes;
    limited = k.limited;
    counted = k.counted;
    committed = k.committed;
    unflushed = applies_append noted (entry ∷ []) k.flushed s next k.unflushed (next, applies, refl);
    quiet = quiet_append noted (entry ∷ []) k.quiet (nothing, tt);
  }

  -- a call of the pages, by its clauses
  module _ (stops : (saved : Checkpoint) → IsSafe saved old → EachStop old new (Covers saved)) where
    pub pages_stop : EachStop old new (LeavesEither limit t t)
    pages_stop = weaker old new (λ before after. IsAt k.saved k.log after) (LeavesEither limit t t)
        (pages_at k.saved k.log old new k.durable (stops k.saved k.durable.pages)) (λ before image left at. inl (database image at))

    pub pages_kept : OnlyPages old.content new.content → ((saved : Checkpoint) → IsSafe saved old → IsSafe saved new) → IsKept limit stored new noted s t
    pages_kept others safe = record {
      saved = k.saved;
      head = k.head;
      log = k.log;
      flushed = k.flushed;
      durable = pages_durable k.saved k.log old new k.durable (stops k.saved k.durable.pages) others (safe k.saved k.durable.pages);
      makes = k.makes;
      limited = k.limited;
      counted = k.counted;
      committed = k.committed;
      unflushed = k.unflushed;
      quiet = k.quiet;
    }

  -- An append to the log, by its clauses: of what was noted, with one record behind it or without.
  module _ (body : List ℕ) (entries : List LogRecord) (next : State) (spelled : SpellsRecords body entries) (applied : AppliesAll entries k.flushed next)
      (stops : IsSynced old 2 → EachStop old new (InFile 2 (KeepsOrAdds body))) where
    c : CommitsMore entries k.flushed next t
    c = commits_more k.saved k.head k.log k.flushed next entries t k.makes k.committed applied

    -- the tables then committed
    pub after : Tables
    after = c.after

    pub after_is : undone next ≡ Some after
    unfolding after
    after_is = c.undone

    -- they are those from before with what the records commit
    pub after_by : apply_all (commits_of entries k.flushed.lists) t ≡ Some after
    unfolding after
    after_by = c.commits

    more : Makes k.saved k.head (k.log ++ body ∷ []) next
    more = makes_more k.saved k.head k.log k.flushed next body entries k.makes spelled applied

    pub append_stop : EachStop old new (LeavesEither limit t after)
    unfolding after
    append_stop = weaker old new (λ before image. IsAt k.saved k.log image ⊎ IsAt k.saved (k.log ++ body ∷ []) image) (LeavesEither limit t c.after)
        (append_at k.saved k.log old new k.durable body (stops k.durable.synced))
        (λ before image left either. by image either)
      where
        by : (image : Image) → IsAt k.saved k.log image ⊎ IsAt k.saved (k.log ++ body ∷ []) image → IsDatabase limit t image ⊎ IsDatabase limit c.after image
        by image (inl at) = inl (database image at)
        by image (inr at) = inr (subst (λ n. IsDatabase n c.after image) k.limited (is_database k.saved k.head (k.log ++ body ∷ []) next more image at c.after c.undone))

    pub append_kept : IsSynced new 2 → IsWhole (new.content 2) → bodies (new.content 2) ≡ bodies (old.content 2) ++ body ∷ [] → SameOthers 2 old.content new.content
        → IsKept limit stored new [] next after
    unfolding after
    append_kept synced whole added others = record {
      saved = k.saved;
      head = k.head;
      log = k.log ++ body ∷ [];
      flushed = next;
      durable = append_durable k.saved k.log old new k.durable body (stops k.durable.synced) synced whole added others;
      makes = more;
      limited = k.limited;
      counted = k.counted;
      committed = c.undone;
      unflushed = refl;
      quiet = tt;
    }

-- A checkpoint, once what was noted is flushed, by its clauses.
module _ (limit stored : ℕ) (old new : Told) (s : State) (t : Tables) (k : IsKept limit stored old [] s t) (next : Checkpoint) (head : Head)
    (stops : (saved : Checkpoint) → IsSafe saved old → saved.count ≡ stored → EachStop old new (CoversEither saved next)) (saves : Saves next head s)
    (frames : head.frames ≡ length k.log) (place : head.place ≡ frames_len k.log) (limited : head.limit ≡ limit) where
  anew : Makes next head k.log s
  anew = makes_anew k.saved next k.head head k.log s (subst (Makes k.saved k.head k.log) k.unflushed k.makes) saves frames place

  undone_now : undone s ≡ Some t
  undone_now = ap undone (sym k.unflushed) ∙ k.committed

  pub checkpoint_stop : EachStop old new (LeavesEither limit t t)
  checkpoint_stop = weaker old new (λ before image. IsAt k.saved k.log image ⊎ IsAt next k.log image) (LeavesEither limit t t)
      (checkpoint_at k.saved k.log old new k.durable next (stops k.saved k.durable.pages k.counted)) (λ before image left either. by image either)
    where
      by : (image : Image) → IsAt k.saved k.log image ⊎ IsAt next k.log image → IsDatabase limit t image ⊎ IsDatabase limit t image
      by image (inl at) = inl (database limit stored old new [] s t k image at)
      by image (inr at) = inr (subst (λ n. IsDatabase n t image) limited (is_database next head k.log s anew image at t undone_now))

  pub checkpoint_kept : OnlyPages old.content new.content → IsSafe next new → IsKept limit next.count new [] s t
  checkpoint_kept others safe = record {
    saved = next;
    head = head;
    log = k.log;
    flushed = s;
    durable = checkpoint_durable k.saved k.log old new k.durable next (stops k.saved k.durable.pages k.counted) others safe;
    makes = anew;
    limited = limited;
    counted = refl;
    committed = undone_now;
    unflushed = refl;
    quiet = tt;
  }

-- ---- the beginning: sound files, all of them on the disk

module _ (told : Told) (main : IsSynced told 0) (before : IsSynced told 1) (log : IsSynced told 2) (sound : IsSound told.content) where
  abbrev head : Head
  head = sound.formed.head

  abbrev saved : Checkpoint
  saved = saved_by told.content head.count

  safe_at_first : IsSafe saved told
  safe_at_first = record {
    before = before;
    covered = λ image left.
        covered_same saved told.content image (covered_first told.content head sound.formed.saved sound.formed.header sound.formed.stands)
        (main image left) (subst IsWhole (sym (before image left)) sound.formed.header.log.whole) (ap bodies (before image left));
  }

  saves_at_first : Saves saved head sound.formed.saved
  saves_at_first =
      let covered = covered_first told.content head sound.formed.saved sound.formed.header sound.formed.stands in
      record {
        first = header_first told.content head sound.formed.header;
        count = refl;
        stands = subst (λ (pages : Section). Stands pages head sound.formed.saved) (covered_pages saved told.content covered) sound.formed.stands;
      }

  later : Leads (drop head.frames (bodies (told.content 2))) sound.formed.saved sound.formed.now
  later = leads (drop head.frames (bodies (told.content 2))) sound.formed.saved sound.formed.now sound.formed.later

  makes_at_first : Makes saved head (bodies (told.content 2)) sound.formed.now
  makes_at_first = record {
    at = sound.formed.saved;
    saves = saves_at_first;
    frames = sound.formed.log.frames;
    place = sound.formed.log.place;
    earlier = sound.agrees.earlier;
    before = sound.agrees.spelled;
    replayed = sound.agrees.replayed;
    later = later.entries;
    behind = later.spelled;
    applied = later.applied;
  }

  pub kept_at_first : (t : Tables) → undone sound.formed.now ≡ Some t → IsKept head.limit head.count told [] sound.formed.now t
  kept_at_first t h = record {
    saved = saved;
    head = head;
    log = bodies (told.content 2);
    flushed = sound.formed.now;
    durable = record { pages = safe_at_first; synced = log; whole = sound.formed.log.whole; bodies = refl };
    makes = makes_at_first;
    limited = refl;
    counted = refl;
    committed = h;
    unflushed = refl;
    quiet = tt;
  }

-- ---- the same, for what was noted with more behind it

module _ (limit stored : ℕ) (old new : Told) (noted more : List LogRecord) (s next : State) (t after_more : Tables) (k : IsKept limit stored old noted s t) (body : List ℕ)
    (spelled : SpellsRecords body (noted ++ more)) (applied : AppliesAll more s next) (is : undone next ≡ Some after_more) (stops : IsSynced old 2 → EachStop old new (InFile 2 (KeepsOrAdds body))) where
  all_applied : AppliesAll (noted ++ more) k.flushed next
  all_applied = applies_append noted more k.flushed s next k.unflushed applied

  same_after : after limit stored old new noted s t k body (noted ++ more) next spelled all_applied stops ≡ after_more
  same_after =
      let one : Some (after limit stored old new noted s t k body (noted ++ more) next spelled all_applied stops) ≡ Some after_more = sym (after_is limit stored old new noted s t k body (noted ++ more) next spelled all_applied stops) ∙ is in
      cc

  pub commit_stop : EachStop old new (LeavesEither limit t after_more)
  commit_stop = subst (λ x. EachStop old new (LeavesEither limit t x)) same_after (append_stop limit stored old new noted s t k body (noted ++ more) next spelled all_applied stops)

  pub commit_kept : IsSynced new 2 → IsWhole (new.content 2) → bodies (new.content 2) ≡ bodies (old.content 2) ++ body ∷ [] → SameOthers 2 old.content new.content → IsKept limit stored new [] next after_more
  commit_kept synced whole added others =
      subst (IsKept limit stored new [] next) same_after (append_kept limit stored old new noted s t k body (noted ++ more) next spelled all_applied stops synced whole added others)

-- an append that commits nothing leaves the tables
pub flush_same : (limit stored : ℕ) (old : Told) (noted : List LogRecord) (s : State) (t : Tables) → IsKept limit stored old noted s t → undone s ≡ Some t
flush_same limit stored old noted s t k = kept_state limit stored old old noted s t k

none_left : (n : ℕ) (lists : Lists) (t : Tables) → ((conn : ℕ) → lists conn ≡ []) → undo_below n lists t ≡ Some t
none_left zero lists t none = refl
none_left (suc n) lists t none = ap (option_and_then (undo (lists n))) (none_left n lists t none) ∙ ap (λ changes. undo changes t) (none n)

-- once every open list is rolled back, the tables are the committed ones
pub rolled_back : (limit stored : ℕ) (told : Told) (noted : List LogRecord) (s : State) (t : Tables) → IsKept limit stored told noted s t → ((conn : ℕ) → s.lists conn ≡ []) → s.tables ≡ t
rolled_back limit stored told noted s t k none =
    let one : Some s.tables ≡ Some t = sym (none_left connections s.lists s.tables none) ∙ flush_same limit stored told noted s t k in
    cc
