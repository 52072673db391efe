-- How a run of appends goes on: by an append, and by calls that leave the log's file as it is.
use Rattle.std.proofs.Common.{◌≡◌, ◌≢◌, ⊎_elim, ℕ, ◌+◌, ◌<◌, ◌≤◌, List, [], ◌∷◌, ◌++◌, length, take, get_or, sym, ◌∙◌, ap, subst, arith, append_assoc}
use Rattle.std.proofs.lemmas.List.{take_more, take-append-le, append-nil, get_or_append_left, get_or_push, length_push}
use Rattle.std.proofs.lemmas.Bool.{cases_lt}
use Rattle.wat_disk.specs.Disk.{Told, IsSynced, InFile, SameFiles, EachStop}
use Rattle.wat_disk.proofs.Stops.{stays, weaker, goes_on, left_stays, left_goes_on, left_begins, left_synced}
use Rattle.wat_gate.specs.Bodies.{bodies, KeepsOrAdds}
use Rattle.wat_gate.specs.Runs.{OfFile, SameFile, AddsSome, AddsSomeBodies, IsAcknowledged}

-- what a call on one file says of that file
pub of_file : (old new : Told) (file : ℕ) (Step : List ℕ → List ℕ → Type 0) → EachStop old new (InFile file Step) → EachStop old new (OfFile file Step)
of_file old new file Step stops = weaker old new (InFile file Step) (OfFile file Step) stops (λ before image was step. step.changed)

-- what a call that changes nothing says of a file
pub same_file : (old new : Told) (file : ℕ) → EachStop old new SameFiles → EachStop old new (SameFile file)
same_file old new file stops = weaker old new SameFiles (SameFile file) stops (λ before image was step. step file)

-- what a call on another file says of a file
pub other_file : (old new : Told) (file other : ℕ) (Step : List ℕ → List ℕ → Type 0) → file ≢ other → EachStop old new (InFile other Step) → EachStop old new (SameFile file)
other_file old new file other Step not_it stops = weaker old new (InFile other Step) (SameFile file) stops (λ before image was step. step.others file not_it)

-- A synced file stays so over calls that leave it as it is.
pub synced_kept : (old new : Told) (file : ℕ) → IsSynced old file → new.content file ≡ old.content file → EachStop old new (SameFile file) → IsSynced new file
synced_kept old new file synced same stops image now =
    let found = stops.each new.moment image stops.later (omega arith) now in
    found.2 ∙ synced found.0 found.1 ∙ sym same

-- before the first append
pub run_starts : (told : Told) (file : ℕ) (frames : List (List ℕ)) → EachStop told told (OfFile file (AddsSomeBodies frames 0))
run_starts told file frames = stays told (OfFile file (AddsSomeBodies frames 0)) (λ image left. record {
  n = 0;
  at_least = omega arith;
  at_most = omega arith;
  is = sym (append-nil (bodies (image file)));
})

-- more of the frames may be there
pub more_allowed : (frames before after : List (List ℕ)) (low high higher : ℕ) → high ≤ higher → AddsSome frames low high before after → AddsSome frames low higher before after
more_allowed frames before after low high higher le some = record { n = some.n; at_least = some.at_least; at_most = omega (arith, le, some.at_most); is = some.is }

-- more frames are to come
pub more_to_come : (frames others before after : List (List ℕ)) (low high : ℕ) → high ≤ length frames → AddsSome frames low high before after → AddsSome (frames ++ others) low high before after
more_to_come frames others before after low high within some = record {
  n = some.n;
  at_least = some.at_least;
  at_most = some.at_most;
  is = some.is ∙ ap (λ (l : List (List ℕ)). before ++ l) (sym (take-append-le some.n frames others (omega (arith, within, some.at_most))));
}

pub acknowledged_more : (entry now : Told) (file : ℕ) (before frames : List (List ℕ)) (k at i more : ℕ) → i ≤ more → IsAcknowledged entry now file before frames k at i → IsAcknowledged entry now file before frames k at more
acknowledged_more entry now file before frames k at i more le is = record {
  past = is.past;
  since = λ image left. more_allowed frames before (bodies (image file)) (k + 1) i more le (is.since image left);
  until = is.until;
}

pub run_weaker : (entry now : Told) (file : ℕ) (frames : List (List ℕ)) (i more : ℕ) → i ≤ more → EachStop entry now (OfFile file (AddsSomeBodies frames i)) → EachStop entry now (OfFile file (AddsSomeBodies frames more))
run_weaker entry now file frames i more le stops = weaker entry now (OfFile file (AddsSomeBodies frames i)) (OfFile file (AddsSomeBodies frames more)) stops
    (λ before image was step. more_allowed frames (bodies (before file)) (bodies (image file)) 0 i more le step)

-- the list of a run's frames grows at its end
pub run_grown : (entry now : Told) (file : ℕ) (frames others : List (List ℕ)) (i : ℕ) → i ≤ length frames → EachStop entry now (OfFile file (AddsSomeBodies frames i)) → EachStop entry now (OfFile file (AddsSomeBodies (frames ++ others) i))
run_grown entry now file frames others i within stops = weaker entry now (OfFile file (AddsSomeBodies frames i)) (OfFile file (AddsSomeBodies (frames ++ others) i)) stops
    (λ before image was step. more_to_come frames others (bodies (before file)) (bodies (image file)) 0 i within step)

pub acknowledged_grown : (entry now : Told) (file : ℕ) (before frames others : List (List ℕ)) (k at i : ℕ) → k < i → i ≤ length frames → IsAcknowledged entry now file before frames k at i → IsAcknowledged entry now file before (frames ++ others) k at i
acknowledged_grown entry now file before frames others k at i earlier within is = record {
  past = is.past;
  since = λ image left. more_to_come frames others before (bodies (image file)) (k + 1) i within (is.since image left);
  until = λ image left. more_to_come frames others before (bodies (image file)) 0 (k + 1) (omega (arith, earlier, within)) (is.until image left);
}

-- calls that leave the log's file as it is
module _ (entry mid new : Told) (file : ℕ) (calls : EachStop mid new (SameFile file)) where
  pub run_kept : (frames : List (List ℕ)) (i : ℕ) → EachStop entry mid (OfFile file (AddsSomeBodies frames i)) → EachStop entry new (OfFile file (AddsSomeBodies frames i))
  run_kept frames i so_far = goes_on entry mid new (OfFile file (AddsSomeBodies frames i)) (SameFile file) so_far calls
      (λ before image after was now first then. subst (AddsSomeBodies frames i (before file)) (sym then) first)

  pub acknowledged_kept : (before frames : List (List ℕ)) (k at i : ℕ) → IsAcknowledged entry mid file before frames k at i → IsAcknowledged entry new file before frames k at i
  acknowledged_kept before frames k at i is = record {
    past = omega (arith, is.past, calls.later);
    since = left_goes_on mid new (SameFile file) at (λ image. AddsSome frames (k + 1) i before (bodies (image file))) calls is.past is.since
        (λ first image was has same. subst (λ (l : List ℕ). AddsSome frames (k + 1) i before (bodies l)) (sym same) has);
    until = left_stays mid new (SameFile file) entry.moment at (λ image. AddsSome frames 0 (k + 1) before (bodies (image file))) calls is.past is.until;
  }

-- the bodies after one append more
pub one_more : (before frames : List (List ℕ)) (i : ℕ) (body : List ℕ) → i < length frames → get_or frames i [] ≡ body → (before ++ take i frames) ++ body ∷ [] ≡ before ++ take (i + 1) frames
one_more before frames i body here body_is =
    append_assoc before (take i frames) (body ∷ [])
    ∙ ap (λ (l : List (List ℕ)). before ++ l) (ap (λ (b : List ℕ). take i frames ++ b ∷ []) (sym body_is) ∙ sym (take_more frames i [] here))

-- the append of frame i, at which the log's file is synced
module _ (entry mid new : Told) (file : ℕ) (frames : List (List ℕ)) (i : ℕ) (body : List ℕ) (here : i < length frames) (body_is : get_or frames i [] ≡ body)
    (entry_synced : IsSynced entry file) (mid_synced : IsSynced mid file) (mid_is : bodies (mid.content file) ≡ bodies (entry.content file) ++ take i frames)
    (append : EachStop mid new (OfFile file (KeepsOrAdds body))) where
  abbrev before : List (List ℕ)
  before = bodies (entry.content file)

  -- what this append may leave
  either_adds : (low : ℕ) (image after : List ℕ) → low ≤ i → image ≡ mid.content file → KeepsOrAdds body image after → AddsSome frames low (i + 1) before (bodies after)
  either_adds low image after le is keeps =
      let was : bodies image ≡ before ++ take i frames = ap bodies is ∙ mid_is in
      ⊎_elim
      (λ (same : bodies after ≡ bodies image). record { n = i; at_least = le; at_most = omega arith; is = same ∙ was })
      (λ (added : bodies after ≡ bodies image ++ body ∷ []). record { n = i + 1; at_least = omega (arith, le); at_most = omega arith; is = added ∙ ap (λ (l : List (List ℕ)). l ++ body ∷ []) was ∙ one_more before frames i body here body_is })
      keeps.either

  -- the frames that are there go on to be a prefix of the run's
  pub run_goes_on : EachStop entry mid (OfFile file (AddsSomeBodies frames i)) → EachStop entry new (OfFile file (AddsSomeBodies frames (i + 1)))
  run_goes_on so_far = goes_on entry mid new (OfFile file (AddsSomeBodies frames (i + 1))) (OfFile file (KeepsOrAdds body)) (run_weaker entry mid file frames i (i + 1) (omega arith) so_far) append
      (λ first image after was now step next.
      subst (λ (l : List ℕ). AddsSome frames 0 (i + 1) (bodies l) (bodies (after file))) (sym (entry_synced first was))
      (either_adds 0 (image file) (after file) (omega arith) (mid_synced image now) next))

  -- what was acknowledged stays so
  pub acknowledged_goes_on : (k at : ℕ) → k < i → IsAcknowledged entry mid file before frames k at i → IsAcknowledged entry new file before frames k at (i + 1)
  acknowledged_goes_on k at earlier is = record {
    past = omega (arith, is.past, append.later);
    since = left_goes_on mid new (OfFile file (KeepsOrAdds body)) at (λ image. AddsSome frames (k + 1) (i + 1) before (bodies (image file))) append is.past
        (λ image left. more_allowed frames before (bodies (image file)) (k + 1) i (i + 1) (omega arith) (is.since image left))
        (λ first image was has step. either_adds (k + 1) (first file) (image file) (omega arith) (mid_synced first was) step);
    until = left_stays mid new (OfFile file (KeepsOrAdds body)) entry.moment at (λ image. AddsSome frames 0 (k + 1) before (bodies (image file))) append is.past is.until;
  }

  -- the new frame is acknowledged at the moment that it is
  pub newly_acknowledged : IsSynced new file → bodies (new.content file) ≡ before ++ take (i + 1) frames → EachStop entry new (OfFile file (AddsSomeBodies frames (i + 1))) → IsAcknowledged entry new file before frames i new.moment (i + 1)
  newly_acknowledged synced is run = record {
    past = omega arith;
    since = λ image left. record { n = i + 1; at_least = omega arith; at_most = omega arith; is = ap bodies (left_synced new file image synced left) ∙ is };
    until = left_begins entry new (OfFile file (AddsSomeBodies frames (i + 1))) (λ image. AddsSome frames 0 (i + 1) before (bodies (image file))) run
        (λ first image was step. subst (λ (l : List ℕ). AddsSome frames 0 (i + 1) (bodies l) (bodies (image file))) (entry_synced first was) step);
  }

  -- the frames' moments so far, and one more
  pub all_acknowledged : (moments new_moments : List ℕ) (now : ℕ) → new_moments ≡ moments ++ now ∷ [] → now ≡ new.moment → length moments ≡ i → EachStop entry mid (OfFile file (AddsSomeBodies frames i))
      → ((k : ℕ) → k < length moments → IsAcknowledged entry mid file before frames k (get_or moments k 0) i) → IsSynced new file → bodies (new.content file) ≡ before ++ take (i + 1) frames
      → (k : ℕ) → k < length new_moments → IsAcknowledged entry new file before frames k (get_or new_moments k 0) (i + 1)
  all_acknowledged moments new_moments now moments_are now_is count so_far earlier synced is k within = ⊎_elim
      (λ (old : k < length moments).
      let same : get_or new_moments k 0 ≡ get_or moments k 0 = ap (λ (l : List ℕ). get_or l k 0) moments_are ∙ get_or_append_left moments (now ∷ []) 0 k old in
      subst (λ (at : ℕ). IsAcknowledged entry new file before frames k at (i + 1)) (sym same) (acknowledged_goes_on k (get_or moments k 0) (omega arith) (earlier k old)))
      (λ (newest : length moments ≤ k).
      let last : k ≡ i = omega (arith, ap length moments_are, length_push moments now) in
      let here_now : get_or new_moments k 0 ≡ new.moment = ap (λ (l : List ℕ). get_or l k 0) moments_are ∙ get_or_push moments now 0 k (count ∙ sym last) ∙ now_is in
      subst (λ (at : ℕ). IsAcknowledged entry new file before frames k at (i + 1)) (sym here_now)
      (subst (λ (n : ℕ). IsAcknowledged entry new file before frames n new.moment (i + 1)) (sym last) (newly_acknowledged synced is (run_goes_on so_far))))
      (cases_lt k (length moments))

  -- a run that ends during this append
  pub run_ends : EachStop entry mid (OfFile file (AddsSomeBodies frames i)) → EachStop entry new (OfFile file (AddsSomeBodies frames (length frames)))
  run_ends so_far = run_weaker entry new file frames (i + 1) (length frames) (omega arith) (run_goes_on so_far)

  pub acknowledged_ends : (moments new_moments : List ℕ) → new_moments ≡ moments → length moments ≡ i → ((k : ℕ) → k < length moments → IsAcknowledged entry mid file before frames k (get_or moments k 0) i)
      → (k : ℕ) → k < length new_moments → IsAcknowledged entry new file before frames k (get_or new_moments k 0) (length frames)
  acknowledged_ends moments new_moments same count earlier k within =
      let old : k < length moments = omega (arith, ap length same) in
      let there = acknowledged_more entry new file before frames k (get_or moments k 0) (i + 1) (length frames) (omega arith) (acknowledged_goes_on k (get_or moments k 0) (omega arith) (earlier k old)) in
      subst (λ (l : List ℕ). IsAcknowledged entry new file before frames k (get_or l k 0) (length frames)) (sym same) there
