-- How what stops leave of commits goes on, step by step.
use Rattle.std.proofs.Common.{◌≡◌, ◌⊎◌, inl, inr, ⊎_elim, ◌↔◌, ℕ, zero, suc, ◌+◌, ◌<◌, ◌≤◌, List, [], ◌++◌, length, get_or, replicate, sym, ◌∙◌, ap, subst, arith, length-append}
use Rattle.std.specs.List.{Any}
use Rattle.std.proofs.lemmas.List.{get_or_append_left, get_or_push, length-replicate}
use Rattle.std.proofs.lemmas.Bool.{cases_lt, cases_order}
use Rattle.wat_disk.specs.Disk.{Image, Told, Leaves, LeftBetween, EachLeft, SameFiles, EachStop}
use Rattle.wat_disk.proofs.Stops.{left_stays, left_goes_on}
use Rattle.wat_stops.specs.Commits.{Commits, RestartsBetween, RestartsWithCut, KeepsCommits}
use Rattle.wat_stops.specs.Moments.{AreMoments}

-- What stops leave where no commit was cut.
pub record KeepsAll {State : Type 0} (c : Commits State) : Type 0 where
  pub later : c.entry.moment ≤ c.now.moment
  pub past : (t : ℕ) (image : Image) → t ≤ c.entry.moment → c.now.left_at t image ↔ c.entry.left_at t image
  pub every : EachLeft c.now c.entry.moment c.now.moment (λ image. RestartsBetween c 0 (length c.moments) image)
  pub since : (k : ℕ) → k < length c.moments → EachLeft c.now (get_or c.moments k 0) c.now.moment (λ image. RestartsBetween c (k + 1) (length c.moments) image)
  pub until : (k : ℕ) → k < length c.moments → EachLeft c.now c.entry.moment (get_or c.moments k 0) (λ image. RestartsBetween c 0 (k + 1) image)

-- no commit was cut
pub keeps_commits : {State : Type 0} (c : Commits State) → KeepsAll c → KeepsCommits c
keeps_commits c all = record {
  past = all.past;
  every = λ image left. inl (all.every image left);
  since = λ k within image left. inl (all.since k within image left);
  until = all.until;
}

-- what is left now
left_now : (told : Told) (image : Image) → LeftBetween told told.moment told.moment image → Leaves told image
left_now told image left = let here : left.0 ≡ told.moment = omega (arith, left.1, left.2) in subst (λ (t : ℕ). told.left_at t image) here left.3

-- before the first commit
pub keeps_begins : {State : Type 0} (c : Commits State) → c.now ≡ c.entry → c.moments ≡ [] → ((image : Image) → Leaves c.entry image → c.Restarts image (c.after 0)) → KeepsAll c
keeps_begins c same none restarts =
    let same_moment : c.now.moment ≡ c.entry.moment = ap (λ (t : Told). t.moment) same in
    let few : length c.moments ≡ 0 = ap length none in
    record {
      later = omega arith;
      past = λ t image to. subst (λ (told : Told). told.left_at t image ↔ c.entry.left_at t image) (sym same) (λ left. left, λ left. left);
      every = λ image left.
          let there : Leaves c.entry image = left_now c.entry image (subst (λ (told : Told). LeftBetween told c.entry.moment told.moment image) same left) in
          record { j = 0; at_least = omega arith; at_most = omega arith; restarts = restarts image there };
      since = λ k within. absurd (omega (arith, within, few));
      until = λ k within. absurd (omega (arith, within, few));
    }

-- the moments that are noted now
noted_at : (moments : List ℕ) (now more k : ℕ) → more ≤ 1 → length moments ≤ k → k < length moments + more → get_or (moments ++ replicate more now) k 0 ≡ now
noted_at moments now zero k few from to = absurd (omega arith)
noted_at moments now (suc zero) k few from to = get_or_push moments now 0 k (omega arith)
noted_at moments now (suc (suc more)) k few from to = absurd (omega arith)

-- A step of the session, which acknowledges a commit or none.
module _ {State : Type 0} (c : Commits State) (new : Told) (Step : Image → Image → Type 0) (stops : EachStop c.now new Step)
    (old : KeepsAll c) (order : AreMoments c.entry.moment c.now.moment c.moments) where
  past_goes_on : (t : ℕ) (image : Image) → t ≤ c.entry.moment → new.left_at t image ↔ c.entry.left_at t image
  past_goes_on t image to =
      let to_mid : t ≤ c.now.moment = omega (arith, old.later, to) in
      (λ left. (old.past t image to).0 ((stops.past t image to_mid).0 left), λ left. (stops.past t image to_mid).1 ((old.past t image to).1 left))

  -- the session has stopped in a commit that a disk fault cut short
  pub keeps_with_cuts : (cuts : List State) → ((before image : Image) → Leaves c.now before → Step before image → c.Restarts image (c.after (length c.moments)) ⊎ Any (c.Restarts image) cuts)
      → KeepsCommits (record c { now = new; cuts = cuts })
  keeps_with_cuts cuts leaves =
      let d : Commits State = record c { now = new; cuts = cuts } in
      let same : (low high : ℕ) (image : Image) → RestartsBetween c low high image → RestartsBetween d low high image =
      λ low high image is. record { j = is.j; at_least = is.at_least; at_most = is.at_most; restarts = is.restarts } in
      let either : (low : ℕ) (image : Image) → low ≤ length c.moments → (c.Restarts image (c.after (length c.moments)) ⊎ Any (c.Restarts image) cuts) → RestartsBetween d low (length c.moments) image ⊎ RestartsWithCut d image =
      λ low image le both. ⊎_elim
      (λ (last : c.Restarts image (c.after (length c.moments))). inl (record { j = length c.moments; at_least = le; at_most = omega arith; restarts = last }))
      (λ (cut : Any (c.Restarts image) cuts). inr cut)
      both in
      record {
        past = past_goes_on;
        every = left_goes_on c.now new Step c.entry.moment (λ image. RestartsBetween d 0 (length c.moments) image ⊎ RestartsWithCut d image) stops old.later
            (λ image left. inl (same 0 (length c.moments) image (old.every image left)))
            (λ before image was has step. either 0 image (omega arith) (leaves before image was step));
        since = λ k within. left_goes_on c.now new Step (get_or c.moments k 0) (λ image. RestartsBetween d (k + 1) (length c.moments) image ⊎ RestartsWithCut d image) stops (order.past k within)
            (λ image left. inl (same (k + 1) (length c.moments) image (old.since k within image left)))
            (λ before image was has step. either (k + 1) image (omega (arith, within)) (leaves before image was step));
        until = λ k within. left_stays c.now new Step c.entry.moment (get_or c.moments k 0) (λ image. RestartsBetween d 0 (k + 1) image) stops (order.past k within)
            (λ image left. same 0 (k + 1) image (old.until k within image left));
      }

  -- the session has gone on, by so many commits
  pub keeps_goes_on : (after : ℕ → State) (more : ℕ) (moments : List ℕ) → ((j : ℕ) → j ≤ length c.moments → after j ≡ c.after j) → more ≤ 1 → moments ≡ c.moments ++ replicate more new.moment
      → ((before image : Image) → Leaves c.now before → Step before image → c.Restarts image (after (length c.moments)) ⊎ c.Restarts image (after (length c.moments + more)))
      → ((image : Image) → Leaves new image → c.Restarts image (after (length c.moments + more)))
      → KeepsAll (record c { now = new; after = after; moments = moments })
  keeps_goes_on after more moments before_same few noted leaves then =
      let n = length c.moments in
      let d : Commits State = record c { now = new; after = after; moments = moments } in
      let many : length moments ≡ n + more = ap length noted ∙ length-append c.moments (replicate more new.moment) ∙ ap (λ (m : ℕ). n + m) (length-replicate more new.moment) in
      let wider : (low high : ℕ) (image : Image) → high ≤ n → RestartsBetween c low high image → (higher : ℕ) → high ≤ higher → RestartsBetween d low higher image =
      λ low high image within is higher le. record {
        j = is.j;
        at_least = is.at_least;
        at_most = omega (arith, is.at_most, le);
        restarts = subst (c.Restarts image) (sym (before_same is.j (omega (arith, is.at_most, within)))) is.restarts;
      } in
      let at : (low j : ℕ) (image : Image) → low ≤ j → j ≤ n + more → c.Restarts image (after j) → RestartsBetween d low (n + more) image =
      λ low j image from to has. record { j = j; at_least = from; at_most = to; restarts = has } in
      let either : (low : ℕ) (image : Image) → low ≤ n → (c.Restarts image (after n) ⊎ c.Restarts image (after (n + more))) → RestartsBetween d low (n + more) image =
      λ low image le both. ⊎_elim
      (λ (last : c.Restarts image (after n)). at low n image le (omega arith) last)
      (λ (next : c.Restarts image (after (n + more))). at low (n + more) image (omega (arith, le)) (omega arith) next)
      both in
      let earlier : (k : ℕ) → k < n → get_or moments k 0 ≡ get_or c.moments k 0 = λ k within.
      ap (λ (l : List ℕ). get_or l k 0) noted ∙ get_or_append_left c.moments (replicate more new.moment) 0 k within in
      let newest : (k : ℕ) → n ≤ k → k < n + more → get_or moments k 0 ≡ new.moment = λ k from to.
      ap (λ (l : List ℕ). get_or l k 0) noted ∙ noted_at c.moments new.moment more k few from to in
      let every : EachLeft new c.entry.moment new.moment (λ image. RestartsBetween d 0 (n + more) image) =
      left_goes_on c.now new Step c.entry.moment (λ image. RestartsBetween d 0 (n + more) image) stops old.later
      (λ image left. wider 0 n image (omega arith) (old.every image left) (n + more) (omega arith))
      (λ before image was has step. either 0 image (omega arith) (leaves before image was step)) in
      let since : (k : ℕ) → k < n + more → EachLeft new (get_or moments k 0) new.moment (λ image. RestartsBetween d (k + 1) (n + more) image) =
      λ k within. ⊎_elim
      (λ (is_old : k < n). subst (λ (t : ℕ). EachLeft new t new.moment (λ image. RestartsBetween d (k + 1) (n + more) image)) (sym (earlier k is_old))
      (left_goes_on c.now new Step (get_or c.moments k 0) (λ image. RestartsBetween d (k + 1) (n + more) image) stops (order.past k is_old)
      (λ image left. wider (k + 1) n image (omega arith) (old.since k is_old image left) (n + more) (omega arith))
      (λ before image was has step. either (k + 1) image (omega (arith, is_old)) (leaves before image was step))))
      (λ (is_new : n ≤ k). subst (λ (t : ℕ). EachLeft new t new.moment (λ image. RestartsBetween d (k + 1) (n + more) image)) (sym (newest k is_new within))
      (λ image left. at (k + 1) (n + more) image (omega (arith, within)) (omega arith) (then image (left_now new image left))))
      (cases_lt k n) in
      let until : (k : ℕ) → k < n + more → EachLeft new c.entry.moment (get_or moments k 0) (λ image. RestartsBetween d 0 (k + 1) image) =
      λ k within. ⊎_elim
      (λ (is_old : k < n). subst (λ (t : ℕ). EachLeft new c.entry.moment t (λ image. RestartsBetween d 0 (k + 1) image)) (sym (earlier k is_old))
      (λ image left. wider 0 (k + 1) image (omega (arith, is_old))
      (left_stays c.now new Step c.entry.moment (get_or c.moments k 0) (λ image. RestartsBetween c 0 (k + 1) image) stops (order.past k is_old) (old.until k is_old) image left)
      (k + 1) (omega arith)))
      (λ (is_new : n ≤ k).
      let last : n + more ≡ k + 1 = omega (arith, few, is_new, within) in
      subst (λ (t : ℕ). EachLeft new c.entry.moment t (λ image. RestartsBetween d 0 (k + 1) image)) (sym (newest k is_new within))
      (subst (λ (m : ℕ). EachLeft new c.entry.moment new.moment (λ image. RestartsBetween d 0 m image)) last every))
      (cases_lt k n) in
      record {
        later = omega (arith, old.later, stops.later);
        past = past_goes_on;
        every = subst (λ (m : ℕ). EachLeft new c.entry.moment new.moment (λ image. RestartsBetween d 0 m image)) (sym many) every;
        since = λ k within. subst (λ (m : ℕ). EachLeft new (get_or moments k 0) new.moment (λ image. RestartsBetween d (k + 1) m image)) (sym many) (since k (omega (arith, within, many)));
        until = λ k within. until k (omega (arith, within, many));
      }

-- one moment is up to another, or from it on
order_of : (t m : ℕ) → (t ≤ m) ⊎ (m ≤ t)
order_of t m = ⊎_elim (λ same. inl (omega arith)) (λ other. ⊎_elim (λ less. inl (omega arith)) (λ more. inr (omega arith)) other) (cases_order t m)

-- Commits after calls that changed no file are commits since before those calls.
module _ {State : Type 0} (before : Told) (c : Commits State) (stops : EachStop before c.entry SameFiles)
    (restarts : (image : Image) → Leaves before image → c.Restarts image (c.after 0))
    (same : (one other : Image) → SameFiles one other → c.Restarts one (c.after 0) → c.Restarts other (c.after 0)) (kept : KeepsCommits c) where
  as_before : (image : Image) (s high : ℕ) → before.moment ≤ s → s ≤ c.entry.moment → c.now.left_at s image → RestartsBetween (record c { entry = before }) 0 high image
  as_before image s high from to left =
      let found = stops.each s image from to ((kept.past s image to).0 left) in
      record { j = 0; at_least = omega arith; at_most = omega arith; restarts = same found.0 image found.2 (restarts found.0 found.1) }

  there : (low high : ℕ) (image : Image) → RestartsBetween c low high image → RestartsBetween (record c { entry = before }) low high image
  there low high image is = record { j = is.j; at_least = is.at_least; at_most = is.at_most; restarts = is.restarts }

  or_cut : (low high : ℕ) (image : Image) → RestartsBetween c low high image ⊎ RestartsWithCut c image → RestartsBetween (record c { entry = before }) low high image ⊎ RestartsWithCut c image
  or_cut low high image is = ⊎_elim (λ (is : RestartsBetween c low high image). inl (there low high image is)) (λ (cut : RestartsWithCut c image). inr cut) is

  pub keeps_earlier : KeepsCommits (record c { entry = before })
  keeps_earlier = record {
    past = λ t image to.
        let to_mid : t ≤ c.entry.moment = omega (arith, to, stops.later) in
        let first = stops.past t image to in
        let then = kept.past t image to_mid in
        (λ left. first.0 (then.0 left), λ left. then.1 (first.1 left));
    every = λ image left. ⊎_elim
        (λ (to_mid : left.0 ≤ c.entry.moment). inl (as_before image left.0 (length c.moments) left.1 to_mid left.3))
        (λ (from_mid : c.entry.moment ≤ left.0). or_cut 0 (length c.moments) image (kept.every image (left.0, from_mid, left.2, left.3)))
        (order_of left.0 c.entry.moment);
    since = λ k within image left. or_cut (k + 1) (length c.moments) image (kept.since k within image left);
    until = λ k within image left. ⊎_elim
        (λ (to_mid : left.0 ≤ c.entry.moment). as_before image left.0 (k + 1) left.1 to_mid left.3)
        (λ (from_mid : c.entry.moment ≤ left.0). there 0 (k + 1) image (kept.until k within image (left.0, from_mid, left.2, left.3)))
        (order_of left.0 c.entry.moment);
  }
