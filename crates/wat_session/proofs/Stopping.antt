-- What a stop leaves of a session's log, statement by statement.
use Rattle.std.proofs.Common.{◌≡◌, ◌≢◌, ◌⊎◌, inl, inr, ⊎_elim, ℕ, ◌+◌, ◌≤◌, List, [], ◌∷◌, ◌++◌, length, take, map, All, Some, refl, sym, ◌∙◌, ap, subst, arith, length-append}
use Rattle.std.proofs.lemmas.List.{take_all, take-append-le}
use Rattle.wat_disk.specs.Disk.{Image, Told, Leaves, IsSynced, InFile, EachStop}
use Rattle.wat_gate.specs.Bodies.{bodies}
use Rattle.wat_stops.specs.Commits.{KeepsCommits}
use Rattle.wat_stops.specs.Moments.{AreMoments}
use Rattle.wat_stops.proofs.CommitsLemmas.{KeepsAll, keeps_with_cuts}
use Rattle.wat_stops.proofs.CommitsLemmas as stops
use Rattle.wat_schema.specs.Tables.{Tables, apply_all}
use Rattle.wat_commit_log.specs.Logged.{Transaction, all_acts, body_of, IsFramed, Restarts}
use Rattle.wat_alone.specs.Committing.{saved}
use Rattle.wat_session.specs.Saving.{KeepsOrSaves}
use Rattle.wat_session.specs.Session.{commits_on, tables_after}
use Rattle.wat_session.proofs.Restarting.{restarts_more, restarts_same}
use Rattle.wat_session.proofs.Committing.{map_const, under_way}

-- before the first statement
pub keeps_begins : (tells : Type 0) (entry : Told) (file : ℕ) (base : Tables) → IsSynced entry file → Restarts (entry.content file) base → KeepsAll (commits_on (under_way tells entry file base entry) [] [] [])
keeps_begins tells entry file base synced restarts = stops.keeps_begins (commits_on (under_way tells entry file base entry) [] [] []) refl refl
    (λ image left. subst (λ (log : List ℕ). Restarts log base) (sym (synced image left)) restarts)

-- A statement that commits these transactions, from mid to new.
module _ (tells : Type 0) (entry mid new : Told) (file : ℕ) (base : Tables) (history more : List Transaction) (moments : List ℕ)
    (mid_synced : IsSynced mid file) (restarts : Restarts (mid.content file) (tables_after base history)) (makes : apply_all (all_acts more) (tables_after base history) ≡ Some (tables_after base (history ++ more)))
    (are : All IsFramed (saved more)) (stops_of : EachStop mid new (InFile file (KeepsOrSaves (saved more))))
    (old : KeepsAll (commits_on (under_way tells entry file base mid) history [] moments)) (order : AreMoments entry.moment mid.moment moments) (count : length moments ≡ length history) where
  abbrev Step : Image → Image → Type 0
  Step = InFile file (KeepsOrSaves (saved more))

  -- what this statement may leave
  either_restarts : (before image : Image) → Leaves mid before → Step before image → Restarts (image file) (tables_after base history) ⊎ Restarts (image file) (tables_after base (history ++ more))
  either_restarts before image was step =
      let same : bodies (before file) ≡ bodies (mid.content file) = ap bodies (mid_synced before was) in
      ⊎_elim
      (λ (kept : bodies (image file) ≡ bodies (before file)). inl (restarts_same (mid.content file) (image file) (tables_after base history) restarts step.changed.whole (kept ∙ same)))
      (λ (added : bodies (image file) ≡ bodies (before file) ++ map body_of (saved more)).
      inr (restarts_more (mid.content file) (image file) (tables_after base history) (tables_after base (history ++ more)) more restarts are step.changed.whole
      (added ∙ ap (λ (l : List (List ℕ)). l ++ map body_of (saved more)) same) makes))
      step.changed.either

  -- the session has answered the statement
  pub keeps_goes_on : (new_moments : List ℕ) → length more ≤ 1 → new_moments ≡ moments ++ map (λ _. new.moment) more → IsSynced new file → Restarts (new.content file) (tables_after base (history ++ more))
      → KeepsAll (commits_on (under_way tells entry file base new) (history ++ more) [] new_moments)
  keeps_goes_on new_moments few noted synced after =
      let n = length moments in
      let next = history ++ more in
      let long : length next ≡ n + length more = length-append history more ∙ omega (arith, count) in
      let state : ℕ → Tables = λ j. tables_after base (take j next) in
      let old_state : tables_after base history ≡ state n =
      ap (tables_after base) (sym (take_all n history (omega (arith, count))) ∙ sym (take-append-le n history more (omega (arith, count)))) in
      let new_state : tables_after base next ≡ state (n + length more) = ap (tables_after base) (sym (take_all (n + length more) next (omega (arith, long)))) in
      stops.keeps_goes_on (commits_on (under_way tells entry file base mid) history [] moments) new Step stops_of old order state (length more) new_moments
      (λ j le. ap (tables_after base) (take-append-le j history more (omega (arith, le, count))))
      few
      (noted ∙ ap (λ (l : List ℕ). moments ++ l) (map_const more new.moment))
      (λ before image was step. ⊎_elim
      (λ (kept : Restarts (image file) (tables_after base history)). inl (subst (Restarts (image file)) old_state kept))
      (λ (added : Restarts (image file) (tables_after base next)). inr (subst (Restarts (image file)) new_state added))
      (either_restarts before image was step))
      (λ image left. subst (λ (log : List ℕ). Restarts log (state (n + length more))) (sym (synced image left)) (subst (Restarts (new.content file)) new_state after))

  -- the session has stopped in the commit of this transaction
  pub keeps_cut : (cut : Transaction) → more ≡ cut ∷ [] → KeepsCommits (commits_on (under_way tells entry file base new) history (cut ∷ []) moments)
  keeps_cut cut is =
      let n = length moments in
      let whole : tables_after base history ≡ tables_after base (take n history) = ap (tables_after base) (sym (take_all n history (omega (arith, count)))) in
      keeps_with_cuts (commits_on (under_way tells entry file base mid) history [] moments) new Step stops_of old order (tables_after base (history ++ cut ∷ []) ∷ [])
      (λ before image was step. ⊎_elim
      (λ (kept : Restarts (image file) (tables_after base history)). inl (subst (Restarts (image file)) whole kept))
      (λ (added : Restarts (image file) (tables_after base (history ++ more))).
      inr (0, tables_after base (history ++ cut ∷ []), omega arith, refl, subst (λ (m : List Transaction). Restarts (image file) (tables_after base (history ++ m))) is added))
      (either_restarts before image was step))

-- what has a frame is one transaction
one_cut : (more : List Transaction) → length more ≤ 1 → saved more ≢ [] → (cut : Transaction) × (more ≡ cut ∷ [])
one_cut [] few some = absurd (some refl)
one_cut (t ∷ []) few some = (t, refl)
one_cut (t ∷ u ∷ more) few some = absurd (omega arith)

-- the session has stopped by a fault of the disk
pub keeps_stopped : (tells : Type 0) (entry mid new : Told) (file : ℕ) (base : Tables) (history more : List Transaction) (moments : List ℕ)
    → IsSynced mid file → Restarts (mid.content file) (tables_after base history) → apply_all (all_acts more) (tables_after base history) ≡ Some (tables_after base (history ++ more))
    → All IsFramed (saved more) → EachStop mid new (InFile file (KeepsOrSaves (saved more)))
    → KeepsAll (commits_on (under_way tells entry file base mid) history [] moments) → AreMoments entry.moment mid.moment moments → length moments ≡ length history → length more ≤ 1 → saved more ≢ []
    → KeepsCommits (commits_on (under_way tells entry file base new) history more moments)
keeps_stopped tells entry mid new file base history more moments synced restarts makes are stops_of old order count few some =
    let cut = one_cut more few some in
    subst (λ (m : List Transaction). KeepsCommits (commits_on (under_way tells entry file base new) history m moments)) (sym cut.1)
    (keeps_cut tells entry mid new file base history more moments synced restarts makes are stops_of old order count cut.0 cut.1)
