-- Images that are laid over main, in opening.
use Rattle.std.proofs.Common.{◌≡◌, ⊎_elim, ℕ, List, sym, ◌∙◌, ap, subst, arith}
use Rattle.std.specs.Prelude.{nat_eq, MatchOption, IsSome}
use Rattle.std.specs.Map.{lookup, keys_of}
use Rattle.std.specs.List.Sorted.{IsStrictlySortedBy}
use Rattle.std.specs.Ordering.{nat_cmp}
use Rattle.std.proofs.lemmas.Map.Made.{is_some-lookup}
use Rattle.wat_disk.specs.Disk.{Told, Leaves, InFile, EachStop}
use Rattle.wat_disk.proofs.Stops.{weaker}
use Rattle.wat_restore.specs.Restored.{Checkpoint, HasPage, IsCovered, images_in, laid, KeepsPagesBut}
use Rattle.wat_restore.specs.Images.{AllWhole}
use Rattle.wat_restore.specs.Safe.{IsSafe, Covers, CoversEither, HasPages}
use Rattle.wat_restore.proofs.Laid.{laid_page}
use Rattle.wat_restore.proofs.Covering.{covered_written}
use Rattle.wat_images.proofs.Sequence.{distinct_sorted}

module _ (saved : Checkpoint) (entry : Told) (entries : List (ℕ × List ℕ)) (safe : IsSafe saved entry)
    (same : (page : ℕ) → lookup (nat_eq page) entries ≡ lookup (nat_eq page) (images_in (entry.content 1))) where
  pub lay_stops : (new : Told) → EachStop entry new (InFile 0 (KeepsPagesBut (keys_of entries))) → EachStop entry new (Covers saved)
  lay_stops new stops = weaker entry new (InFile 0 (KeepsPagesBut (keys_of entries))) (Covers saved) stops (λ before image left step. record {
    covered = covered_written saved before image (keys_of entries) (safe.covered before left) (step.others 1 (λ e. omega arith)) step.changed
        (λ page below among.
        let there : IsSome (lookup (nat_eq page) entries) = is_some-lookup (nat_eq page) entries ∙ among in
        subst IsSome (same page ∙ ap (λ file. lookup (nat_eq page) (images_in file)) (sym (safe.before before left))) there);
    others = λ file other. step.others file (λ e. omega arith);
  })

  pub laid_has : Leaves entry entry.content → AllWhole entries → IsStrictlySortedBy nat_cmp (keys_of entries) → HasPages (laid (entry.content 0) entries) saved
  laid_has left whole sorted page below =
      laid_page entries (entry.content 0) (saved.page page) page whole (distinct_sorted (keys_of entries) sorted)
      (subst (λ o. MatchOption o (HasPage (entry.content 0) page (saved.page page)) (λ image. image ≡ saved.page page)) (sym (same page)) ((safe.covered entry.content left).pages page below))

pub one_of_one : (saved : Checkpoint) (old new : Told) → EachStop old new (CoversEither saved saved) → EachStop old new (Covers saved)
one_of_one saved old new stops = weaker old new (CoversEither saved saved) (Covers saved) stops (λ before image left step. record {
  covered = ⊎_elim (λ (one : IsCovered saved image). one) (λ (two : IsCovered saved image). two) step.covered;
  others = step.others;
})
