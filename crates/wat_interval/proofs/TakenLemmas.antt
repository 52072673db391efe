-- The columns whose tests are taken, one after another.
use Rattle.std.proofs.Common.{◌≡◌, ◌≢◌, ℕ, ◌+◌, ◌<◌, ◌≤◌, true, false, List, [], ◌∷◌, ◌++◌, length, take, drop, get_or, refl, sym, ap, ◌∙◌, append-nil, append_assoc, if◌then◌else◌}
use Rattle.std.proofs.lemmas.Bool.{both_ways}
use Rattle.std.proofs.lemmas.List.{take_more, take_all, drop_more, drop_all}
use Rattle.wat_interval.specs.declared.test.Test.{Test}
use Rattle.wat_interval.specs.Tests.{fixes, taken}

taken_fixed : (tests : List Test) (more : List (List Test)) → fixes tests ≡ true → taken (tests ∷ more) ≡ tests ∷ taken more
taken_fixed [] more h = absurd (both_ways false refl h)
taken_fixed (t ∷ tests) more h = ap (λ b. if b then (t ∷ tests) ∷ taken more else (t ∷ tests) ∷ []) h

taken_bounded : (tests : List Test) (more : List (List Test)) → tests ≢ [] → fixes tests ≡ false → taken (tests ∷ more) ≡ tests ∷ []
taken_bounded [] more ne h = absurd (ne refl)
taken_bounded (t ∷ tests) more ne h = ap (λ b. if b then (t ∷ tests) ∷ taken more else (t ∷ tests) ∷ []) h

module _ (columns : List (List Test)) (i : ℕ) (tests : List Test) (within : i < length columns) (is : tests ≡ get_or columns i tests) (so : taken columns ≡ take i columns ++ taken (drop i columns)) where
  rest_is : drop i columns ≡ tests ∷ drop (i + 1) columns
  rest_is = drop_more columns i tests within ∙ ap (λ x. x ∷ drop (i + 1) columns) (sym is)

  more_is : take i columns ++ tests ∷ [] ≡ take (i + 1) columns
  more_is = ap (λ x. take i columns ++ x ∷ []) is ∙ sym (take_more columns i tests within)

  -- a column that is fixed
  pub next : fixes tests ≡ true → taken columns ≡ take (i + 1) columns ++ taken (drop (i + 1) columns)
  next h =
      so ∙ (ap (λ z. take i columns ++ taken z) rest_is ∙ (ap (λ z. take i columns ++ z) (taken_fixed tests (drop (i + 1) columns) h)
      ∙ (sym (append_assoc (take i columns) (tests ∷ []) (taken (drop (i + 1) columns))) ∙ ap (λ z. z ++ taken (drop (i + 1) columns)) more_is)))

  -- a column without tests
  pub stopped : tests ≡ [] → take i columns ≡ taken columns
  stopped h = sym (so ∙ (ap (λ z. take i columns ++ taken z) (rest_is ∙ ap (λ x. x ∷ drop (i + 1) columns) h) ∙ append-nil (take i columns)))

  -- a column that is bounded
  pub bounded : tests ≢ [] → fixes tests ≡ false → take (i + 1) columns ≡ taken columns
  bounded ne h = sym (so ∙ (ap (λ z. take i columns ++ taken z) rest_is ∙ (ap (λ z. take i columns ++ z) (taken_bounded tests (drop (i + 1) columns) ne h) ∙ more_is)))

-- no column is left
pub ended : (columns : List (List Test)) (i : ℕ) → length columns ≤ i → taken columns ≡ take i columns ++ taken (drop i columns) → columns ≡ taken columns
ended columns i past so = sym (so ∙ (ap (λ z. take i columns ++ taken z) (drop_all i columns past) ∙ (append-nil (take i columns) ∙ take_all i columns past)))
