-- The files of a database, one after another.
use Rattle.std.proofs.Common.{◌≡◌, ◌+◌, ◌<◌, ◌⊎◌, ℕ, Bool, true, List, [], refl, sym, ap, ◌∙◌, subst, inl, inr, arith}
use Rattle.std.specs.Prelude.{IsTrue, ◌↔◌}
use Rattle.std.proofs.lemmas.Bool.{cases_lt}
use Rattle.wat_disk.specs.Disk.{Image, SameFiles}

-- one file more is empty
pub one_more : (old now : Image) (n : ℕ) → SameFiles old now → ((file : ℕ) → file < n → old file ≡ []) → (b : Bool) → b ≡ true → (IsTrue b ↔ (now n ≡ [])) → (file : ℕ) → file < n + 1 → old file ≡ []
one_more old now n same below b is says file there = elim (cases_lt file n) [
  | inl earlier ↦ below file earlier
  | inr late ↦ let here : file ≡ n = omega (arith, late, there) in ap old here ∙ sym (same n) ∙ says.0 (subst IsTrue (sym is) refl)
]
