-- Counts of failures over calls in a row.
use Rattle.std.proofs.Common.{◌≡◌, ℕ, refl, subst, arith}
use Rattle.wat_faults.specs.Faults.{HasCause}

-- nothing failed, and no call was made
pub no_cause : (n : ℕ) (failed : Type 0) → (failed → ⊥) → HasCause n n failed
no_cause n failed fine = record { later = omega arith; rose = λ f. absurd (fine f); kept = λ no. refl }

-- the same failure in other words
pub same_cause : (before now : ℕ) (failed other : Type 0) → HasCause before now failed → (failed → other) → (other → failed) → HasCause before now other
same_cause before now failed other h to back = record { later = h.later; rose = λ f. h.rose (back f); kept = λ no. h.kept (λ f. no (to f)) }

-- behind a call that has not failed
pub then_cause : (before mid now : ℕ) (first failed : Type 0) → HasCause before mid first → (first → ⊥) → HasCause mid now failed → HasCause before now failed
then_cause before mid now first failed h fine g =
    let same : mid ≡ before = h.kept fine in
    subst (λ n. HasCause n now failed) same g
