-- One call behind another.
use Rattle.std.proofs.Common.{◌≡◌, ℕ, Result, Ok, Err, refl, sym, ap, ◌∙◌, subst, arith}
use Rattle.wat_faults.specs.Faults.{HasCause}
use Rattle.wat_recover.specs.Goes.{Went}
use Rattle.wat_recover.specs.declared.target.TargetError.{TargetError}
use Rattle.wat_recover.specs.declared.target.TargetError.TheVariants.{Failed}

abbrev pub err : {B : Type 0} → TargetError → Result B TargetError
err e = Err e

pub ok_not_err : {A : Type 0} (r : Result A TargetError) (x : A) → r ≡ Ok x → r ≡ Err Failed → ⊥
ok_not_err r x is h = let no : Ok x ≡ Err Failed = sym is ∙ h in cc

same_error : {A : Type 0} (r : Result A TargetError) (e : TargetError) → r ≡ Err e → r ≡ Err Failed → e ≡ Failed
same_error {A} r e is h = let one : err {B = A} e ≡ err {B = A} Failed = sym is ∙ h in cc

module _ {X : Type 0} (goes : X → X → Type 0) (failures : X → ℕ) where
  -- a call that hasn't failed, and then another
  pub went_on : ((x y z : X) → goes x y → goes y z → goes x z) → (a b c : X) (P Q : Type 0) → Went goes failures a b P → (P → ⊥) → Went goes failures b c Q → Went goes failures a c Q
  went_on on a b c P Q first fine next =
      let same = first.cause.kept fine in
      record {
        beside = on a b c first.beside next.beside;
        cause = subst (λ n. HasCause n (failures c) Q) same next.cause;
      }

  -- nothing is done
  pub went_still : ((x : X) → goes x x) → (a : X) (Q : Type 0) → (Q → ⊥) → Went goes failures a a Q
  went_still still a Q fine = record {
    beside = still a;
    cause = record { later = omega arith; rose = λ q. absurd (fine q); kept = λ none. refl };
  }

  -- the same failure by another name
  pub went_as : (a b : X) (P Q : Type 0) → (P → Q) → (Q → P) → Went goes failures a b P → Went goes failures a b Q
  went_as a b P Q to from w = record {
    beside = w.beside;
    cause = record { later = w.cause.later; rose = λ q. w.cause.rose (from q); kept = λ none. w.cause.kept (λ p. none (to p)) };
  }

  -- the call failed, and so does this one
  pub went_err : {A B : Type 0} (a b : X) (r : Result A TargetError) (e : TargetError) → r ≡ Err e → Went goes failures a b (r ≡ Err Failed) → Went goes failures a b (err {B = B} e ≡ err {B = B} Failed)
  went_err {A} {B} a b r e is w =
      let to : r ≡ Err Failed → err {B = B} e ≡ err {B = B} Failed = λ h. ap (err {B = B}) (same_error r e is h) in
      let from : err {B = B} e ≡ err {B = B} Failed → r ≡ Err Failed = λ h. is ∙ ap Err (let s : err {B = B} e ≡ err {B = B} Failed = h in cc) in
      went_as a b (r ≡ Err Failed) (err {B = B} e ≡ err {B = B} Failed) to from w

  -- nothing failed
  pub went_fine : (a b : X) (P Q : Type 0) → (P → ⊥) → (Q → ⊥) → Went goes failures a b P → Went goes failures a b Q
  went_fine a b P Q fine still_fine w = went_as a b P Q (λ p. absurd (fine p)) (λ q. absurd (still_fine q)) w
