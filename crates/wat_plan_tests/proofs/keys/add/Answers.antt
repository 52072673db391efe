use Rattle.std.proofs.Common.{◌≤◌, ℤ, List, [], ◌∷◌, length, subst, sym, arith}
use Rattle.wat_value.specs.declared.value.Value.{Value}
use Rattle.wat_value.specs.declared.value.Value.TheVariants.{Int}
use Rattle.wat_value.specs.Encoding.{row_bytes}
use Rattle.wat_value.proofs.EncodingLemmas.{length-row_bytes}
use Rattle.wat_plan_tests.proofs.keys.add.Goals as goal

-- the key of one integer takes 11 bytes
is_short : (n : ℤ) → length (row_bytes (Int n ∷ [])) ≤ 902
is_short n = omega (arith, length-row_bytes (Int n ∷ []))

pub insert-requires : goal.insert-requires
insert-requires c = subst (λ (k : List Value). length (row_bytes k) ≤ 902) (sym c.in_ok-key.ensures) (is_short _)
