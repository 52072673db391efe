-- The sets that the rules write out are those that a text is cut by.
use Rattle.std.proofs.Common.{◌≡◌, ◌==◌, ℕ, Bool, true, ◌&&◌, List, [], ◌∷◌, refl, ◌∙◌, ap, arith}
use Rattle.std.proofs.lemmas.Bool.Decides.{nat_tests}
use Rattle.std.specs.List.{list_all}
use Rattle.wat_lex.specs.Rules as rules
use Rattle.wat_lex.specs.Tokens.{is_blank, is_pair, is_single}

pub blank_same : (b : ℕ) → rules.is_blank b ≡ is_blank b
blank_same b = grind (arith, nat_tests)

pub single_same : (b : ℕ) → rules.is_symbol b ≡ is_single b
single_same b = grind (arith, nat_tests)

pub pair_same : (b c : ℕ) → rules.is_pair b c ≡ is_pair b c
pair_same b c = grind (arith, nat_tests)

pub blanks_same : (s : List ℕ) → list_all rules.is_blank s ≡ list_all is_blank s
blanks_same [] = refl
blanks_same (b ∷ s) = ap (λ (t : Bool). t && list_all rules.is_blank s) (blank_same b) ∙ ap (λ (t : Bool). is_blank b && t) (blanks_same s)
