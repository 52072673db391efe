-- A set of columns in their places.
use Rattle.std.proofs.Common.{◌≡◌, ℕ, ◌+◌, ◌<◌, ◌==◌, ◌&&◌, ◌||◌, Bool, true, false, not, cond, List, [], ◌∷◌, take, length, get_or, refl, sym, ap, ap₂, ◌∙◌}
use Rattle.std.specs.Cmp.{both_ways}
use Rattle.std.specs.List.{list_any}
use Rattle.std.proofs.lemmas.Bool.{eq-eqb, eqb-true}
use Rattle.std.proofs.lemmas.List.{take_more}
use Rattle.std.proofs.lemmas.List.Folds.{list_any-append}
use Rattle.wat_walk.specs.Parts.{Spot}
use Rattle.wat_typing.specs.Rules.{has_other, spot_eq}

number_turned : (a b : ℕ) → (a == b) ≡ (b == a)
number_turned a b = both_ways (a == b) (b == a) (λ h. eq-eqb b a (sym (eqb-true a b h))) (λ h. eq-eqb a b (sym (eqb-true b a h)))

spot_turned : (a b : Spot) → spot_eq a b ≡ spot_eq b a
spot_turned a b = ap₂ (λ x y. x && y) (number_turned a.0 b.0) (number_turned a.1 b.1)

either : (a b : Bool) → cond a true b ≡ (b || (a || false))
either true true = refl
either true false = refl
either false true = refl
either false false = refl

-- a set with the columns so far, and with one more
pub spots_more : (spot : Spot) (columns : List Spot) (i : ℕ) (d column : Spot) (had : Bool) → i < length columns → column ≡ get_or columns i d → had ≡ list_any (spot_eq spot) (take i columns)
    → cond (spot_eq column spot) true had ≡ list_any (spot_eq spot) (take (i + 1) columns)
spots_more spot columns i d column had within is had_is =
    ap₂ (λ a b. cond a true b) (spot_turned column spot) had_is
    ∙ either (spot_eq spot column) (list_any (spot_eq spot) (take i columns))
    ∙ sym (ap (list_any (spot_eq spot)) (take_more columns i d within) ∙ list_any-append (spot_eq spot) (take i columns) (get_or columns i d ∷ [])
    ∙ ap (λ (x : Spot). list_any (spot_eq spot) (take i columns) || (spot_eq spot x || false)) (sym is))

-- Of two lists with the same columns, one has what the other has.
pub others_alike : (kept keys columns : List Spot) → ((column : Spot) → list_any (spot_eq column) kept ≡ list_any (spot_eq column) keys) → has_other kept columns ≡ has_other keys columns
others_alike kept keys [] same = refl
others_alike kept keys (c ∷ cs) same = ap₂ (λ a b. not a || b) (same c) (others_alike kept keys cs same)
