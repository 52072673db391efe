-- Wants placed in order.
use Rattle.std.proofs.Common.{◌≡◌, ℕ, ◌+◌, List, [], ◌∷◌, ◌++◌, take, drop, slice_get, Some, refl, sym, ◌∙◌, ap, append_assoc, take-append-drop, map}
use Rattle.std.specs.Prelude.{insert}
use Rattle.std.proofs.lemmas.List.{take_more, map-append}
use Rattle.std.proofs.lemmas.Option.{slice_get_within, get_or_from_slice_get}
use Rattle.std.specs.declared.cmp.Ordering.TheVariants.{Less, Equal, Greater}
use Rattle.wat_value.proofs.FitsLemmas.{drop_at}
use Rattle.wat_locks.specs.Order.{lock_cmp}
use Rattle.wat_locks.specs.declared.want.Want.{Want}
use Rattle.wat_level.specs.declared.change.Spot.{Spot}
use Rattle.wat_level.specs.Placed.{placed, placed_all}
use Rattle.wat_level.specs.Change.{spot_wants}
use Rattle.std.specs.List.{flat_map}

pub placed_all_append : (sorted xs ys : List Want) → placed_all sorted (xs ++ ys) ≡ placed_all (placed_all sorted xs) ys
placed_all_append sorted [] ys = refl
placed_all_append sorted (x ∷ xs) ys = placed_all_append (placed x sorted) xs ys

-- one more index done
pub spots_step : (wants : List Want) (table i : ℕ) (spots : List Spot) (spot : Spot) → slice_get spots i ≡ Some spot → placed_all (placed_all wants (spot_wants table spot)) (flat_map (spot_wants table) (drop (i + 1) spots)) ≡ placed_all wants (flat_map (spot_wants table) (drop i spots))
spots_step wants table i spots spot at =
    sym (placed_all_append wants (spot_wants table spot) (flat_map (spot_wants table) (drop (i + 1) spots))) ∙ ap (λ (ss : List Spot). placed_all wants (flat_map (spot_wants table) ss)) (sym (drop_at spots i spot at))

-- a want that comes before, is there, or comes after
pub placed_before : (want w : Want) (ws : List Want) → Less ≡ lock_cmp want.lock w.lock → placed want (w ∷ ws) ≡ want ∷ w ∷ ws
placed_before want w ws e = rw (sym e) refl

pub placed_there : (want w : Want) (ws : List Want) → Equal ≡ lock_cmp want.lock w.lock → placed want (w ∷ ws) ≡ w ∷ ws
placed_there want w ws e = rw (sym e) refl

pub placed_after : (want w : Want) (ws : List Want) → Greater ≡ lock_cmp want.lock w.lock → placed want (w ∷ ws) ≡ w ∷ placed want ws
placed_after want w ws e = rw (sym e) refl

pub take_at_more : {A : Type 0} (xs : List A) (i : ℕ) (x : A) → slice_get xs i ≡ Some x → take (i + 1) xs ≡ take i xs ++ x ∷ []
take_at_more {A} xs i x at =
    let within = slice_get_within xs i x at in
    take_more xs i x within ∙ ap (λ (y : A). take i xs ++ y ∷ []) (get_or_from_slice_get xs i x x at)

pub map_more : {A B : Type 0} (f : A → B) (xs : List A) (i : ℕ) (x : A) → slice_get xs i ≡ Some x → map f (take (i + 1) xs) ≡ map f (take i xs) ++ f x ∷ []
map_more f xs i x at = ap (map f) (take_at_more xs i x at) ∙ map-append f (take i xs) (x ∷ [])

module _ (want w : Want) (ws : List Want) (i : ℕ) (at : slice_get ws i ≡ Some w) where
  pub place_before : (r : List Want) → Less ≡ lock_cmp want.lock w.lock → take i ws ++ placed want (drop i ws) ≡ r → insert ws i want ≡ r
  place_before r less is =
      ap (λ (xs : List Want). take i ws ++ xs) (ap (λ (xs : List Want). want ∷ xs) (drop_at ws i w at) ∙ sym (placed_before want w (drop (i + 1) ws) less) ∙ ap (placed want) (sym (drop_at ws i w at))) ∙ is

  pub place_there : (r : List Want) → Equal ≡ lock_cmp want.lock w.lock → take i ws ++ placed want (drop i ws) ≡ r → ws ≡ r
  place_there r equal is =
      sym (take-append-drop i ws) ∙ ap (λ (xs : List Want). take i ws ++ xs) (drop_at ws i w at ∙ sym (placed_there want w (drop (i + 1) ws) equal) ∙ ap (placed want) (sym (drop_at ws i w at))) ∙ is

  pub place_after : (r : List Want) → Greater ≡ lock_cmp want.lock w.lock → take i ws ++ placed want (drop i ws) ≡ r → take (i + 1) ws ++ placed want (drop (i + 1) ws) ≡ r
  place_after r greater is =
      ap (λ (xs : List Want). xs ++ placed want (drop (i + 1) ws)) (take_at_more ws i w at)
      ∙ append_assoc (take i ws) (w ∷ []) (placed want (drop (i + 1) ws))
      ∙ ap (λ (xs : List Want). take i ws ++ xs) (sym (placed_after want w (drop (i + 1) ws) greater) ∙ ap (placed want) (sym (drop_at ws i w at)))
      ∙ is
