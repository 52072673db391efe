-- Lists that are gone through one item at a time.
use Rattle.std.proofs.Common.{◌≡◌, List, [], ◌∷◌, ◌++◌, Option, Some, None, refl, ap, ◌∙◌, append-nil}
use Rattle.std.specs.List.{filter_map, cons_option, reduce}
use Rattle.std.specs.Option.{option_map_or}
use Rattle.std.proofs.lemmas.List.Sums.{fold_push}

cons_option-append : {X : Type 0} → (o : Option X) (xs ys : List X) → cons_option o (xs ++ ys) ≡ cons_option o xs ++ ys
cons_option-append None xs ys = refl
cons_option-append (Some x) xs ys = refl

pub filter_map_push : {X Y : Type 0} → (h : X → Option Y) (xs : List X) (x : X) → filter_map h (xs ++ x ∷ []) ≡ filter_map h xs ++ cons_option (h x) []
filter_map_push h [] x = refl
filter_map_push h (y ∷ ys) x = ap (cons_option (h y)) (filter_map_push h ys x) ∙ cons_option-append (h y) (filter_map h ys) (cons_option (h x) [])

-- an item of which nothing is made
pub filter_map_skips : {X Y : Type 0} → (h : X → Option Y) (xs : List X) (x : X) → h x ≡ None → filter_map h (xs ++ x ∷ []) ≡ filter_map h xs
filter_map_skips {X} {Y} h xs x none = filter_map_push h xs x ∙ (ap (λ (o : Option Y). filter_map h xs ++ cons_option o []) none ∙ append-nil (filter_map h xs))

pub reduce_push : {X : Type 0} → (f : X → X → X) (xs : List X) (x : X) → reduce f (xs ++ x ∷ []) ≡ Some (option_map_or (λ v. f v x) (reduce f xs) x)
reduce_push f [] x = refl
reduce_push f (y ∷ ys) x = ap Some (fold_push f y ys x)
