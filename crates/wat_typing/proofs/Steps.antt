-- Lists that are made of another one item by item.
use Rattle.std.proofs.Common.{◌≡◌, ℕ, ◌+◌, ◌<◌, length, get_or, take, map, List, [], ◌∷◌, ◌++◌, Option, Some, None, refl, ap, sym, ◌∙◌}
use Rattle.std.specs.List.{filter_map, flat_map, cons_option}
use Rattle.std.proofs.lemmas.List.{take_more, append-nil, append_assoc, map-append}
use Rattle.std.proofs.lemmas.List.Concat.{flat_map-append}
use Rattle.std.proofs.lemmas.List.Elements.{filter_map-append}
use Rattle.std.specs.Option.{option_to_list}

cons-option_to_list : {A : Type 0} (o : Option A) → cons_option o [] ≡ option_to_list o
cons-option_to_list None = refl
cons-option_to_list (Some x) = refl

filter_map-take : {X A : Type 0} (f : X → Option A) (xs : List X) (i : ℕ) (x : X) → i < length xs → x ≡ get_or xs i x → filter_map f (take (i + 1) xs) ≡ filter_map f (take i xs) ++ option_to_list (f x)
filter_map-take f xs i x within is =
    ap (filter_map f) (take_more xs i x within)
    ∙ (filter_map-append f (take i xs) (get_or xs i x ∷ [])
    ∙ (ap (λ y. filter_map f (take i xs) ++ cons_option (f y) []) (sym is) ∙ ap (λ ys. filter_map f (take i xs) ++ ys) (cons-option_to_list (f x))))

-- one item more, of which one or none is made
pub filter_map_next : {X A : Type 0} (f : X → Option A) (xs : List X) (i : ℕ) (x : X) (old new : List A) → i < length xs → x ≡ get_or xs i x
    → old ≡ filter_map f (take i xs) → new ≡ old ++ option_to_list (f x) → new ≡ filter_map f (take (i + 1) xs)
filter_map_next f xs i x old new within is before made =
    made ∙ (ap (λ ys. ys ++ option_to_list (f x)) before ∙ sym (filter_map-take f xs i x within is))

-- the same under a map
pub map_filter_next : {X A B : Type 0} (g : A → B) (f : X → Option A) (xs : List X) (i : ℕ) (x : X) (old new : List B) → i < length xs → x ≡ get_or xs i x
    → old ≡ map g (filter_map f (take i xs)) → new ≡ old ++ map g (option_to_list (f x)) → new ≡ map g (filter_map f (take (i + 1) xs))
map_filter_next g f xs i x old new within is before made =
    made ∙ (ap (λ ys. ys ++ map g (option_to_list (f x))) before
    ∙ (sym (map-append g (filter_map f (take i xs)) (option_to_list (f x))) ∙ ap (map g) (sym (filter_map-take f xs i x within is))))

flat_map-take : {X A : Type 0} (g : X → List A) (xs : List X) (i : ℕ) (x : X) → i < length xs → x ≡ get_or xs i x → flat_map g (take (i + 1) xs) ≡ flat_map g (take i xs) ++ g x
flat_map-take g xs i x within is =
    ap (flat_map g) (take_more xs i x within)
    ∙ (flat_map-append g (take i xs) (get_or xs i x ∷ [])
    ∙ (ap (λ y. flat_map g (take i xs) ++ (g y ++ [])) (sym is) ∙ ap (λ ys. flat_map g (take i xs) ++ ys) (append-nil (g x))))

-- one item more, behind what stood at the start
pub flat_map_next : {X A : Type 0} (g : X → List A) (xs : List X) (i : ℕ) (x : X) (start old new : List A) → i < length xs → x ≡ get_or xs i x
    → old ≡ start ++ flat_map g (take i xs) → new ≡ old ++ g x → new ≡ start ++ flat_map g (take (i + 1) xs)
flat_map_next g xs i x start old new within is before made =
    made ∙ (ap (λ ys. ys ++ g x) before
    ∙ (append_assoc start (flat_map g (take i xs)) (g x) ∙ ap (λ ys. start ++ ys) (sym (flat_map-take g xs i x within is))))

-- the same of what one or none is made of each item
pub flat_filter_next : {X Y A : Type 0} (g : Y → List A) (f : X → Option Y) (xs : List X) (i : ℕ) (x : X) (start old new : List A) → i < length xs → x ≡ get_or xs i x
    → old ≡ start ++ flat_map g (filter_map f (take i xs)) → new ≡ old ++ flat_map g (option_to_list (f x)) → new ≡ start ++ flat_map g (filter_map f (take (i + 1) xs))
flat_filter_next g f xs i x start old new within is before made =
    made ∙ (ap (λ ys. ys ++ flat_map g (option_to_list (f x))) before
    ∙ (append_assoc start (flat_map g (filter_map f (take i xs))) (flat_map g (option_to_list (f x)))
    ∙ ap (λ ys. start ++ ys) (sym (flat_map-append g (filter_map f (take i xs)) (option_to_list (f x))) ∙ ap (flat_map g) (sym (filter_map-take f xs i x within is)))))
