-- Acts that are made, and changes that are taken back.
use Rattle.std.proofs.Common.{◌≡◌, ℕ, ◌+◌, ◌<◌, List, [], ◌∷◌, ◌++◌, length, take, get_or, Option, Some, None, unwrap_or, refl, sym, ◌∙◌, ap}
use Rattle.std.specs.Option.{option_and_then}
use Rattle.std.proofs.lemmas.List.{take_more}
use Rattle.wat_value.specs.declared.change.Change.{Change}
use Rattle.wat_value.specs.declared.change.Act.{Act}
use Rattle.wat_schema.specs.Tables.{Tables, apply, apply_all, apply_change, inverse}
use Rattle.wat_alone.specs.Alone.{made, taken_back}

pub made-append : (xs ys : List Act) (t : Tables) → made (xs ++ ys) t ≡ made ys (made xs t)
made-append [] ys t = refl
made-append (x ∷ xs) ys t = made-append xs ys (unwrap_or (apply x t) t)

-- one act more
pub made-more : (acts : List Act) (i : ℕ) (d : Act) (t : Tables) → i < length acts → made (take (i + 1) acts) t ≡ unwrap_or (apply (get_or acts i d) (made (take i acts) t)) (made (take i acts) t)
made-more acts i d t there = ap (λ (l : List Act). made l t) (take_more acts i d there) ∙ made-append (take i acts) (get_or acts i d ∷ []) t

pub taken_back-append : (xs ys : List Change) (t : Tables) → taken_back (xs ++ ys) t ≡ taken_back xs (taken_back ys t)
taken_back-append [] ys t = refl
taken_back-append (x ∷ xs) ys t = ap (λ (u : Tables). unwrap_or (apply_change (inverse x) u) u) (taken_back-append xs ys t)

-- the last change is taken back first
pub taken_back-last : (xs : List Change) (x : Change) (t : Tables) → taken_back (xs ++ x ∷ []) t ≡ taken_back xs (unwrap_or (apply_change (inverse x) t) t)
taken_back-last xs x t = taken_back-append xs (x ∷ []) t

-- acts that apply one after another are made so
pub made_is : (acts : List Act) (t u : Tables) → apply_all acts t ≡ Some u → made acts t ≡ u
made_is [] t u h = let same : Some t ≡ Some u = h in cc
made_is (act ∷ acts) t u h = by (λ mid later. made_is acts mid u later) (apply act t) refl h
  where
    by : ((mid : Tables) → apply_all acts mid ≡ Some u → made acts mid ≡ u) → (o : Option Tables) → apply act t ≡ o → option_and_then (apply_all acts) o ≡ Some u → made acts (unwrap_or (apply act t) t) ≡ u
    by rest None is later = cc
    by rest (Some mid) is later = ap (λ (o : Option Tables). made acts (unwrap_or o t)) is ∙ rest mid later
