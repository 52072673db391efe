-- What is found in sources that are joined.
use Rattle.std.proofs.Common.{◌≡◌, ℕ, ◌+◌, ◌<◌, ◌≤◌, length, get_or, List, [], ◌∷◌, ◌++◌, drop, refl, ap, sym, ◌∙◌}
use Rattle.std.proofs.lemmas.List.{drop_more, drop_all}
use Rattle.wat_walk.specs.Parts.{Written, Spot}
use Rattle.wat_schema.specs.Catalog.{Catalog}
use Rattle.wat_scope.specs.declared.scope.Visible.{Visible}
use Rattle.wat_scope.specs.declared.scope.Found.{Found}
use Rattle.wat_scope.specs.declared.scope.Found.TheVariants.{Nowhere, At, Several}
use Rattle.wat_scope.specs.Joining.{joined}
use Rattle.wat_scope.specs.Scope.{Scope, found_among, spots, spot_in, meant_column}
use Rattle.std.specs.List.{enumerate_from}

joined-Nowhere : (found : Found) → joined found Nowhere ≡ found
joined-Nowhere Nowhere = refl
joined-Nowhere (At source column) = refl
joined-Nowhere Several = refl

joined_assoc : (a b c : Found) → joined (joined a b) c ≡ joined a (joined b c)
joined_assoc Nowhere b c = refl
joined_assoc Several b c = refl
joined_assoc (At s k) Nowhere c = refl
joined_assoc (At s k) Several c = refl
joined_assoc (At s k) (At t l) Nowhere = refl
joined_assoc (At s k) (At t l) (At u m) = refl
joined_assoc (At s k) (At t l) Several = refl

more : (spot : Spot) (spots : List Spot) → found_among (spot ∷ spots) ≡ joined (At spot.0 spot.1) (found_among spots)
more spot [] = refl
more spot (x ∷ []) = refl
more spot (x ∷ y ∷ rest) = refl

found_among-append : (xs ys : List Spot) → found_among (xs ++ ys) ≡ joined (found_among xs) (found_among ys)
found_among-append [] ys = refl
found_among-append (x ∷ xs) ys =
    more x (xs ++ ys) ∙ (ap (joined (At x.0 x.1)) (found_among-append xs ys)
    ∙ (sym (joined_assoc (At x.0 x.1) (found_among xs) (found_among ys)) ∙ ap (λ f. joined f (found_among ys)) (sym (more x xs))))

-- one source more
pub found_next : (c : Catalog) (w : Written) (scope : Scope) (i : ℕ) (source : Visible) (met next whole : Found) → i < length scope → source ≡ get_or scope i source
    → next ≡ joined met (found_among (spot_in i (meant_column c w source)))
    → joined met (found_among (spots c w (enumerate_from i (drop i scope)))) ≡ whole → joined next (found_among (spots c w (enumerate_from (i + 1) (drop (i + 1) scope)))) ≡ whole
found_next c w scope i source met next whole within is step before =
    let rest = found_among (spots c w (enumerate_from (i + 1) (drop (i + 1) scope))) in
    let here = found_among (spot_in i (meant_column c w source)) in
    ap (λ (f : Found). joined f rest) step ∙ (joined_assoc met here rest
    ∙ (ap (joined met) (sym (found_among-append (spot_in i (meant_column c w source)) (spots c w (enumerate_from (i + 1) (drop (i + 1) scope)))))
    ∙ (ap (λ (s : Visible). joined met (found_among (spots c w (enumerate_from i (s ∷ drop (i + 1) scope))))) is
    ∙ (ap (λ (s : Scope). joined met (found_among (spots c w (enumerate_from i s)))) (sym (drop_more scope i source within)) ∙ before))))

-- no source is left
pub found_all : (c : Catalog) (w : Written) (scope : Scope) (i : ℕ) (met whole : Found) → length scope ≤ i → joined met (found_among (spots c w (enumerate_from i (drop i scope)))) ≡ whole → met ≡ whole
found_all c w scope i met whole past before =
    sym (joined-Nowhere met) ∙ (ap (λ (s : Scope). joined met (found_among (spots c w (enumerate_from i s)))) (sym (drop_all i scope past)) ∙ before)
