-- Expressions whose columns are in their places: no column of them is refused, and they stay as they are.
use Rattle.std.proofs.Common.{◌≡◌, ℕ, Bool, List, [], ◌∷◌, ◌++◌, map, Option, Some, None, refl, ap, ap₂, sym, subst, ◌∙◌}
use Rattle.std.specs.List.{flat_map}
use Rattle.std.specs.Option.{option_or}
use Rattle.std.proofs.lemmas.List.{append-nil}
use Rattle.wat_ast.specs.declared.expression.Expr.{Expr, ind-Expr, map-Expr, roll-Expr}
use Rattle.wat_ast.specs.declared.expression.Expr.TheVariants as e
use Rattle.wat_ast.specs.declared.expression.Expr.TheOpen.{Expr-F}
use Rattle.wat_walk.specs.Parts.{Written, written_in, written_step}
use Rattle.wat_walk.proofs.FoldLemmas.{fold-Literal, fold-Named, fold-Placed, fold-Unary, fold-Binary, fold-IsNull, fold-Between, fold-InList, fold-Count, fold-Aggregate}
use Rattle.wat_schema.specs.Catalog.{Catalog}
use Rattle.wat_scope.specs.declared.scope.Found.{Found}
use Rattle.wat_scope.specs.declared.scope.Found.TheVariants.{Nowhere, At, Several}
use Rattle.wat_scope.specs.Scope.{Scope, found}
use Rattle.wat_names.specs.Refusals.{first}
use Rattle.wat_names.specs.Columns.{qualifier_refusals, refused_as, column_refusals, in_expression, in_expressions}
use Rattle.wat_names.specs.Places.{at_place, place_of, placed}
use Rattle.wat_names.proofs.ColumnLemmas.{first-Named, first-Unary, first-Binary, first-IsNull, first-Between, first-InList, first-Aggregate}
use Rattle.wat_names.proofs.Firsts.{first-append}
use Rattle.wat_names.proofs.PlaceLemmas.{placed-Literal, placed-Named, placed-Placed, placed-Unary, placed-Binary, placed-IsNull, placed-Between, placed-InList, placed-Count, placed-Aggregate}

pub or_none : {A : Type 0} (a b : Option A) → option_or a b ≡ None → (a ≡ None) × (b ≡ None)
or_none None b is = (refl, is)
or_none (Some x) b is = cc

pub none_first : {X : Type 0} (xs : List X) → first xs ≡ None → xs ≡ []
none_first [] is = refl
none_first (x ∷ xs) is = cc

both_none : {X : Type 0} (xs ys : List X) → xs ++ ys ≡ [] → (xs ≡ []) × (ys ≡ [])
both_none [] ys is = (refl, is)
both_none (x ∷ xs) ys is = cc

-- no column is written by name
abbrev pub IsSettled : Expr → Type 0
IsSettled x = written_in x ≡ []

-- ---- what the parts of an expression write

settled-Unary : (op : _) (a : Expr) → IsSettled a → IsSettled (e.Unary op a)
unfolding written_in
settled-Unary op a is = fold-Unary written_step op a ∙ ap (λ ws. ws ++ []) is

settled-Binary : (op : _) (a b : Expr) → IsSettled a → IsSettled b → IsSettled (e.Binary op a b)
unfolding written_in
settled-Binary op a b is also = fold-Binary written_step op a b ∙ ap₂ (λ ws vs. ws ++ (vs ++ [])) is also

settled-IsNull : (a : Expr) (negated : Bool) → IsSettled a → IsSettled (e.IsNull a negated)
unfolding written_in
settled-IsNull a negated is = fold-IsNull written_step a negated ∙ ap (λ ws. ws ++ []) is

settled-Between : (a low high : Expr) (negated : Bool) → IsSettled a → IsSettled low → IsSettled high → IsSettled (e.Between a low high negated)
unfolding written_in
settled-Between a low high negated is lower upper =
    fold-Between written_step a low high negated ∙ (ap₂ (λ ws vs. ws ++ (vs ++ (written_in high ++ []))) is lower ∙ ap (λ ws. ws ++ []) upper)

settled-InList : (a : Expr) (items : List Expr) (negated : Bool) → IsSettled a → flat_map (λ ws. ws) (map written_in items) ≡ [] → IsSettled (e.InList a items negated)
unfolding written_in
settled-InList a items negated is all = fold-InList written_step a items negated ∙ ap₂ (λ ws vs. ws ++ vs) is all

settled-Aggregate : (kind : _) (a : Expr) → IsSettled a → IsSettled (e.Aggregate kind (Some a))
unfolding written_in
settled-Aggregate kind a is = fold-Aggregate written_step kind a ∙ ap (λ ws. ws ++ []) is

settled-Literal : (v : _) → IsSettled (e.Literal v)
unfolding written_in
settled-Literal v = fold-Literal written_step v

settled-Placed : (source column : ℕ) → IsSettled (e.Placed source column)
unfolding written_in
settled-Placed source column = fold-Placed written_step source column

settled-Count : (kind : _) → IsSettled (e.Aggregate kind None)
unfolding written_in
settled-Count kind = fold-Count written_step kind

alone : (ws : List Written) → ws ++ [] ≡ [] → ws ≡ []
alone ws is = sym (append-nil ws) ∙ is

part-Unary : (op : _) (a : Expr) → IsSettled (e.Unary op a) → IsSettled a
unfolding written_in
part-Unary op a is = alone (written_in a) (sym (fold-Unary written_step op a) ∙ is)

parts-Binary : (op : _) (a b : Expr) → IsSettled (e.Binary op a b) → IsSettled a × IsSettled b
unfolding written_in
parts-Binary op a b is =
    let p = both_none (written_in a) (written_in b ++ []) (sym (fold-Binary written_step op a b) ∙ is) in
    (p.0, alone (written_in b) p.1)

part-IsNull : (a : Expr) (negated : Bool) → IsSettled (e.IsNull a negated) → IsSettled a
unfolding written_in
part-IsNull a negated is = alone (written_in a) (sym (fold-IsNull written_step a negated) ∙ is)

parts-Between : (a low high : Expr) (negated : Bool) → IsSettled (e.Between a low high negated) → IsSettled a × IsSettled low × IsSettled high
unfolding written_in
parts-Between a low high negated is =
    let p = both_none (written_in a) (written_in low ++ (written_in high ++ [])) (sym (fold-Between written_step a low high negated) ∙ is) in
    let q = both_none (written_in low) (written_in high ++ []) p.1 in
    (p.0, q.0, alone (written_in high) q.1)

parts-InList : (a : Expr) (items : List Expr) (negated : Bool) → IsSettled (e.InList a items negated) → IsSettled a × (flat_map (λ ws. ws) (map written_in items) ≡ [])
unfolding written_in
parts-InList a items negated is = both_none (written_in a) (flat_map (λ ws. ws) (map written_in items)) (sym (fold-InList written_step a items negated) ∙ is)

part-Aggregate : (kind : _) (a : Expr) → IsSettled (e.Aggregate kind (Some a)) → IsSettled a
unfolding written_in
part-Aggregate kind a is = alone (written_in a) (sym (fold-Aggregate written_step kind a) ∙ is)

named : (table : Option (List ℕ)) (name : List ℕ) → written_in (e.Named table name) ≡ (table, name) ∷ []
unfolding written_in
named table name = fold-Named written_step table name

module _ (c : Catalog) (scope : Scope) where
  -- ---- columns that are found are settled

  abbrev Found-are-settled : Expr → Type 0
  Found-are-settled x = first (in_expression c scope x) ≡ None → IsSettled (placed c scope x)

  column : (table : Option (List ℕ)) (name : List ℕ) → first (column_refusals c scope (table, name)) ≡ None → IsSettled (place_of c scope (table, name))
  unfolding column_refusals place_of
  column table name none =
      at (found c scope (table, name)) (or_none (first (qualifier_refusals scope table)) (first (refused_as name (found c scope (table, name)))) (sym (first-append (qualifier_refusals scope table) (refused_as name (found c scope (table, name)))) ∙ none)).1
    where
      at : (f : Found) → first (refused_as name f) ≡ None → IsSettled (at_place (table, name) f)
      at Nowhere none = cc
      at (At source column) none = settled-Placed source column
      at Several none = cc

  settled_items : {S : Type 0} (ex : S → Expr) (pr : (y : S) → Found-are-settled (ex y)) (ys : List S) → first (in_expressions c scope (map ex ys)) ≡ None
      → flat_map (λ ws. ws) (map written_in (map (placed c scope) (map ex ys))) ≡ []
  settled_items ex pr [] none = refl
  settled_items ex pr (y ∷ ys) none =
      let p = or_none (first (in_expression c scope (ex y))) (first (in_expressions c scope (map ex ys))) (sym (first-append (in_expression c scope (ex y)) (in_expressions c scope (map ex ys))) ∙ none) in
      ap₂ (λ ws vs. ws ++ vs) (pr y p.0) (settled_items ex pr ys p.1)

  -- through an equation of the placed expression
  through : (x y : Expr) → placed c scope x ≡ y → IsSettled y → IsSettled (placed c scope x)
  through x y is settled = ap written_in is ∙ settled

  step : {S : Type 0} (ex : S → Expr) (pr : (y : S) → Found-are-settled (ex y)) (y : Expr-F S) → Found-are-settled (roll-Expr (map-Expr S Expr ex y))
  step ex pr (Expr-F.Literal w) = subst Found-are-settled (sym (e.rolls-Literal w)) (λ none. through (e.Literal w) (e.Literal w) (placed-Literal c scope w) (settled-Literal w))
  step ex pr (Expr-F.Named table n) = subst Found-are-settled (sym (e.rolls-Named table n))
      (λ none. through (e.Named table n) (place_of c scope (table, n)) (placed-Named c scope table n) (column table n (sym (first-Named c scope table n) ∙ none)))
  step ex pr (Expr-F.Placed source column) = subst Found-are-settled (sym (e.rolls-Placed source column))
      (λ none. through (e.Placed source column) (e.Placed source column) (placed-Placed c scope source column) (settled-Placed source column))
  step ex pr (Expr-F.Unary op a) = subst Found-are-settled (sym (e.rolls-Unary op (ex a)))
      (λ none. through (e.Unary op (ex a)) _ (placed-Unary c scope op (ex a)) (settled-Unary op (placed c scope (ex a)) (pr a (sym (first-Unary c scope op (ex a)) ∙ none))))
  step ex pr (Expr-F.Binary op a b) = subst Found-are-settled (sym (e.rolls-Binary op (ex a) (ex b)))
      (λ none.
      let p = or_none (first (in_expression c scope (ex a))) (first (in_expression c scope (ex b))) (sym (first-Binary c scope op (ex a) (ex b)) ∙ none) in
      through (e.Binary op (ex a) (ex b)) _ (placed-Binary c scope op (ex a) (ex b)) (settled-Binary op (placed c scope (ex a)) (placed c scope (ex b)) (pr a p.0) (pr b p.1)))
  step ex pr (Expr-F.IsNull a n) = subst Found-are-settled (sym (e.rolls-IsNull (ex a) n))
      (λ none. through (e.IsNull (ex a) n) _ (placed-IsNull c scope (ex a) n) (settled-IsNull (placed c scope (ex a)) n (pr a (sym (first-IsNull c scope (ex a) n) ∙ none))))
  step ex pr (Expr-F.Between a l h n) = subst Found-are-settled (sym (e.rolls-Between (ex a) (ex l) (ex h) n))
      (λ none.
      let p = or_none (first (in_expression c scope (ex a))) (option_or (first (in_expression c scope (ex l))) (first (in_expression c scope (ex h)))) (sym (first-Between c scope (ex a) (ex l) (ex h) n) ∙ none) in
      let q = or_none (first (in_expression c scope (ex l))) (first (in_expression c scope (ex h))) p.1 in
      through (e.Between (ex a) (ex l) (ex h) n) _ (placed-Between c scope (ex a) (ex l) (ex h) n)
      (settled-Between (placed c scope (ex a)) (placed c scope (ex l)) (placed c scope (ex h)) n (pr a p.0) (pr l q.0) (pr h q.1)))
  step ex pr (Expr-F.InList a xs n) = subst Found-are-settled (sym (e.rolls-InList (ex a) (map ex xs) n))
      (λ none.
      let p = or_none (first (in_expression c scope (ex a))) (first (in_expressions c scope (map ex xs))) (sym (first-InList c scope (ex a) (map ex xs) n) ∙ none) in
      through (e.InList (ex a) (map ex xs) n) _ (placed-InList c scope (ex a) (map ex xs) n)
      (settled-InList (placed c scope (ex a)) (map (placed c scope) (map ex xs)) n (pr a p.0) (settled_items ex pr xs p.1)))
  step ex pr (Expr-F.Aggregate kind None) = subst Found-are-settled (sym (e.rolls-Aggregate kind None))
      (λ none. through (e.Aggregate kind None) (e.Aggregate kind None) (placed-Count c scope kind) (settled-Count kind))
  step ex pr (Expr-F.Aggregate kind (Some a)) = subst Found-are-settled (sym (e.rolls-Aggregate kind (Some (ex a))))
      (λ none. through (e.Aggregate kind (Some (ex a))) _ (placed-Aggregate c scope kind (ex a)) (settled-Aggregate kind (placed c scope (ex a)) (pr a (sym (first-Aggregate c scope kind (ex a)) ∙ none))))

  found_settled : (x : Expr) → Found-are-settled x
  found_settled = ind-Expr Found-are-settled (λ x y q. subst (λ (z : Expr-F Expr). Found-are-settled (roll-Expr z)) q (step (λ z. z.0) (λ z. z.1) y))

  -- ---- what is settled stays

  abbrev Stays : Expr → Type 0
  Stays x = IsSettled x → placed c scope x ≡ x

  items_stay : {S : Type 0} (ex : S → Expr) (pr : (y : S) → Stays (ex y)) (ys : List S) → flat_map (λ ws. ws) (map written_in (map ex ys)) ≡ [] → map (placed c scope) (map ex ys) ≡ map ex ys
  items_stay ex pr [] none = refl
  items_stay ex pr (y ∷ ys) none =
      let p = both_none (written_in (ex y)) (flat_map (λ ws. ws) (map written_in (map ex ys))) none in
      ap₂ (λ (x : Expr) (xs : List Expr). x ∷ xs) (pr y p.0) (items_stay ex pr ys p.1)

  stay : {S : Type 0} (ex : S → Expr) (pr : (y : S) → Stays (ex y)) (y : Expr-F S) → Stays (roll-Expr (map-Expr S Expr ex y))
  stay ex pr (Expr-F.Literal w) = subst Stays (sym (e.rolls-Literal w)) (λ is. placed-Literal c scope w)
  stay ex pr (Expr-F.Named table n) = subst Stays (sym (e.rolls-Named table n)) (λ is. absurd (let no : (table, n) ∷ [] ≡ [] = sym (named table n) ∙ is in cc))
  stay ex pr (Expr-F.Placed source column) = subst Stays (sym (e.rolls-Placed source column)) (λ is. placed-Placed c scope source column)
  stay ex pr (Expr-F.Unary op a) = subst Stays (sym (e.rolls-Unary op (ex a))) (λ is. placed-Unary c scope op (ex a) ∙ ap (e.Unary op) (pr a (part-Unary op (ex a) is)))
  stay ex pr (Expr-F.Binary op a b) = subst Stays (sym (e.rolls-Binary op (ex a) (ex b)))
      (λ is. let p = parts-Binary op (ex a) (ex b) is in placed-Binary c scope op (ex a) (ex b) ∙ ap₂ (e.Binary op) (pr a p.0) (pr b p.1))
  stay ex pr (Expr-F.IsNull a n) = subst Stays (sym (e.rolls-IsNull (ex a) n)) (λ is. placed-IsNull c scope (ex a) n ∙ ap (λ x. e.IsNull x n) (pr a (part-IsNull (ex a) n is)))
  stay ex pr (Expr-F.Between a l h n) = subst Stays (sym (e.rolls-Between (ex a) (ex l) (ex h) n))
      (λ is.
      let p = parts-Between (ex a) (ex l) (ex h) n is in
      placed-Between c scope (ex a) (ex l) (ex h) n
      ∙ (ap₂ (λ x y. e.Between x y (placed c scope (ex h)) n) (pr a p.0) (pr l p.1) ∙ ap (λ y. e.Between (ex a) (ex l) y n) (pr h p.2)))
  stay ex pr (Expr-F.InList a xs n) = subst Stays (sym (e.rolls-InList (ex a) (map ex xs) n))
      (λ is. let p = parts-InList (ex a) (map ex xs) n is in placed-InList c scope (ex a) (map ex xs) n ∙ ap₂ (λ x ys. e.InList x ys n) (pr a p.0) (items_stay ex pr xs p.1))
  stay ex pr (Expr-F.Aggregate kind None) = subst Stays (sym (e.rolls-Aggregate kind None)) (λ is. placed-Count c scope kind)
  stay ex pr (Expr-F.Aggregate kind (Some a)) = subst Stays (sym (e.rolls-Aggregate kind (Some (ex a))))
      (λ is. placed-Aggregate c scope kind (ex a) ∙ ap (λ x. e.Aggregate kind (Some x)) (pr a (part-Aggregate kind (ex a) is)))

  settled_stays : (x : Expr) → Stays x
  settled_stays = ind-Expr Stays (λ x y q. subst (λ (z : Expr-F Expr). Stays (roll-Expr z)) q (stay (λ z. z.0) (λ z. z.1) y))

  -- ---- placed once, and again

  pub placed_again : (x : Expr) → first (in_expression c scope x) ≡ None → placed c scope (placed c scope x) ≡ placed c scope x
  placed_again x none = settled_stays (placed c scope x) (found_settled x none)

  pub passes_again : (x : Expr) → first (in_expression c scope x) ≡ None → in_expression c scope (placed c scope x) ≡ []
  unfolding in_expression
  passes_again x none = ap (flat_map (column_refusals c scope)) (found_settled x none)

  -- of a list, no one is refused
  each_passes : (x : Expr) (xs : List Expr) → first (in_expressions c scope (x ∷ xs)) ≡ None → (first (in_expression c scope x) ≡ None) × (first (in_expressions c scope xs) ≡ None)
  each_passes x xs none = or_none (first (in_expression c scope x)) (first (in_expressions c scope xs)) (sym (first-append (in_expression c scope x) (in_expressions c scope xs)) ∙ none)

  pub list_again : (xs : List Expr) → first (in_expressions c scope xs) ≡ None → map (placed c scope) (map (placed c scope) xs) ≡ map (placed c scope) xs
  list_again [] none = refl
  list_again (x ∷ xs) none =
      let p = each_passes x xs none in
      ap₂ (λ (y : Expr) (ys : List Expr). y ∷ ys) (placed_again x p.0) (list_again xs p.1)

  pub list_passes : (xs : List Expr) → first (in_expressions c scope xs) ≡ None → in_expressions c scope (map (placed c scope) xs) ≡ []
  list_passes [] none = refl
  list_passes (x ∷ xs) none =
      let p = each_passes x xs none in
      ap₂ (λ a b. a ++ b) (passes_again x p.0) (list_passes xs p.1)
