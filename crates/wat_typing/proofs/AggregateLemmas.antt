-- An aggregate stands in an expression where its typing says so.
use Rattle.std.proofs.Common.{◌≡◌, ◌||◌, false, List, [], ◌∷◌, map, Some, None, refl, ap, ap₂, sym, subst, ◌∙◌}
use Rattle.std.specs.List.{list_any}
use Rattle.wat_ast.specs.declared.expression.Expr.{Expr, ind-Expr, map-Expr, roll-Expr}
use Rattle.wat_ast.specs.declared.expression.Expr.TheVariants as e
use Rattle.wat_ast.specs.declared.expression.Expr.TheOpen.{Expr-F}
use Rattle.wat_walk.specs.Parts.{is_aggregated, aggregated_step}
use Rattle.wat_walk.proofs.FoldLemmas.{fold-Literal, fold-Named, fold-Placed, fold-Unary, fold-Binary, fold-IsNull, fold-Between, fold-InList, fold-Count, fold-Aggregate}
use Rattle.wat_types.specs.declared.typing.Typing.{Typing}
use Rattle.wat_types.specs.Types.{ColumnTypes, any_aggregated, typing_of}
use Rattle.wat_types.proofs.TypeLemmas.{typing-Literal, typing-Named, typing-Placed, typing-Unary, typing-Binary, typing-IsNull, typing-Between, typing-InList, typing-Count, typing-Aggregate}

module _ (columns : ColumnTypes) where
  abbrev Alike : Expr → Type 0
  Alike x = (typing_of columns x).aggregated ≡ is_aggregated x

  by_typing : (x : Expr) (typing : Typing) → typing_of columns x ≡ typing → (typing_of columns x).aggregated ≡ typing.aggregated
  by_typing x typing is = ap (λ (t : Typing). t.aggregated) is

  items_alike : {S : Type 0} (ex : S → Expr) (pr : (y : S) → Alike (ex y)) (ys : List S)
      → any_aggregated (map (typing_of columns) (map ex ys)) ≡ list_any (λ x. x) (map is_aggregated (map ex ys))
  items_alike ex pr [] = refl
  items_alike ex pr (y ∷ ys) = ap₂ (λ a b. a || b) (pr y) (items_alike ex pr ys)

  step : {S : Type 0} (ex : S → Expr) (pr : (y : S) → Alike (ex y)) (y : Expr-F S) → Alike (roll-Expr (map-Expr S Expr ex y))
  unfolding is_aggregated
  step ex pr (Expr-F.Literal w) = subst Alike (sym (e.rolls-Literal w)) (by_typing (e.Literal w) _ (typing-Literal columns w) ∙ sym (fold-Literal aggregated_step w))
  step ex pr (Expr-F.Named table n) = subst Alike (sym (e.rolls-Named table n)) (by_typing (e.Named table n) _ (typing-Named columns table n) ∙ sym (fold-Named aggregated_step table n))
  step ex pr (Expr-F.Placed source column) =
      subst Alike (sym (e.rolls-Placed source column)) (by_typing (e.Placed source column) _ (typing-Placed columns source column) ∙ sym (fold-Placed aggregated_step source column))
  step ex pr (Expr-F.Unary op a) = subst Alike (sym (e.rolls-Unary op (ex a)))
      (by_typing (e.Unary op (ex a)) _ (typing-Unary columns op (ex a)) ∙ (ap (λ b. b || false) (pr a) ∙ sym (fold-Unary aggregated_step op (ex a))))
  step ex pr (Expr-F.Binary op a b) = subst Alike (sym (e.rolls-Binary op (ex a) (ex b)))
      (by_typing (e.Binary op (ex a) (ex b)) _ (typing-Binary columns op (ex a) (ex b)) ∙ (ap₂ (λ p q. p || (q || false)) (pr a) (pr b) ∙ sym (fold-Binary aggregated_step op (ex a) (ex b))))
  step ex pr (Expr-F.IsNull a n) = subst Alike (sym (e.rolls-IsNull (ex a) n))
      (by_typing (e.IsNull (ex a) n) _ (typing-IsNull columns (ex a) n) ∙ (ap (λ b. b || false) (pr a) ∙ sym (fold-IsNull aggregated_step (ex a) n)))
  step ex pr (Expr-F.Between a l h n) = subst Alike (sym (e.rolls-Between (ex a) (ex l) (ex h) n))
      (by_typing (e.Between (ex a) (ex l) (ex h) n) _ (typing-Between columns (ex a) (ex l) (ex h) n)
      ∙ (ap₂ (λ p q. p || q) (pr a) (ap₂ (λ p q. p || (q || false)) (pr l) (pr h)) ∙ sym (fold-Between aggregated_step (ex a) (ex l) (ex h) n)))
  step ex pr (Expr-F.InList a xs n) = subst Alike (sym (e.rolls-InList (ex a) (map ex xs) n))
      (by_typing (e.InList (ex a) (map ex xs) n) _ (typing-InList columns (ex a) (map ex xs) n)
      ∙ (ap₂ (λ p q. p || q) (pr a) (items_alike ex pr xs) ∙ sym (fold-InList aggregated_step (ex a) (map ex xs) n)))
  step ex pr (Expr-F.Aggregate kind None) = subst Alike (sym (e.rolls-Aggregate kind None)) (by_typing (e.Aggregate kind None) _ (typing-Count columns kind) ∙ sym (fold-Count aggregated_step kind))
  step ex pr (Expr-F.Aggregate kind (Some a)) = subst Alike (sym (e.rolls-Aggregate kind (Some (ex a))))
      (by_typing (e.Aggregate kind (Some (ex a))) _ (typing-Aggregate columns kind (ex a)) ∙ sym (fold-Aggregate aggregated_step kind (ex a)))

  alike : (x : Expr) → Alike x
  alike = ind-Expr Alike (λ x y q. subst (λ (z : Expr-F Expr). Alike (roll-Expr z)) q (step (λ z. z.0) (λ z. z.1) y))

  pub all_alike : (xs : List Expr) → any_aggregated (map (typing_of columns) xs) ≡ list_any is_aggregated xs
  all_alike [] = refl
  all_alike (x ∷ xs) = ap₂ (λ a b. a || b) (alike x) (all_alike xs)
