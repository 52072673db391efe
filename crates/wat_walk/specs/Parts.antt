-- What stands within an expression.
use Rattle.std.specs.Prelude.{ℕ, Bool, true, List, [], ◌∷◌, map, Option, Some, None}
use Rattle.std.specs.List.{flat_map, list_any}
use Rattle.wat_ast.specs.declared.expression.Expr.{Expr}
use Rattle.wat_ast.specs.declared.expression.Expr.TheOpen.{Expr-F}
use Rattle.wat_ast.specs.declared.expression.Expr.TheFolds.{fold-Expr, para-Expr}
use Rattle.wat_ast.specs.declared.expression.Expr.TheViews.{roll-Expr}

-- the parts of an expression, in text order
abbrev pub parts : {A : Type 0} → Expr-F A → List A
parts (Expr-F.Literal value) = []
parts (Expr-F.Named table name) = []
parts (Expr-F.Placed source column) = []
parts (Expr-F.Unary op a) = a ∷ []
parts (Expr-F.Binary op a b) = a ∷ b ∷ []
parts (Expr-F.IsNull a negated) = a ∷ []
parts (Expr-F.Between a low high negated) = a ∷ low ∷ high ∷ []
parts (Expr-F.InList a items negated) = a ∷ items
parts (Expr-F.Aggregate kind None) = []
parts (Expr-F.Aggregate kind (Some a)) = a ∷ []

-- a column as it is written: its qualifier, if there is one, and its name
abbrev pub Written : Type 0
Written = Option (List ℕ) × List ℕ

abbrev pub written_step : Expr-F (List Written) → List Written
written_step (Expr-F.Named table name) = (table, name) ∷ []
written_step e = flat_map (λ x. x) (parts e)

-- the columns that an expression names, in text order
unfoldable pub written_in : Expr → List Written
written_in = fold-Expr (List Written) written_step

-- a column that the checks found: its source and its number
abbrev pub Spot : Type 0
Spot = ℕ × ℕ

abbrev pub bare_step : Expr-F (List Spot) → List Spot
bare_step (Expr-F.Placed source column) = (source, column) ∷ []
bare_step (Expr-F.Aggregate kind arg) = []
bare_step e = flat_map (λ x. x) (parts e)

-- the columns outside aggregates
unfoldable pub bare_in : Expr → List Spot
bare_in = fold-Expr (List Spot) bare_step

-- the sources that an expression names outside aggregates
abbrev pub sources_in : Expr → List ℕ
sources_in e = map (λ spot. spot.0) (bare_in e)

abbrev pub aggregated_step : Expr-F Bool → Bool
aggregated_step (Expr-F.Aggregate kind arg) = true
aggregated_step e = list_any (λ x. x) (parts e)

-- whether an aggregate stands in the expression
unfoldable pub is_aggregated : Expr → Bool
is_aggregated = fold-Expr Bool aggregated_step

abbrev pub arguments_step : Expr-F (Expr × List Expr) → List Expr
arguments_step (Expr-F.Aggregate kind (Some arg)) = arg.0 ∷ []
arguments_step e = flat_map (λ x. x.1) (parts e)

-- the arguments of the aggregates
unfoldable pub arguments_in : Expr → List Expr
arguments_in = para-Expr (List Expr) arguments_step

abbrev pub places_step : (Written → Expr) → Expr-F Expr → Expr
places_step place (Expr-F.Named table name) = place (table, name)
places_step place e = roll-Expr e

-- the expression with what `place` gives for each column that it names
unfoldable pub with_places : (Written → Expr) → Expr → Expr
with_places place = fold-Expr Expr (places_step place)
