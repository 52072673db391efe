-- The outcome of each kind of expression.
use Rattle.std.proofs.Common.{take, ◌≡◌, ℕ, Bool, List, map, Option, Some, None, [], ◌∷◌, refl, ap, sym, ◌∙◌, ◌≤◌, length}
use Rattle.std.specs.List.{fold}
use Rattle.std.proofs.lemmas.List.{take_all}
use Rattle.wat_value.specs.declared.value.Value.{Value}
use Rattle.wat_ast.specs.declared.expression.UnaryOp.{UnaryOp}
use Rattle.wat_ast.specs.declared.expression.BinaryOp.{BinaryOp}
use Rattle.wat_ast.specs.declared.expression.AggregateKind.{AggregateKind}
use Rattle.wat_ast.specs.declared.expression.Expr.{Expr}
use Rattle.wat_ast.specs.declared.expression.Expr.TheVariants as e
use Rattle.wat_ast.specs.declared.expression.Expr.TheVariants.{rolls-Literal, rolls-Named, rolls-Placed, rolls-Unary, rolls-Binary, rolls-IsNull, rolls-Between, rolls-InList, rolls-Aggregate}
use Rattle.wat_ast.specs.declared.expression.Expr.TheOpen.{Expr-F}
use Rattle.wat_ast.specs.declared.expression.Expr.TheViews.{roll-Expr}
use Rattle.wat_ast.specs.declared.expression.Expr.TheFolds.{fold-roll-Expr}
use Rattle.wat_walk.specs.declared.spine.Operation.{Operation}
use Rattle.wat_walk.specs.Chain.{chain, operated}
use Rattle.wat_expr.specs.declared.outcome.Outcome.{Outcome}
use Rattle.wat_expr.specs.declared.outcome.Outcome.TheVariants.{Is, Error}
use Rattle.wat_expr.specs.Logic.{negated_if, null_test}
use Rattle.wat_expr.specs.Operators.{unary, binary, between, among}
use Rattle.wat_expr.specs.Evaluation.{Over, outcome_of, outcome_step, value_at, aggregate_over}

rolled : (x : Expr-F Expr) (whole : Expr) → roll-Expr x ≡ whole → (at : Over) → outcome_of whole at ≡ outcome_of (roll-Expr x) at
rolled x whole is at = ap (λ w. outcome_of w at) (sym is)

pub outcome-Literal : (v : Value) (at : Over) → outcome_of (e.Literal v) at ≡ Is v
unfolding outcome_of
outcome-Literal v at = rolled _ _ (rolls-Literal v) at ∙ ap (λ f. f at) (fold-roll-Expr (Over → Outcome) outcome_step (Expr-F.Literal v))

pub outcome-Named : (table : Option (List ℕ)) (name : List ℕ) (at : Over) → outcome_of (e.Named table name) at ≡ Error
unfolding outcome_of
outcome-Named table name at = rolled _ _ (rolls-Named table name) at ∙ ap (λ f. f at) (fold-roll-Expr (Over → Outcome) outcome_step (Expr-F.Named table name))

pub outcome-Placed : (source column : ℕ) (at : Over) → outcome_of (e.Placed source column) at ≡ Is (value_at at.rows source column)
unfolding outcome_of
outcome-Placed source column at = rolled _ _ (rolls-Placed source column) at ∙ ap (λ f. f at) (fold-roll-Expr (Over → Outcome) outcome_step (Expr-F.Placed source column))

pub outcome-Unary : (op : UnaryOp) (a : Expr) (at : Over) → outcome_of (e.Unary op a) at ≡ unary op (outcome_of a at)
unfolding outcome_of
outcome-Unary op a at = rolled _ _ (rolls-Unary op a) at ∙ ap (λ f. f at) (fold-roll-Expr (Over → Outcome) outcome_step (Expr-F.Unary op a))

pub outcome-Binary : (op : BinaryOp) (a b : Expr) (at : Over) → outcome_of (e.Binary op a b) at ≡ binary op (outcome_of a at) (outcome_of b at)
unfolding outcome_of
outcome-Binary op a b at = rolled _ _ (rolls-Binary op a b) at ∙ ap (λ f. f at) (fold-roll-Expr (Over → Outcome) outcome_step (Expr-F.Binary op a b))

pub outcome-IsNull : (a : Expr) (negated : Bool) (at : Over) → outcome_of (e.IsNull a negated) at ≡ negated_if negated (null_test (outcome_of a at))
unfolding outcome_of
outcome-IsNull a negated at = rolled _ _ (rolls-IsNull a negated) at ∙ ap (λ f. f at) (fold-roll-Expr (Over → Outcome) outcome_step (Expr-F.IsNull a negated))

pub outcome-Between : (a low high : Expr) (negated : Bool) (at : Over) → outcome_of (e.Between a low high negated) at ≡ negated_if negated (between (outcome_of a at) (outcome_of low at) (outcome_of high at))
unfolding outcome_of
outcome-Between a low high negated at = rolled _ _ (rolls-Between a low high negated) at ∙ ap (λ f. f at) (fold-roll-Expr (Over → Outcome) outcome_step (Expr-F.Between a low high negated))

map-map : {A B C : Type 0} (f : A → B) (g : B → C) (xs : List A) → map g (map f xs) ≡ map (λ x. g (f x)) xs
map-map f g [] = refl
map-map f g (x ∷ xs) = ap (λ ys. g (f x) ∷ ys) (map-map f g xs)

pub outcome-InList : (a : Expr) (items : List Expr) (negated : Bool) (at : Over) → outcome_of (e.InList a items negated) at ≡ negated_if negated (among (outcome_of a at) (map (λ x. outcome_of x at) items))
unfolding outcome_of
outcome-InList a items negated at =
    rolled _ _ (rolls-InList a items negated) at ∙ ap (λ f. f at) (fold-roll-Expr (Over → Outcome) outcome_step (Expr-F.InList a items negated))
    ∙ ap (λ os. negated_if negated (among (outcome_of a at) os)) (map-map (λ x. outcome_of x) (λ f. f at) items)

pub outcome-Aggregate : (kind : AggregateKind) (arg : Option Expr) (rows : List (Option (List Value))) → outcome_of (e.Aggregate kind arg) (record { rows = rows; group = None }) ≡ Error
unfolding outcome_of
outcome-Aggregate kind arg rows = rolled _ _ (rolls-Aggregate kind arg) _ ∙ ap (λ f. f (record { rows = rows; group = None })) (fold-roll-Expr (Over → Outcome) outcome_step (Expr-F.Aggregate kind arg))

pub outcome-Count : (kind : AggregateKind) (at : Over) → outcome_of (e.Aggregate kind None) at ≡ aggregate_over kind None at.group
unfolding outcome_of
outcome-Count kind at = rolled _ _ (rolls-Aggregate kind None) at ∙ ap (λ f. f at) (fold-roll-Expr (Over → Outcome) outcome_step (Expr-F.Aggregate kind None))

pub outcome-Some : (kind : AggregateKind) (a : Expr) (at : Over) → outcome_of (e.Aggregate kind (Some a)) at ≡ aggregate_over kind (Some (outcome_of a)) at.group
unfolding outcome_of
outcome-Some kind a at = rolled _ _ (rolls-Aggregate kind (Some a)) at ∙ ap (λ f. f at) (fold-roll-Expr (Over → Outcome) outcome_step (Expr-F.Aggregate kind (Some a)))

pub ruleset outcomes = (outcome-Literal, outcome-Named, outcome-Placed, outcome-Unary, outcome-Binary, outcome-IsNull, outcome-Between, outcome-InList, outcome-Aggregate)

-- the same, with aggregates over a group
pub ruleset outcomes_over = (outcome-Literal, outcome-Named, outcome-Placed, outcome-Unary, outcome-Binary, outcome-IsNull, outcome-Between, outcome-InList, outcome-Count, outcome-Some)

-- one operation of a chain
abbrev pub operation_step : Over → Outcome → Operation → Outcome
operation_step at left operation = binary operation.op left (outcome_of operation.right.now at)

pub outcome_chain : (first : Expr) (operations : List Operation) (at : Over) → outcome_of (chain first operations) at ≡ fold (operation_step at) (outcome_of first at) operations
outcome_chain first [] at = refl
outcome_chain first (o ∷ rest) at = outcome_chain (operated first o) rest at ∙ ap (λ left. fold (operation_step at) left rest) (outcome-Binary o.op first o.right.now at)

-- the end of a chain
pub chain_done : (first whole : Expr) (operations items : List Operation) (at : Over) (o found : Outcome) (i : ℕ)
    → chain first operations ≡ whole → items ≡ operations → length items ≤ i → o ≡ outcome_of first at → found ≡ fold (operation_step at) o (take i items) → found ≡ outcome_of whole at
chain_done first whole operations items at o found i whole-is same past first-is f =
    f ∙ (ap (λ (os : List Operation). fold (operation_step at) o os) (take_all i items past ∙ same) ∙ (ap (λ (x : Outcome). fold (operation_step at) x operations) first-is
    ∙ (sym (outcome_chain first operations at) ∙ ap (λ (x : Expr). outcome_of x at) whole-is)))

-- an IN list whose parts are read from the expression
pub in_list_is : (arg arg-read whole : Expr) (items items-read : List Expr) (negated : Bool) (at : Over) (a found o : Outcome)
    → whole ≡ e.InList arg items negated → arg-read ≡ arg → items-read ≡ items → a ≡ outcome_of arg-read at → found ≡ among a (map (λ x. outcome_of x at) items-read) → o ≡ negated_if negated found → o ≡ outcome_of whole at
in_list_is arg arg-read whole items items-read negated at a found o whole-is arg-is items-is a-is found-is o-is =
    o-is ∙ (ap (negated_if negated) (found-is ∙ (ap (λ (x : Outcome). among x (map (λ y. outcome_of y at) items-read)) (a-is ∙ ap (λ (x : Expr). outcome_of x at) arg-is)
    ∙ ap (λ (xs : List Expr). among (outcome_of arg at) (map (λ y. outcome_of y at) xs)) items-is))
    ∙ (sym (outcome-InList arg items negated at) ∙ ap (λ (x : Expr). outcome_of x at) (sym whole-is)))
