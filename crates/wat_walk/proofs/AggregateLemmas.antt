-- The aggregates of an expression, by its kind.
use Rattle.std.proofs.Common.{◌≡◌, ◌||◌, Bool, true, false, ℕ, ◌≤◌, drop, length, List, [], ◌∷◌, ◌++◌, map, Option, Some, None, refl, ap, sym, ◌∙◌, append-nil, append_assoc, Bor}
use Rattle.std.specs.List.{flat_map, list_any}
use Rattle.std.proofs.lemmas.List.{at_drop_all}
use Rattle.wat_value.specs.declared.value.Value.{Value}
use Rattle.wat_ast.specs.declared.expression.UnaryOp.{UnaryOp}
use Rattle.wat_ast.specs.declared.expression.BinaryOp.{BinaryOp}
use Rattle.wat_ast.specs.declared.expression.AggregateKind.{AggregateKind}
use Rattle.wat_ast.specs.declared.expression.Expr.{Expr}
use Rattle.wat_ast.specs.declared.expression.Expr.TheVariants as e
use Rattle.wat_walk.specs.declared.spine.Operation.{Operation}
use Rattle.wat_walk.specs.Chain.{chain, operated}
use Rattle.wat_walk.specs.Lent.{lent}
use Rattle.wat_walk.specs.Parts.{is_aggregated, aggregated_step, arguments_in, arguments_step}
use Rattle.wat_walk.proofs.FoldLemmas.{fold-Literal, fold-Named, fold-Placed, fold-Unary, fold-Binary, fold-IsNull, fold-Between, fold-InList, fold-Count, fold-Aggregate, para-Literal, para-Named, para-Placed, para-Unary, para-Binary, para-IsNull, para-Between, para-InList, para-Count, para-Aggregate}

pub or-false : (b : Bool) → (b || false) ≡ b
or-false true = refl
or-false false = refl

pub or_assoc : (a b c : Bool) → ((a || b) || c) ≡ (a || (b || c))
or_assoc true b c = refl
or_assoc false b c = refl

pub or-true : (b : Bool) → (b || true) ≡ true
or-true true = refl
or-true false = refl

-- ---- whether there is one

pub aggregated-Literal : (v : Value) → is_aggregated (e.Literal v) ≡ false
unfolding is_aggregated
aggregated-Literal v = fold-Literal aggregated_step v

pub aggregated-Named : (table : Option (List ℕ)) (name : List ℕ) → is_aggregated (e.Named table name) ≡ false
unfolding is_aggregated
aggregated-Named table name = fold-Named aggregated_step table name

pub aggregated-Placed : (source column : ℕ) → is_aggregated (e.Placed source column) ≡ false
unfolding is_aggregated
aggregated-Placed source column = fold-Placed aggregated_step source column

pub aggregated-Unary : (op : UnaryOp) (a : Expr) → is_aggregated (e.Unary op a) ≡ is_aggregated a
unfolding is_aggregated
aggregated-Unary op a = fold-Unary aggregated_step op a ∙ or-false (is_aggregated a)

pub aggregated-Binary : (op : BinaryOp) (a b : Expr) → is_aggregated (e.Binary op a b) ≡ (is_aggregated a || is_aggregated b)
unfolding is_aggregated
aggregated-Binary op a b = fold-Binary aggregated_step op a b ∙ ap (λ rest. is_aggregated a || rest) (or-false (is_aggregated b))

pub aggregated-IsNull : (a : Expr) (negated : Bool) → is_aggregated (e.IsNull a negated) ≡ is_aggregated a
unfolding is_aggregated
aggregated-IsNull a negated = fold-IsNull aggregated_step a negated ∙ or-false (is_aggregated a)

pub aggregated-Between : (a low high : Expr) (negated : Bool) → is_aggregated (e.Between a low high negated) ≡ (is_aggregated a || (is_aggregated low || is_aggregated high))
unfolding is_aggregated
aggregated-Between a low high negated = fold-Between aggregated_step a low high negated ∙ ap (λ rest. is_aggregated a || (is_aggregated low || rest)) (or-false (is_aggregated high))

list-any : {X : Type 0} (f : X → Bool) (xs : List X) → list_any (λ y. y) (map f xs) ≡ list_any f xs
list-any f [] = refl
list-any f (x ∷ xs) = ap (λ rest. f x || rest) (list-any f xs)

pub aggregated-InList : (a : Expr) (items : List Expr) (negated : Bool) → is_aggregated (e.InList a items negated) ≡ (is_aggregated a || list_any is_aggregated items)
unfolding is_aggregated
aggregated-InList a items negated = fold-InList aggregated_step a items negated ∙ ap (λ rest. is_aggregated a || rest) (list-any is_aggregated items)

pub aggregated-Aggregate : (kind : AggregateKind) (arg : Option Expr) → is_aggregated (e.Aggregate kind arg) ≡ true
unfolding is_aggregated
aggregated-Aggregate kind None = fold-Count aggregated_step kind
aggregated-Aggregate kind (Some a) = fold-Aggregate aggregated_step kind a

-- ---- the arguments

pub arguments-Literal : (v : Value) → arguments_in (e.Literal v) ≡ []
unfolding arguments_in
arguments-Literal v = para-Literal arguments_step v

pub arguments-Named : (table : Option (List ℕ)) (name : List ℕ) → arguments_in (e.Named table name) ≡ []
unfolding arguments_in
arguments-Named table name = para-Named arguments_step table name

pub arguments-Placed : (source column : ℕ) → arguments_in (e.Placed source column) ≡ []
unfolding arguments_in
arguments-Placed source column = para-Placed arguments_step source column

pub arguments-Unary : (op : UnaryOp) (a : Expr) → arguments_in (e.Unary op a) ≡ arguments_in a
unfolding arguments_in
arguments-Unary op a = para-Unary arguments_step op a ∙ append-nil (arguments_in a)

pub arguments-Binary : (op : BinaryOp) (a b : Expr) → arguments_in (e.Binary op a b) ≡ arguments_in a ++ arguments_in b
unfolding arguments_in
arguments-Binary op a b = para-Binary arguments_step op a b ∙ ap (λ rest. arguments_in a ++ rest) (append-nil (arguments_in b))

pub arguments-IsNull : (a : Expr) (negated : Bool) → arguments_in (e.IsNull a negated) ≡ arguments_in a
unfolding arguments_in
arguments-IsNull a negated = para-IsNull arguments_step a negated ∙ append-nil (arguments_in a)

pub arguments-Between : (a low high : Expr) (negated : Bool) → arguments_in (e.Between a low high negated) ≡ arguments_in a ++ (arguments_in low ++ arguments_in high)
unfolding arguments_in
arguments-Between a low high negated = para-Between arguments_step a low high negated ∙ ap (λ rest. arguments_in a ++ (arguments_in low ++ rest)) (append-nil (arguments_in high))

flat-map : {X : Type 0} (f : X → List X) (xs : List X) → flat_map (λ (y : X × List X). y.1) (map (λ x. (x, f x)) xs) ≡ flat_map f xs
flat-map f [] = refl
flat-map f (x ∷ xs) = ap (λ rest. f x ++ rest) (flat-map f xs)

pub arguments-InList : (a : Expr) (items : List Expr) (negated : Bool) → arguments_in (e.InList a items negated) ≡ arguments_in a ++ flat_map arguments_in items
unfolding arguments_in
arguments-InList a items negated = para-InList arguments_step a items negated ∙ ap (λ rest. arguments_in a ++ rest) (flat-map arguments_in items)

pub arguments-Count : (kind : AggregateKind) → arguments_in (e.Aggregate kind None) ≡ []
unfolding arguments_in
arguments-Count kind = para-Count arguments_step kind

pub arguments-Aggregate : (kind : AggregateKind) (a : Expr) → arguments_in (e.Aggregate kind (Some a)) ≡ a ∷ []
unfolding arguments_in
arguments-Aggregate kind a = para-Aggregate arguments_step kind a

-- ---- chains

abbrev pub right_aggregated : Operation → Bool
right_aggregated o = is_aggregated o.right.now

abbrev pub right_arguments : Operation → List Expr
right_arguments o = arguments_in o.right.now

pub aggregated_chain : (first : Expr) (operations : List Operation) → is_aggregated (chain first operations) ≡ (is_aggregated first || list_any right_aggregated operations)
aggregated_chain first [] = sym (or-false (is_aggregated first))
aggregated_chain first (o ∷ rest) =
    aggregated_chain (operated first o) rest ∙ (ap (λ b. b || list_any right_aggregated rest) (aggregated-Binary o.op first o.right.now)
    ∙ or_assoc (is_aggregated first) (is_aggregated o.right.now) (list_any right_aggregated rest))

pub arguments_chain : (first : Expr) (operations : List Operation) → arguments_in (chain first operations) ≡ arguments_in first ++ flat_map right_arguments operations
arguments_chain first [] = sym (append-nil (arguments_in first))
arguments_chain first (o ∷ rest) =
    arguments_chain (operated first o) rest ∙ (ap (λ xs. xs ++ flat_map right_arguments rest) (arguments-Binary o.op first o.right.now)
    ∙ append_assoc (arguments_in first) (arguments_in o.right.now) (flat_map right_arguments rest))

-- the end of a walk along a chain
pub chain_found : (first whole : Expr) (operations items : List Operation) (before middle after : Bool) (i : ℕ)
    → chain first operations ≡ whole → items ≡ operations → length items ≤ i → middle ≡ (before || is_aggregated first)
    → (after || list_any right_aggregated (drop i items)) ≡ (middle || list_any right_aggregated items) → after ≡ (before || is_aggregated whole)
chain_found first whole operations items before middle after i whole-is same past middle-is kept =
    sym (or-false after) ∙ (sym (at_drop_all (λ rest. after || list_any right_aggregated rest) items i past) ∙ (kept
    ∙ (ap (λ (os : List Operation). middle || list_any right_aggregated os) same ∙ (ap (λ b. b || list_any right_aggregated operations) middle-is
    ∙ (or_assoc before (is_aggregated first) (list_any right_aggregated operations)
    ∙ ap (λ b. before || b) (sym (aggregated_chain first operations) ∙ ap is_aggregated whole-is))))))

pub chain_arguments : (first whole : Expr) (operations items : List Operation) (before middle after : List Expr) (i : ℕ)
    → chain first operations ≡ whole → items ≡ operations → length items ≤ i → middle ≡ before ++ arguments_in first
    → after ++ flat_map right_arguments (drop i items) ≡ middle ++ flat_map right_arguments items → after ≡ before ++ arguments_in whole
chain_arguments first whole operations items before middle after i whole-is same past middle-is kept =
    sym (append-nil after) ∙ (sym (at_drop_all (λ rest. after ++ flat_map right_arguments rest) items i past) ∙ (kept
    ∙ (ap (λ (os : List Operation). middle ++ flat_map right_arguments os) same ∙ (ap (λ xs. xs ++ flat_map right_arguments operations) middle-is
    ∙ (append_assoc before (arguments_in first) (flat_map right_arguments operations)
    ∙ ap (λ xs. before ++ xs) (sym (arguments_chain first operations) ∙ ap arguments_in whole-is))))))

pub lent_push : (xs : List (Bor Expr)) (x : Bor Expr) → lent (xs ++ x ∷ []) ≡ lent xs ++ x.now ∷ []
lent_push [] x = refl
lent_push (y ∷ ys) x = ap (λ rest. y.now ∷ rest) (lent_push ys x)

pub ruleset kinds = (or_assoc, or-true, append_assoc, append-nil, lent_push, aggregated-Literal, aggregated-Named, aggregated-Placed, aggregated-Unary, aggregated-IsNull, aggregated-Between, aggregated-InList, aggregated-Aggregate, arguments-Literal, arguments-Named, arguments-Placed, arguments-Unary, arguments-IsNull, arguments-Between, arguments-InList, arguments-Count, arguments-Aggregate)

pub ruleset chains = (or_assoc, append_assoc)
