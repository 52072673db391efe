-- The columns outside aggregates, by the kind of the expression.
use Rattle.std.proofs.Common.{◌≡◌, ℕ, ◌≤◌, Bool, length, take, List, [], ◌∷◌, ◌++◌, map, Option, refl, ap, sym, ◌∙◌}
use Rattle.std.specs.List.{flat_map}
use Rattle.std.proofs.lemmas.List.{append-nil, append_assoc, take_all}
use Rattle.wat_value.specs.declared.value.Value.{Value}
use Rattle.wat_ast.specs.declared.expression.UnaryOp.{UnaryOp}
use Rattle.wat_ast.specs.declared.expression.BinaryOp.{BinaryOp}
use Rattle.wat_ast.specs.declared.expression.AggregateKind.{AggregateKind}
use Rattle.wat_ast.specs.declared.expression.Expr.{Expr}
use Rattle.wat_ast.specs.declared.expression.Expr.TheVariants as e
use Rattle.wat_ast.specs.declared.expression.Expr.TheOpen.{Expr-F}
use Rattle.wat_ast.specs.declared.expression.Expr.TheVariants.{rolls-Aggregate}
use Rattle.wat_ast.specs.declared.expression.Expr.TheFolds.{fold-Expr, fold-roll-Expr}
use Rattle.wat_walk.specs.declared.spine.Operation.{Operation}
use Rattle.wat_walk.specs.Chain.{chain, operated}
use Rattle.wat_walk.specs.Parts.{Spot, bare_in, bare_step}
use Rattle.wat_walk.proofs.FoldLemmas.{fold-Literal, fold-Named, fold-Placed, fold-Unary, fold-Binary, fold-IsNull, fold-Between, fold-InList}

pub bare-Literal : (v : Value) → bare_in (e.Literal v) ≡ []
unfolding bare_in
bare-Literal v = fold-Literal bare_step v

pub bare-Named : (table : Option (List ℕ)) (name : List ℕ) → bare_in (e.Named table name) ≡ []
unfolding bare_in
bare-Named table name = fold-Named bare_step table name

pub bare-Placed : (source column : ℕ) → bare_in (e.Placed source column) ≡ (source, column) ∷ []
unfolding bare_in
bare-Placed source column = fold-Placed bare_step source column

pub bare-Unary : (op : UnaryOp) (a : Expr) → bare_in (e.Unary op a) ≡ bare_in a
unfolding bare_in
bare-Unary op a = fold-Unary bare_step op a ∙ append-nil (bare_in a)

pub bare-Binary : (op : BinaryOp) (a b : Expr) → bare_in (e.Binary op a b) ≡ bare_in a ++ bare_in b
unfolding bare_in
bare-Binary op a b = fold-Binary bare_step op a b ∙ ap (λ rest. bare_in a ++ rest) (append-nil (bare_in b))

pub bare-IsNull : (a : Expr) (negated : Bool) → bare_in (e.IsNull a negated) ≡ bare_in a
unfolding bare_in
bare-IsNull a negated = fold-IsNull bare_step a negated ∙ append-nil (bare_in a)

pub bare-Between : (a low high : Expr) (negated : Bool) → bare_in (e.Between a low high negated) ≡ (bare_in a ++ bare_in low) ++ bare_in high
unfolding bare_in
bare-Between a low high negated =
    fold-Between bare_step a low high negated
    ∙ (ap (λ rest. bare_in a ++ (bare_in low ++ rest)) (append-nil (bare_in high)) ∙ sym (append_assoc (bare_in a) (bare_in low) (bare_in high)))

flat-map : {X A : Type 0} (f : X → List A) (xs : List X) → flat_map (λ y. y) (map f xs) ≡ flat_map f xs
flat-map f [] = refl
flat-map f (x ∷ xs) = ap (λ rest. f x ++ rest) (flat-map f xs)

pub bare-InList : (a : Expr) (items : List Expr) (negated : Bool) → bare_in (e.InList a items negated) ≡ bare_in a ++ flat_map bare_in items
unfolding bare_in
bare-InList a items negated = fold-InList bare_step a items negated ∙ ap (λ rest. bare_in a ++ rest) (flat-map bare_in items)

pub bare-Aggregate : (kind : AggregateKind) (arg : Option Expr) → bare_in (e.Aggregate kind arg) ≡ []
unfolding bare_in
bare-Aggregate kind arg = ap (fold-Expr (List Spot) bare_step) (sym (rolls-Aggregate kind arg)) ∙ fold-roll-Expr (List Spot) bare_step (Expr-F.Aggregate kind arg)

pub ruleset bare = (bare-Literal, bare-Named, bare-Placed, bare-Unary, bare-IsNull, bare-Between, bare-InList, bare-Aggregate, append_assoc, append-nil)

bare-chain : (head : Expr) (operations : List Operation) → bare_in (chain head operations) ≡ bare_in head ++ flat_map (λ (o : Operation). bare_in o.right.now) operations
bare-chain head [] = sym (append-nil (bare_in head))
bare-chain head (o ∷ rest) =
    bare-chain (operated head o) rest
    ∙ (ap (λ front. front ++ flat_map (λ (o : Operation). bare_in o.right.now) rest) (bare-Binary o.op head o.right.now)
    ∙ append_assoc (bare_in head) (bare_in o.right.now) (flat_map (λ (o : Operation). bare_in o.right.now) rest))

-- the columns of a chain behind others: those of its first operand, and then of the right operands
bare_of_chain : (head whole : Expr) (operations : List Operation) (old between : List Spot) → chain head operations ≡ whole → between ≡ old ++ bare_in head
    → between ++ flat_map (λ (o : Operation). bare_in o.right.now) operations ≡ old ++ bare_in whole
bare_of_chain head whole operations old between is first =
    ap (λ front. front ++ flat_map (λ (o : Operation). bare_in o.right.now) operations) first
    ∙ (append_assoc old (bare_in head) (flat_map (λ (o : Operation). bare_in o.right.now) operations)
    ∙ ap (λ rest. old ++ rest) (sym (bare-chain head operations) ∙ ap bare_in is))

-- the same where all right operands are passed
pub bare_done : (head whole : Expr) (operations items : List Operation) (i : ℕ) (old between spots : List Spot) → chain head operations ≡ whole → items ≡ operations → length items ≤ i
    → between ≡ old ++ bare_in head → spots ≡ between ++ flat_map (λ (o : Operation). bare_in o.right.now) (take i items) → spots ≡ old ++ bare_in whole
bare_done head whole operations items i old between spots is same past first last =
    last ∙ (ap (λ (os : List Operation). between ++ flat_map (λ (o : Operation). bare_in o.right.now) os) (take_all i items past ∙ same) ∙ bare_of_chain head whole operations old between is first)
