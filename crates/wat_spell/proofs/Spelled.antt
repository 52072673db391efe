-- What spells an expression, by its outermost part.
use Rattle.std.proofs.Common.{◌≡◌, ℕ, Bool, List, [], ◌∷◌, ◌++◌, map, Option, None, Some, option_map, refl, sym, ◌∙◌, ap}
use Rattle.std.specs.List.{flat_map}
use Rattle.wat_word.specs.declared.keyword.Keyword.TheVariants as w
use Rattle.wat_spell.specs.declared.symbol.Symbol.TheVariants as s
use Rattle.wat_spell.specs.Tokens.{Token, word, symbol}
use Rattle.wat_value.specs.declared.value.Value.{Value}
use Rattle.wat_ast.specs.declared.expression.UnaryOp.{UnaryOp}
use Rattle.wat_ast.specs.declared.expression.BinaryOp.{BinaryOp}
use Rattle.wat_ast.specs.declared.expression.AggregateKind.{AggregateKind}
use Rattle.wat_ast.specs.declared.expression.Expr.{Expr, roll-Expr, map-Expr, fold-roll-Expr}
use Rattle.wat_ast.specs.declared.expression.Expr.TheVariants as e
use Rattle.wat_ast.specs.declared.expression.Expr.TheOpen.{Expr-F}
use Rattle.wat_spell.specs.Spelling.{Spelling, spelled, spelled_at, aggregate_of, comma, with_commas, expression, placed, tokens_if, argument, argument_tokens, aggregate_word}

of_layer : (layer : Expr-F Expr) (x : Expr) → roll-Expr layer ≡ x → spelled x ≡ spelled_at (map-Expr Expr Spelling spelled layer)
unfolding spelled
of_layer layer x r = ap spelled (sym r) ∙ fold-roll-Expr Spelling spelled_at layer

pub spelled_literal : (v : Value) → spelled (e.Literal v) ≡ spelled_at (Expr-F.Literal v)
spelled_literal v = of_layer (Expr-F.Literal v) (e.Literal v) (e.rolls-Literal v)

pub spelled_named : (table : Option (List ℕ)) (name : List ℕ) → spelled (e.Named table name) ≡ spelled_at (Expr-F.Named table name)
spelled_named table name = of_layer (Expr-F.Named table name) (e.Named table name) (e.rolls-Named table name)

pub spelled_placed : (source column : ℕ) → spelled (e.Placed source column) ≡ spelled_at (Expr-F.Placed source column)
spelled_placed source column = of_layer (Expr-F.Placed source column) (e.Placed source column) (e.rolls-Placed source column)

pub spelled_unary : (op : UnaryOp) (a : Expr) → spelled (e.Unary op a) ≡ spelled_at (Expr-F.Unary op (spelled a))
spelled_unary op a = of_layer (Expr-F.Unary op a) (e.Unary op a) (e.rolls-Unary op a)

pub spelled_binary : (op : BinaryOp) (l r : Expr) → spelled (e.Binary op l r) ≡ spelled_at (Expr-F.Binary op (spelled l) (spelled r))
spelled_binary op l r = of_layer (Expr-F.Binary op l r) (e.Binary op l r) (e.rolls-Binary op l r)

pub spelled_is_null : (a : Expr) (negated : Bool) → spelled (e.IsNull a negated) ≡ spelled_at (Expr-F.IsNull (spelled a) negated)
spelled_is_null a negated = of_layer (Expr-F.IsNull a negated) (e.IsNull a negated) (e.rolls-IsNull a negated)

pub spelled_between : (a low high : Expr) (negated : Bool) → spelled (e.Between a low high negated) ≡ spelled_at (Expr-F.Between (spelled a) (spelled low) (spelled high) negated)
spelled_between a low high negated = of_layer (Expr-F.Between a low high negated) (e.Between a low high negated) (e.rolls-Between a low high negated)

pub spelled_in_list : (a : Expr) (items : List Expr) (negated : Bool) → spelled (e.InList a items negated) ≡ spelled_at (Expr-F.InList (spelled a) (map spelled items) negated)
spelled_in_list a items negated = of_layer (Expr-F.InList a items negated) (e.InList a items negated) (e.rolls-InList a items negated)

option_layer : (x : Option Expr) (kind : AggregateKind) → spelled_at (map-Expr Expr Spelling spelled (Expr-F.Aggregate kind x)) ≡ aggregate_of kind (option_map spelled x)
option_layer None kind = refl
option_layer (Some x) kind = refl

pub spelled_aggregate : (kind : AggregateKind) (arg : Option Expr) → spelled (e.Aggregate kind arg) ≡ aggregate_of kind (option_map spelled arg)
spelled_aggregate kind arg = of_layer (Expr-F.Aggregate kind arg) (e.Aggregate kind arg) (e.rolls-Aggregate kind arg) ∙ option_layer arg kind

more_listed : (xs : List Expr) → flat_map (λ y. comma ∷ y.tokens) (map spelled xs) ≡ flat_map (λ y. comma ∷ expression y) xs
more_listed [] = refl
more_listed (x ∷ xs) = ap (λ (ts : List Token). (comma ∷ expression x) ++ ts) (more_listed xs)

pub listed_spelled : (xs : List Expr) → with_commas (λ y. y.tokens) (map spelled xs) ≡ with_commas expression xs
listed_spelled [] = refl
listed_spelled (x ∷ xs) = ap (λ (ts : List Token). expression x ++ ts) (more_listed xs)

pub expression_in_list : (a : Expr) (items : List Expr) (negated : Bool) → expression (e.InList a items negated)
    ≡ (placed 4 (spelled a)).tokens ++ (tokens_if negated (word w.Not ∷ []) ++ word w.In ∷ symbol s.Open ∷ (with_commas expression items ++ symbol s.Close ∷ []))
expression_in_list a items negated =
    ap (λ (x : Spelling). x.tokens) (spelled_in_list a items negated)
    ∙ ap (λ (ts : List Token). (placed 4 (spelled a)).tokens ++ (tokens_if negated (word w.Not ∷ []) ++ word w.In ∷ symbol s.Open ∷ (ts ++ symbol s.Close ∷ []))) (listed_spelled items)

argument_is : (arg : Option Expr) → (argument (option_map spelled arg)).tokens ≡ argument_tokens arg
argument_is None = refl
argument_is (Some x) = refl

pub expression_aggregate : (kind : AggregateKind) (arg : Option Expr) → expression (e.Aggregate kind arg) ≡ word (aggregate_word kind) ∷ symbol s.OpenTight ∷ (argument_tokens arg ++ symbol s.Close ∷ [])
expression_aggregate kind arg =
    ap (λ (x : Spelling). x.tokens) (spelled_aggregate kind arg)
    ∙ ap (λ (ts : List Token). word (aggregate_word kind) ∷ symbol s.OpenTight ∷ (ts ++ symbol s.Close ∷ [])) (argument_is arg)

pub ruleset spelled_rules = (spelled_literal, spelled_named, spelled_placed, spelled_unary, spelled_binary, spelled_is_null, spelled_between, spelled_in_list, spelled_aggregate)

pub ruleset expression_rules = (spelled_literal, spelled_named, spelled_placed, spelled_unary, spelled_is_null, spelled_between, expression_in_list, expression_aggregate)
