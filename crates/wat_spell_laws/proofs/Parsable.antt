-- Whether a text may give an expression, by its outermost part; and that the tokens which spell such an expression may stand in a text.
use Rattle.std.proofs.Common.{◌≡◌, ℕ, pos, negsuc, Bool, true, false, ◌&&◌, nat_lt, if◌then◌else◌, List, [], ◌∷◌, ◌++◌, map, Option, Some, None, refl, sym, ◌∙◌, ap, subst}
use Rattle.std.specs.List.{list_all, flat_map}
use Rattle.std.proofs.lemmas.Bool.{and_parts}
use Rattle.wat_word.specs.Words.{is_name}
use Rattle.wat_word.specs.declared.keyword.Keyword.TheVariants as w
use Rattle.wat_value.specs.declared.value.Value.{Value}
use Rattle.wat_value.specs.declared.value.Value.TheVariants as value
use Rattle.wat_ast.specs.declared.expression.AggregateKind.{AggregateKind}
use Rattle.wat_ast.specs.declared.expression.AggregateKind.TheVariants as aggregate
use Rattle.wat_ast.specs.declared.expression.UnaryOp.{UnaryOp}
use Rattle.wat_ast.specs.declared.expression.UnaryOp.TheVariants as unary
use Rattle.wat_ast.specs.declared.expression.BinaryOp.{BinaryOp}
use Rattle.wat_ast.specs.declared.expression.BinaryOp.TheVariants as binary
use Rattle.wat_ast.specs.declared.expression.Expr.{Expr, ind-Expr, map-Expr, roll-Expr, fold-roll-Expr}
use Rattle.wat_ast.specs.declared.expression.Expr.TheVariants as e
use Rattle.wat_ast.specs.declared.expression.Expr.TheOpen.{Expr-F}
use Rattle.wat_spell.specs.declared.symbol.Symbol.TheVariants as s
use Rattle.wat_spell.specs.Tokens.{Token, word, symbol}
use Rattle.wat_spell.specs.Spelling.{Spelling, spelled, spelled_at, placed, enclosed, comma, with_commas, tokens_if, operator_token, left_rank, right_rank, expression}
use Rattle.wat_spell_laws.specs.Derived.{is_parsable, is_parsable_at, is_parsable_value, is_parsable_table, is_parsable_aggregate, all_of}
use Rattle.wat_spell_laws.specs.Read.{can_stand}

of_layer : (layer : Expr-F Expr) (x : Expr) → roll-Expr layer ≡ x → is_parsable x ≡ is_parsable_at (map-Expr Expr Bool is_parsable layer)
unfolding is_parsable
of_layer layer x r = ap is_parsable (sym r) ∙ fold-roll-Expr Bool is_parsable_at layer

pub parsable_literal : (v : Value) → is_parsable (e.Literal v) ≡ is_parsable_value v
parsable_literal v = of_layer (Expr-F.Literal v) (e.Literal v) (e.rolls-Literal v)

pub parsable_named : (table : Option (List ℕ)) (n : List ℕ) → is_parsable (e.Named table n) ≡ (is_parsable_table table && is_name n)
parsable_named table n = of_layer (Expr-F.Named table n) (e.Named table n) (e.rolls-Named table n)

pub parsable_unary : (op : UnaryOp) (a : Expr) → is_parsable (e.Unary op a) ≡ is_parsable a
parsable_unary op a = of_layer (Expr-F.Unary op a) (e.Unary op a) (e.rolls-Unary op a)

pub parsable_binary : (op : BinaryOp) (l r : Expr) → is_parsable (e.Binary op l r) ≡ (is_parsable l && is_parsable r)
parsable_binary op l r = of_layer (Expr-F.Binary op l r) (e.Binary op l r) (e.rolls-Binary op l r)

pub parsable_is_null : (a : Expr) (negated : Bool) → is_parsable (e.IsNull a negated) ≡ is_parsable a
parsable_is_null a negated = of_layer (Expr-F.IsNull a negated) (e.IsNull a negated) (e.rolls-IsNull a negated)

pub parsable_between : (a low high : Expr) (negated : Bool) → is_parsable (e.Between a low high negated) ≡ (is_parsable a && (is_parsable low && is_parsable high))
parsable_between a low high negated = of_layer (Expr-F.Between a low high negated) (e.Between a low high negated) (e.rolls-Between a low high negated)

pub parsable_in_list : (a : Expr) (items : List Expr) (negated : Bool) → is_parsable (e.InList a items negated) ≡ (is_parsable a && all_of (map is_parsable items))
parsable_in_list a items negated = of_layer (Expr-F.InList a items negated) (e.InList a items negated) (e.rolls-InList a items negated)

pub parsable_count : is_parsable (e.Aggregate aggregate.Count None) ≡ true
parsable_count = of_layer (Expr-F.Aggregate aggregate.Count None) (e.Aggregate aggregate.Count None) (e.rolls-Aggregate aggregate.Count None)

some_fits : (kind : AggregateKind) (b : Bool) → is_parsable_aggregate kind (Some b) ≡ b
some_fits aggregate.Count b = refl
some_fits aggregate.Sum b = refl
some_fits aggregate.Min b = refl
some_fits aggregate.Max b = refl

pub parsable_aggregate_of : (kind : AggregateKind) (a : Expr) → is_parsable (e.Aggregate kind (Some a)) ≡ is_parsable a
parsable_aggregate_of kind a = of_layer (Expr-F.Aggregate kind (Some a)) (e.Aggregate kind (Some a)) (e.rolls-Aggregate kind (Some a)) ∙ some_fits kind (is_parsable a)

-- ---- tokens that may stand in a text

abbrev pub Stands : List Token → Type 0
Stands ts = list_all can_stand ts ≡ true

pub stands_append : (ts us : List Token) → Stands ts → Stands us → Stands (ts ++ us)
stands_append [] us h g = g
stands_append (t ∷ ts) us h g =
    let both = and_parts (can_stand t) (list_all can_stand ts) h in
    ap (λ b. b && list_all can_stand (ts ++ us)) both.0 ∙ stands_append ts us both.1 g

stands_placed : (place : ℕ) (y : Spelling) → Stands y.tokens → Stands (placed place y).tokens
stands_placed place y h = decide (nat_lt y.rank place)
  where
    decide : (b : Bool) → Stands (if b then enclosed y else y).tokens
    decide true = stands_append y.tokens (symbol s.Close ∷ []) h refl
    decide false = h

stands_operator : (op : BinaryOp) (ts : List Token) → Stands ts → Stands (operator_token op ∷ ts)
stands_operator binary.Or ts h = h
stands_operator binary.And ts h = h
stands_operator binary.Equal ts h = h
stands_operator binary.Unequal ts h = h
stands_operator binary.Less ts h = h
stands_operator binary.AtMost ts h = h
stands_operator binary.Greater ts h = h
stands_operator binary.AtLeast ts h = h
stands_operator binary.Add ts h = h
stands_operator binary.Subtract ts h = h
stands_operator binary.Concat ts h = h
stands_operator binary.Multiply ts h = h
stands_operator binary.Divide ts h = h

stands_if : (b : Bool) (ts us : List Token) → Stands ts → Stands us → Stands (tokens_if b ts ++ us)
stands_if true ts us h g = stands_append ts us h g
stands_if false ts us h g = g

stands_literal : (v : Value) → is_parsable_value v ≡ true → Stands (spelled_at (Expr-F.Literal v)).tokens
stands_literal value.Null f = refl
stands_literal (value.Int (pos n)) f = ap (λ b. b && true) f
stands_literal (value.Int (negsuc n)) f = let z : false ≡ true = f in cc
stands_literal (value.Text t) f = refl

stands_column : (table : Option (List ℕ)) (n : List ℕ) → (is_parsable_table table && is_name n) ≡ true → Stands (spelled_at (Expr-F.Named table n)).tokens
stands_column None n f = ap (λ b. b && true) f
stands_column (Some table) n f =
    let both = and_parts (is_name table) (is_name n) f in
    ap (λ b. b && (is_name n && true)) both.0 ∙ ap (λ b. b && true) both.1

stands_unary : (op : UnaryOp) (y : Spelling) → Stands y.tokens → Stands (spelled_at (Expr-F.Unary op y)).tokens
stands_unary unary.Not y h = stands_placed 2 y h
stands_unary unary.Minus y h = stands_placed 6 y h

-- each of the spellings stands
abbrev AllStand : List Spelling → Type 0
AllStand [] = Unit {0}
AllStand (y ∷ ys) = Stands y.tokens × AllStand ys

stands_more : (ys : List Spelling) → AllStand ys → Stands (flat_map (λ y. comma ∷ y.tokens) ys)
stands_more [] h = refl
stands_more (y ∷ ys) h = stands_append (comma ∷ y.tokens) (flat_map (λ z. comma ∷ z.tokens) ys) h.0 (stands_more ys h.1)

stands_listed : (ys : List Spelling) → AllStand ys → Stands (with_commas (λ y. y.tokens) ys)
stands_listed [] h = refl
stands_listed (y ∷ ys) h = stands_append y.tokens (flat_map (λ z. comma ∷ z.tokens) ys) h.0 (stands_more ys h.1)

-- ---- every expression

abbrev Claim : Expr → Type 0
Claim x = is_parsable x ≡ true → Stands (spelled x).tokens

carry : (layer : Expr-F Expr) (x : Expr) → roll-Expr layer ≡ x
    → (is_parsable_at (map-Expr Expr Bool is_parsable layer) ≡ true → Stands (spelled_at (map-Expr Expr Spelling spelled layer)).tokens) → Claim (roll-Expr layer)
unfolding spelled is_parsable
carry layer x r h f =
    let f' : is_parsable (roll-Expr layer) ≡ is_parsable_at (map-Expr Expr Bool is_parsable layer) = fold-roll-Expr Bool is_parsable_at layer in
    let s' : spelled (roll-Expr layer) ≡ spelled_at (map-Expr Expr Spelling spelled layer) = fold-roll-Expr Spelling spelled_at layer in
    subst (λ (y : Spelling). Stands y.tokens) (sym s') (h (sym f' ∙ f))

all_stand : {S : Type 0} (ex : S → Expr) (pr : (y : S) → Claim (ex y)) (xs : List S) → all_of (map is_parsable (map ex xs)) ≡ true → AllStand (map spelled (map ex xs))
all_stand ex pr [] f = tt
all_stand ex pr (x ∷ []) f = (pr x f, tt)
all_stand ex pr (x ∷ y ∷ more) f = let both = and_parts (is_parsable (ex x)) _ f in (pr x both.0, all_stand ex pr (y ∷ more) both.1)

step : {S : Type 0} (ex : S → Expr) (pr : (y : S) → Claim (ex y)) (y : Expr-F S) → Claim (roll-Expr (map-Expr S Expr ex y))
step ex pr (Expr-F.Literal v) = carry (Expr-F.Literal v) (e.Literal v) (e.rolls-Literal v) (stands_literal v)
step ex pr (Expr-F.Named table n) = carry (Expr-F.Named table n) (e.Named table n) (e.rolls-Named table n) (stands_column table n)
step ex pr (Expr-F.Placed source column) = carry (Expr-F.Placed source column) (e.Placed source column) (e.rolls-Placed source column) (λ f. let z : false ≡ true = f in cc)
step ex pr (Expr-F.Unary op a) = carry (Expr-F.Unary op (ex a)) (e.Unary op (ex a)) (e.rolls-Unary op (ex a)) (λ f. stands_unary op (spelled (ex a)) (pr a f))
step ex pr (Expr-F.Binary op l r) = carry (Expr-F.Binary op (ex l) (ex r)) (e.Binary op (ex l) (ex r)) (e.rolls-Binary op (ex l) (ex r))
    (λ f. let both = and_parts (is_parsable (ex l)) _ f in
    stands_append (placed (left_rank op) (spelled (ex l))).tokens _ (stands_placed (left_rank op) (spelled (ex l)) (pr l both.0))
    (stands_operator op (placed (right_rank op) (spelled (ex r))).tokens (stands_placed (right_rank op) (spelled (ex r)) (pr r both.1))))
step ex pr (Expr-F.IsNull a n) = carry (Expr-F.IsNull (ex a) n) (e.IsNull (ex a) n) (e.rolls-IsNull (ex a) n)
    (λ f. stands_append (placed 4 (spelled (ex a))).tokens _ (stands_placed 4 (spelled (ex a)) (pr a f)) (stands_if n (word w.Not ∷ []) (word w.Null ∷ []) refl refl))
step ex pr (Expr-F.Between a l h n) = carry (Expr-F.Between (ex a) (ex l) (ex h) n) (e.Between (ex a) (ex l) (ex h) n) (e.rolls-Between (ex a) (ex l) (ex h) n)
    (λ f. let all = and_parts (is_parsable (ex a)) _ f in let both = and_parts (is_parsable (ex l)) _ all.1 in
    stands_append (placed 4 (spelled (ex a))).tokens _ (stands_placed 4 (spelled (ex a)) (pr a all.0))
    (stands_if n (word w.Not ∷ []) _ refl (stands_append (placed 4 (spelled (ex l))).tokens _ (stands_placed 4 (spelled (ex l)) (pr l both.0)) (stands_placed 4 (spelled (ex h)) (pr h both.1)))))
step ex pr (Expr-F.InList a xs n) = carry (Expr-F.InList (ex a) (map ex xs) n) (e.InList (ex a) (map ex xs) n) (e.rolls-InList (ex a) (map ex xs) n)
    (λ f. let both = and_parts (is_parsable (ex a)) _ f in
    stands_append (placed 4 (spelled (ex a))).tokens _ (stands_placed 4 (spelled (ex a)) (pr a both.0))
    (stands_if n (word w.Not ∷ []) _ refl (stands_append (with_commas (λ y. y.tokens) (map spelled (map ex xs))) (symbol s.Close ∷ []) (stands_listed (map spelled (map ex xs)) (all_stand ex pr xs both.1)) refl)))
step ex pr (Expr-F.Aggregate kind None) = carry (Expr-F.Aggregate kind None) (e.Aggregate kind None) (e.rolls-Aggregate kind None) (λ f. refl)
step ex pr (Expr-F.Aggregate kind (Some a)) = carry (Expr-F.Aggregate kind (Some (ex a))) (e.Aggregate kind (Some (ex a))) (e.rolls-Aggregate kind (Some (ex a)))
    (λ f. stands_append (spelled (ex a)).tokens (symbol s.Close ∷ []) (pr a (sym (some_fits kind (is_parsable (ex a))) ∙ f)) refl)

pub parsable_stands : (x : Expr) → is_parsable x ≡ true → Stands (expression x)
parsable_stands = ind-Expr (λ x. is_parsable x ≡ true → Stands (spelled x).tokens) (λ x y q. subst (λ (z : Expr-F Expr). Claim (roll-Expr z)) q (step (λ z. z.0) (λ z. z.1) y))
