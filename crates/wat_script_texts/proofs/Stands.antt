-- The tokens that spell a readable statement may stand in a text.
use Rattle.std.proofs.Common.{◌≡◌, ℕ, ℤ, pos, negsuc, suc, Bool, true, false, ◌&&◌, nat_lt, nat_le, if◌then◌else◌, List, [], ◌∷◌, ◌++◌, map, Option, Some, None, refl, sym, ◌∙◌, ap, subst, arith}
use Rattle.std.specs.List.{list_all, flat_map}
use Rattle.std.proofs.lemmas.Bool.{and_parts}
use Rattle.std.proofs.lemmas.Bool.Decides.{nat_tests}
use Rattle.wat_word.specs.Words.{is_name}
use Rattle.wat_word.specs.declared.keyword.Keyword.{Keyword}
use Rattle.wat_word.specs.declared.keyword.Keyword.TheVariants as w
use Rattle.wat_value.specs.declared.value.Value.{Value}
use Rattle.wat_value.specs.declared.value.Value.TheVariants as value
use Rattle.wat_ast.specs.declared.expression.AggregateKind.{AggregateKind}
use Rattle.wat_ast.specs.declared.expression.AggregateKind.TheVariants as aggregate
use Rattle.wat_ast.specs.declared.expression.UnaryOp.{UnaryOp}
use Rattle.wat_ast.specs.declared.expression.UnaryOp.TheVariants as unary
use Rattle.wat_ast.specs.declared.expression.BinaryOp.{BinaryOp}
use Rattle.wat_ast.specs.declared.expression.BinaryOp.TheVariants as binary
use Rattle.wat_ast.specs.declared.expression.Expr.{Expr, ind-Expr, map-Expr, roll-Expr, fold-roll-Expr}
use Rattle.wat_ast.specs.declared.expression.Expr.TheVariants as e
use Rattle.wat_ast.specs.declared.expression.Expr.TheOpen.{Expr-F}
use Rattle.wat_ast.specs.declared.query.SelectItems.{SelectItems}
use Rattle.wat_ast.specs.declared.query.SelectItems.TheVariants as shown
use Rattle.wat_ast.specs.declared.query.Source.{Source}
use Rattle.wat_ast.specs.declared.query.OrderBy.{OrderBy}
use Rattle.wat_ast.specs.declared.query.OrderBy.TheVariants.{Column, Position}
use Rattle.wat_ast.specs.declared.query.OrderItem.{OrderItem}
use Rattle.wat_ast.specs.declared.query.Query.{Query}
use Rattle.wat_ast.specs.declared.statement.TypeName.{TypeName}
use Rattle.wat_ast.specs.declared.statement.TypeName.TheVariants as type_name
use Rattle.wat_ast.specs.declared.statement.Element.{Element}
use Rattle.wat_ast.specs.declared.statement.Element.TheVariants as element
use Rattle.wat_ast.specs.declared.statement.SetItem.{SetItem}
use Rattle.wat_ast.specs.declared.statement.InsertSource.{InsertSource}
use Rattle.wat_ast.specs.declared.statement.InsertSource.TheVariants as from
use Rattle.wat_ast.specs.declared.statement.Statement.{Statement}
use Rattle.wat_ast.specs.declared.statement.Statement.TheVariants as statement
use Rattle.wat_syntax.specs.Members.{has_members}
use Rattle.wat_syntax.specs.Sql.{max_nesting}
use Rattle.wat_spell.specs.declared.symbol.Symbol.TheVariants as s
use Rattle.wat_spell.specs.Tokens.{Token, word, name, symbol}
use Rattle.wat_spell.specs.Spelling.{Spelling, spelled, spelled_at, placed, enclosed, comma, with_commas, by, tokens_if, operator_token, left_rank, right_rank, expression}
use Rattle.wat_spell.specs.Statements as spec
use Rattle.wat_spell.specs.Statements.{statement_tokens, element_tokens, type_tokens, column_rules, in_parentheses, name_tokens}
use Rattle.wat_spell_laws.specs.AsRead.{as_read, as_read_at, literal_as_read}
use Rattle.wat_spell_laws.specs.Derived.{is_parsable, is_parsable_at, is_parsable_value, is_parsable_table, is_parsable_aggregate, all_of}
use Rattle.wat_spell_laws.specs.Read.{can_stand}
use Rattle.wat_spell_laws.specs.Readable.{is_readable_expression, are_all, is_so, is_count, is_column, is_column_at, are_readable_items, is_readable_source, is_readable_order, is_readable_order_item, is_readable_query, is_readable_type, is_readable_element, are_readable_rows, is_readable_set, is_readable}

of_layer : (layer : Expr-F Expr) (x : Expr) → roll-Expr layer ≡ x → is_parsable x ≡ is_parsable_at (map-Expr Expr Bool is_parsable layer)
unfolding is_parsable
of_layer layer x r = ap is_parsable (sym r) ∙ fold-roll-Expr Bool is_parsable_at layer

parsable_literal : (v : Value) → is_parsable (e.Literal v) ≡ is_parsable_value v
parsable_literal v = of_layer (Expr-F.Literal v) (e.Literal v) (e.rolls-Literal v)

parsable_named : (table : Option (List ℕ)) (n : List ℕ) → is_parsable (e.Named table n) ≡ (is_parsable_table table && is_name n)
parsable_named table n = of_layer (Expr-F.Named table n) (e.Named table n) (e.rolls-Named table n)

parsable_unary : (op : UnaryOp) (a : Expr) → is_parsable (e.Unary op a) ≡ is_parsable a
parsable_unary op a = of_layer (Expr-F.Unary op a) (e.Unary op a) (e.rolls-Unary op a)

parsable_binary : (op : BinaryOp) (l r : Expr) → is_parsable (e.Binary op l r) ≡ (is_parsable l && is_parsable r)
parsable_binary op l r = of_layer (Expr-F.Binary op l r) (e.Binary op l r) (e.rolls-Binary op l r)

parsable_is_null : (a : Expr) (negated : Bool) → is_parsable (e.IsNull a negated) ≡ is_parsable a
parsable_is_null a negated = of_layer (Expr-F.IsNull a negated) (e.IsNull a negated) (e.rolls-IsNull a negated)

parsable_between : (a low high : Expr) (negated : Bool) → is_parsable (e.Between a low high negated) ≡ (is_parsable a && (is_parsable low && is_parsable high))
parsable_between a low high negated = of_layer (Expr-F.Between a low high negated) (e.Between a low high negated) (e.rolls-Between a low high negated)

parsable_in_list : (a : Expr) (items : List Expr) (negated : Bool) → is_parsable (e.InList a items negated) ≡ (is_parsable a && all_of (map is_parsable items))
parsable_in_list a items negated = of_layer (Expr-F.InList a items negated) (e.InList a items negated) (e.rolls-InList a items negated)

parsable_count : is_parsable (e.Aggregate aggregate.Count None) ≡ true
parsable_count = of_layer (Expr-F.Aggregate aggregate.Count None) (e.Aggregate aggregate.Count None) (e.rolls-Aggregate aggregate.Count None)

some_fits : (kind : AggregateKind) (b : Bool) → is_parsable_aggregate kind (Some b) ≡ b
some_fits aggregate.Count b = refl
some_fits aggregate.Sum b = refl
some_fits aggregate.Min b = refl
some_fits aggregate.Max b = refl

parsable_aggregate_of : (kind : AggregateKind) (a : Expr) → is_parsable (e.Aggregate kind (Some a)) ≡ is_parsable a
parsable_aggregate_of kind a = of_layer (Expr-F.Aggregate kind (Some a)) (e.Aggregate kind (Some a)) (e.rolls-Aggregate kind (Some a)) ∙ some_fits kind (is_parsable a)

-- ---- tokens that may stand in a text

abbrev Stands : List Token → Type 0
Stands ts = list_all can_stand ts ≡ true

stands_append : (ts us : List Token) → Stands ts → Stands us → Stands (ts ++ us)
stands_append [] us h g = g
stands_append (t ∷ ts) us h g =
    let both = and_parts (can_stand t) (list_all can_stand ts) h in
    ap (λ b. b && list_all can_stand (ts ++ us)) both.0 ∙ stands_append ts us both.1 g

stands_placed : (place : ℕ) (y : Spelling) → Stands y.tokens → Stands (placed place y).tokens
stands_placed place y h = decide (nat_lt y.rank place)
  where
    decide : (b : Bool) → Stands (if b then enclosed y else y).tokens
    decide true = stands_append y.tokens (symbol s.Close ∷ []) h refl
    decide false = h

stands_operator : (op : BinaryOp) (ts : List Token) → Stands ts → Stands (operator_token op ∷ ts)
stands_operator binary.Or ts h = h
stands_operator binary.And ts h = h
stands_operator binary.Equal ts h = h
stands_operator binary.Unequal ts h = h
stands_operator binary.Less ts h = h
stands_operator binary.AtMost ts h = h
stands_operator binary.Greater ts h = h
stands_operator binary.AtLeast ts h = h
stands_operator binary.Add ts h = h
stands_operator binary.Subtract ts h = h
stands_operator binary.Concat ts h = h
stands_operator binary.Multiply ts h = h
stands_operator binary.Divide ts h = h

stands_if : (b : Bool) (ts us : List Token) → Stands ts → Stands us → Stands (tokens_if b ts ++ us)
stands_if true ts us h g = stands_append ts us h g
stands_if false ts us h g = g

stands_literal : (v : Value) → is_parsable (literal_as_read v) ≡ true → Stands (spelled_at (Expr-F.Literal v)).tokens
stands_literal value.Null f = refl
stands_literal (value.Int (pos n)) f = ap (λ b. b && true) (sym (parsable_literal (value.Int (pos n))) ∙ f)
stands_literal (value.Int (negsuc n)) f =
    ap (λ b. b && true) (sym (parsable_unary unary.Minus (e.Literal (value.Int (pos (suc n)))) ∙ parsable_literal (value.Int (pos (suc n)))) ∙ f)
stands_literal (value.Text t) f = refl

stands_column : (table : Option (List ℕ)) (n : List ℕ) → (is_parsable_table table && is_name n) ≡ true → Stands (spelled_at (Expr-F.Named table n)).tokens
stands_column None n f = ap (λ b. b && true) f
stands_column (Some table) n f =
    let both = and_parts (is_name table) (is_name n) f in
    ap (λ b. b && (is_name n && true)) both.0 ∙ ap (λ b. b && true) both.1

stands_unary : (op : UnaryOp) (y : Spelling) → Stands y.tokens → Stands (spelled_at (Expr-F.Unary op y)).tokens
stands_unary unary.Not y h = stands_placed 2 y h
stands_unary unary.Minus y h = stands_placed 6 y h

-- each of the spellings stands
abbrev AllStand : List Spelling → Type 0
AllStand [] = Unit {0}
AllStand (y ∷ ys) = Stands y.tokens × AllStand ys

stands_more : (ys : List Spelling) → AllStand ys → Stands (flat_map (λ y. comma ∷ y.tokens) ys)
stands_more [] h = refl
stands_more (y ∷ ys) h = stands_append (comma ∷ y.tokens) (flat_map (λ z. comma ∷ z.tokens) ys) h.0 (stands_more ys h.1)

stands_listed : (ys : List Spelling) → AllStand ys → Stands (with_commas (λ y. y.tokens) ys)
stands_listed [] h = refl
stands_listed (y ∷ ys) h = stands_append y.tokens (flat_map (λ z. comma ∷ z.tokens) ys) h.0 (stands_more ys h.1)

-- ---- every expression, as it is read

abbrev Claim : Expr → Type 0
Claim x = is_parsable (as_read x) ≡ true → Stands (spelled x).tokens

carry : (layer : Expr-F Expr) (f : Bool) → is_parsable (as_read_at (map-Expr Expr Expr as_read layer)) ≡ f
    → (f ≡ true → Stands (spelled_at (map-Expr Expr Spelling spelled layer)).tokens) → Claim (roll-Expr layer)
unfolding spelled as_read
carry layer f g h t =
    let a' : as_read (roll-Expr layer) ≡ as_read_at (map-Expr Expr Expr as_read layer) = fold-roll-Expr Expr as_read_at layer in
    let s' : spelled (roll-Expr layer) ≡ spelled_at (map-Expr Expr Spelling spelled layer) = fold-roll-Expr Spelling spelled_at layer in
    subst (λ (y : Spelling). Stands y.tokens) (sym s') (h (sym g ∙ sym (ap is_parsable a') ∙ t))

all_stand : {S : Type 0} (ex : S → Expr) (pr : (y : S) → Claim (ex y)) (xs : List S) → all_of (map is_parsable (map as_read (map ex xs))) ≡ true → AllStand (map spelled (map ex xs))
all_stand ex pr [] f = tt
all_stand ex pr (x ∷ []) f = (pr x f, tt)
all_stand ex pr (x ∷ y ∷ more) f = let both = and_parts (is_parsable (as_read (ex x))) _ f in (pr x both.0, all_stand ex pr (y ∷ more) both.1)

step : {S : Type 0} (ex : S → Expr) (pr : (y : S) → Claim (ex y)) (y : Expr-F S) → Claim (roll-Expr (map-Expr S Expr ex y))
step ex pr (Expr-F.Literal v) = carry (Expr-F.Literal v) (is_parsable (literal_as_read v)) refl (stands_literal v)
step ex pr (Expr-F.Named table n) = carry (Expr-F.Named table n) (is_parsable_table table && is_name n) (parsable_named table n) (stands_column table n)
step ex pr (Expr-F.Placed source column) =
    carry (Expr-F.Placed source column) false (of_layer (Expr-F.Placed source column) (e.Placed source column) (e.rolls-Placed source column)) (λ f. let z : false ≡ true = f in cc)
step ex pr (Expr-F.Unary op a) =
    carry (Expr-F.Unary op (ex a)) (is_parsable (as_read (ex a))) (parsable_unary op (as_read (ex a))) (λ f. stands_unary op (spelled (ex a)) (pr a f))
step ex pr (Expr-F.Binary op l r) =
    carry (Expr-F.Binary op (ex l) (ex r)) (is_parsable (as_read (ex l)) && is_parsable (as_read (ex r))) (parsable_binary op (as_read (ex l)) (as_read (ex r)))
    (λ f. let both = and_parts (is_parsable (as_read (ex l))) _ f in
    stands_append (placed (left_rank op) (spelled (ex l))).tokens _ (stands_placed (left_rank op) (spelled (ex l)) (pr l both.0))
    (stands_operator op (placed (right_rank op) (spelled (ex r))).tokens (stands_placed (right_rank op) (spelled (ex r)) (pr r both.1))))
step ex pr (Expr-F.IsNull a n) =
    carry (Expr-F.IsNull (ex a) n) (is_parsable (as_read (ex a))) (parsable_is_null (as_read (ex a)) n)
    (λ f. stands_append (placed 4 (spelled (ex a))).tokens _ (stands_placed 4 (spelled (ex a)) (pr a f)) (stands_if n (word w.Not ∷ []) (word w.Null ∷ []) refl refl))
step ex pr (Expr-F.Between a l h n) =
    carry (Expr-F.Between (ex a) (ex l) (ex h) n) (is_parsable (as_read (ex a)) && (is_parsable (as_read (ex l)) && is_parsable (as_read (ex h))))
    (parsable_between (as_read (ex a)) (as_read (ex l)) (as_read (ex h)) n)
    (λ f. let all = and_parts (is_parsable (as_read (ex a))) _ f in let both = and_parts (is_parsable (as_read (ex l))) _ all.1 in
    stands_append (placed 4 (spelled (ex a))).tokens _ (stands_placed 4 (spelled (ex a)) (pr a all.0))
    (stands_if n (word w.Not ∷ []) _ refl (stands_append (placed 4 (spelled (ex l))).tokens _ (stands_placed 4 (spelled (ex l)) (pr l both.0)) (stands_placed 4 (spelled (ex h)) (pr h both.1)))))
step ex pr (Expr-F.InList a xs n) =
    carry (Expr-F.InList (ex a) (map ex xs) n) (is_parsable (as_read (ex a)) && all_of (map is_parsable (map as_read (map ex xs)))) (parsable_in_list (as_read (ex a)) (map as_read (map ex xs)) n)
    (λ f. let both = and_parts (is_parsable (as_read (ex a))) _ f in
    stands_append (placed 4 (spelled (ex a))).tokens _ (stands_placed 4 (spelled (ex a)) (pr a both.0))
    (stands_if n (word w.Not ∷ []) _ refl (stands_append (with_commas (λ y. y.tokens) (map spelled (map ex xs))) (symbol s.Close ∷ []) (stands_listed (map spelled (map ex xs)) (all_stand ex pr xs both.1)) refl)))
step ex pr (Expr-F.Aggregate kind None) = carry (Expr-F.Aggregate kind None) (is_parsable (e.Aggregate kind None)) refl (λ f. refl)
step ex pr (Expr-F.Aggregate kind (Some a)) =
    carry (Expr-F.Aggregate kind (Some (ex a))) (is_parsable (as_read (ex a))) (parsable_aggregate_of kind (as_read (ex a)))
    (λ f. stands_append (spelled (ex a)).tokens (symbol s.Close ∷ []) (pr a f) refl)

as_read_stands : (x : Expr) → is_parsable (as_read x) ≡ true → Stands (expression x)
as_read_stands = ind-Expr (λ x. is_parsable (as_read x) ≡ true → Stands (spelled x).tokens) (λ x y q. subst (λ (z : Expr-F Expr). Claim (roll-Expr z)) q (step (λ z. z.0) (λ z. z.1) y))

expression_stands : (x : Expr) → is_readable_expression x ≡ true → Stands (expression x)
expression_stands x h = as_read_stands x (and_parts (is_parsable (as_read x)) (nat_le (spelled x).levels max_nesting) h).0

-- ---- columns

abbrev OfColumn : Expr → Type 0
OfColumn x = is_column x ≡ true → Stands (spelled x).tokens

carry_column : (layer : Expr-F Expr) → (is_column_at (map-Expr Expr Bool is_column layer) ≡ true → Stands (spelled_at (map-Expr Expr Spelling spelled layer)).tokens) → OfColumn (roll-Expr layer)
unfolding spelled is_column
carry_column layer h t =
    let f' : is_column (roll-Expr layer) ≡ is_column_at (map-Expr Expr Bool is_column layer) = fold-roll-Expr Bool is_column_at layer in
    let s' : spelled (roll-Expr layer) ≡ spelled_at (map-Expr Expr Spelling spelled layer) = fold-roll-Expr Spelling spelled_at layer in
    subst (λ (y : Spelling). Stands y.tokens) (sym s') (h (sym f' ∙ t))

column_step : {S : Type 0} (ex : S → Expr) (y : Expr-F S) → OfColumn (roll-Expr (map-Expr S Expr ex y))
column_step ex (Expr-F.Literal v) = carry_column (Expr-F.Literal v) (λ f. let z : false ≡ true = f in cc)
column_step ex (Expr-F.Named table n) = carry_column (Expr-F.Named table n) (stands_column table n)
column_step ex (Expr-F.Placed source column) = carry_column (Expr-F.Placed source column) (λ f. let z : false ≡ true = f in cc)
column_step ex (Expr-F.Unary op a) = carry_column (Expr-F.Unary op (ex a)) (λ f. let z : false ≡ true = f in cc)
column_step ex (Expr-F.Binary op l r) = carry_column (Expr-F.Binary op (ex l) (ex r)) (λ f. let z : false ≡ true = f in cc)
column_step ex (Expr-F.IsNull a n) = carry_column (Expr-F.IsNull (ex a) n) (λ f. let z : false ≡ true = f in cc)
column_step ex (Expr-F.Between a l h n) = carry_column (Expr-F.Between (ex a) (ex l) (ex h) n) (λ f. let z : false ≡ true = f in cc)
column_step ex (Expr-F.InList a xs n) = carry_column (Expr-F.InList (ex a) (map ex xs) n) (λ f. let z : false ≡ true = f in cc)
column_step ex (Expr-F.Aggregate kind None) = carry_column (Expr-F.Aggregate kind None) (λ f. let z : false ≡ true = f in cc)
column_step ex (Expr-F.Aggregate kind (Some a)) = carry_column (Expr-F.Aggregate kind (Some (ex a))) (λ f. let z : false ≡ true = f in cc)

column_stands : (x : Expr) → is_column x ≡ true → Stands (expression x)
column_stands = ind-Expr (λ x. is_column x ≡ true → Stands (spelled x).tokens) (λ x y q. subst (λ (z : Expr-F Expr). OfColumn (roll-Expr z)) q (column_step (λ z. z.0) y))

-- ---- lists, and parts that may be missing

module _ {X : Type 0} (f : X → List Token) (p : X → Bool) (each : (x : X) → p x ≡ true → Stands (f x)) where
  more_stand : (xs : List X) → list_all p xs ≡ true → Stands (flat_map (λ y. comma ∷ f y) xs)
  more_stand [] h = refl
  more_stand (x ∷ xs) h =
      let both = and_parts (p x) (list_all p xs) h in
      stands_append (f x) (flat_map (λ y. comma ∷ f y) xs) (each x both.0) (more_stand xs both.1)

  list_stands : (xs : List X) → list_all p xs ≡ true → Stands (with_commas f xs)
  list_stands [] h = refl
  list_stands (x ∷ xs) h =
      let both = and_parts (p x) (list_all p xs) h in
      stands_append (f x) (flat_map (λ y. comma ∷ f y) xs) (each x both.0) (more_stand xs both.1)

  all_listed : (xs : List X) → are_all p xs ≡ true → Stands (with_commas f xs)
  all_listed xs h = list_stands xs (and_parts (has_members xs) (list_all p xs) h).1

  enclosed_stand : (xs : List X) → are_all p xs ≡ true → Stands (in_parentheses f xs)
  enclosed_stand xs h = stands_append (with_commas f xs) (symbol s.Close ∷ []) (all_listed xs h) refl

  by_stands : (k : Keyword) (xs : List X) → list_all p xs ≡ true → Stands (by k f xs)
  by_stands k [] h = refl
  by_stands k (x ∷ xs) h = list_stands (x ∷ xs) h

name_stands : (n : List ℕ) → is_name n ≡ true → Stands (name_tokens n)
name_stands n h = ap (λ b. b && true) h

-- a name, and what stands behind it
named : (n : List ℕ) (ts : List Token) → is_name n ≡ true → Stands ts → Stands (name n ∷ ts)
named n ts h g = ap (λ b. b && list_all can_stand ts) h ∙ g

condition_stands : (k : Keyword) (x : Option Expr) → is_so is_readable_expression x ≡ true → Stands (spec.condition k x)
condition_stands k None h = refl
condition_stands k (Some x) h = expression_stands x h

if_stands : (b : Bool) (k : Keyword) → Stands (tokens_if b (word k ∷ []))
if_stands true k = refl
if_stands false k = refl

-- ---- queries

items_stand : (x : SelectItems) → are_readable_items x ≡ true → Stands (spec.select_items x)
items_stand shown.Star h = refl
items_stand (shown.List xs) h = all_listed expression is_readable_expression expression_stands xs h

alias_stands : (a : Option (List ℕ)) → is_so is_name a ≡ true → Stands (spec.alias a)
alias_stands None h = refl
alias_stands (Some n) h = name_stands n h

source_stands : (x : Source) → is_readable_source x ≡ true → Stands (spec.source_tokens x)
source_stands x h = let both = and_parts (is_name x.table) (is_so is_name x.alias) h in named x.table (spec.alias x.alias) both.0 (alias_stands x.alias both.1)

order_by_stands : (x : OrderBy) → is_readable_order x ≡ true → Stands (spec.order_by x)
order_by_stands (Column x) h = column_stands x h
order_by_stands (Position (pos n)) h = ap (λ b. b && true) h
order_by_stands (Position (negsuc n)) h = let z : false ≡ true = h in cc

order_stands : (x : OrderItem) → is_readable_order_item x ≡ true → Stands (spec.order_item x)
order_stands x h = stands_append (spec.order_by x.by) (tokens_if x.descending (word w.Desc ∷ [])) (order_by_stands x.by h) (if_stands x.descending w.Desc)

query_stands : (q : Query) → is_readable_query q ≡ true → Stands (spec.query q)
query_stands q h =
    let part1 = and_parts (are_readable_items q.items) _ h in
    let part2 = and_parts (are_all is_readable_source q.sources) _ part1.1 in
    let part3 = and_parts (is_so is_readable_expression q.filter) _ part2.1 in
    let part4 = and_parts (list_all is_column q.group) _ part3.1 in
    let part5 = and_parts (is_so is_readable_expression q.having) _ part4.1 in
    stands_if q.distinct (word w.Distinct ∷ []) _ refl
    (stands_append (spec.select_items q.items) _ (items_stand q.items part1.0)
    (stands_append (with_commas spec.source_tokens q.sources) _ (all_listed spec.source_tokens is_readable_source source_stands q.sources part2.0)
    (stands_append (spec.condition w.Where q.filter) _ (condition_stands w.Where q.filter part3.0)
    (stands_append (by w.Group expression q.group) _ (by_stands expression is_column column_stands w.Group q.group part4.0)
    (stands_append (spec.condition w.Having q.having) _ (condition_stands w.Having q.having part5.0)
    (by_stands spec.order_item is_readable_order_item order_stands w.Order q.order part5.1))))))

-- ---- statements

sized_stands : (k : Keyword) (n : ℤ) → is_count n ≡ true → Stands (spec.sized k n)
sized_stands k (pos n) h = ap (λ b. b && true) h
sized_stands k (negsuc n) h = let z : false ≡ true = h in cc

type_stands : (x : TypeName) → is_readable_type x ≡ true → Stands (type_tokens x)
type_stands type_name.Integer h = refl
type_stands (type_name.Char n) h = sized_stands w.Char n h
type_stands (type_name.Varchar n) h = sized_stands w.Varchar n h

rules_stand : (nullable key : Bool) → Stands (column_rules nullable key)
rules_stand true true = refl
rules_stand true false = refl
rules_stand false true = refl
rules_stand false false = refl

element_stands : (x : Element) → is_readable_element x ≡ true → Stands (element_tokens x)
element_stands (element.Column n kind nullable key) h =
    let both = and_parts (is_name n) (is_readable_type kind) h in
    named n (type_tokens kind ++ column_rules nullable key) both.0 (stands_append (type_tokens kind) (column_rules nullable key) (type_stands kind both.1) (rules_stand nullable key))
element_stands (element.Key ns) h = enclosed_stand name_tokens is_name name_stands ns h

columns_stand : (ns : Option (List (List ℕ))) → is_so (are_all is_name) ns ≡ true → Stands (spec.insert_columns ns)
columns_stand None h = refl
columns_stand (Some ns) h = enclosed_stand name_tokens is_name name_stands ns h

rows_stand : (x : InsertSource) → are_readable_rows x ≡ true → Stands (spec.insert_source x)
rows_stand (from.Values xs) h = enclosed_stand expression is_readable_expression expression_stands xs h
rows_stand (from.Answer q) h = query_stands q h

set_stands : (x : SetItem) → is_readable_set x ≡ true → Stands (spec.set_item x)
set_stands x h =
    let both = and_parts (is_name x.name) (is_readable_expression x.value) h in
    named x.name (symbol s.Equal ∷ expression x.value) both.0 (expression_stands x.value both.1)

level_small : (n : ℕ) → nat_lt n 4 ≡ true → (nat_lt n 9223372036854775808 && true) ≡ true
level_small n h = grind (arith, nat_tests)

-- all tokens of a readable statement
pub statement_stands : (x : Statement) → is_readable x ≡ true → list_all can_stand (statement_tokens x) ≡ true
statement_stands (statement.CreateTable n elements) h =
    let both = and_parts (is_name n) _ h in
    named n (in_parentheses element_tokens elements) both.0 (enclosed_stand element_tokens is_readable_element element_stands elements both.1)
statement_stands (statement.CreateIndex n table columns) h =
    let part1 = and_parts (is_name n) _ h in
    let part2 = and_parts (is_name table) (are_all is_name columns) part1.1 in
    named n (word w.On ∷ name table ∷ in_parentheses name_tokens columns) part1.0
    (named table (in_parentheses name_tokens columns) part2.0 (enclosed_stand name_tokens is_name name_stands columns part2.1))
statement_stands (statement.DropTable n) h = name_stands n h
statement_stands (statement.Insert table columns rows) h =
    let part1 = and_parts (is_name table) _ h in
    let part2 = and_parts (is_so (are_all is_name) columns) (are_readable_rows rows) part1.1 in
    named table (spec.insert_columns columns ++ spec.insert_source rows) part1.0
    (stands_append (spec.insert_columns columns) (spec.insert_source rows) (columns_stand columns part2.0) (rows_stand rows part2.1))
statement_stands (statement.Update table sets filter) h =
    let part1 = and_parts (is_name table) _ h in
    let part2 = and_parts (are_all is_readable_set sets) (is_so is_readable_expression filter) part1.1 in
    named table (word w.Set ∷ (with_commas spec.set_item sets ++ spec.condition w.Where filter)) part1.0
    (stands_append (with_commas spec.set_item sets) (spec.condition w.Where filter) (all_listed spec.set_item is_readable_set set_stands sets part2.0) (condition_stands w.Where filter part2.1))
statement_stands (statement.Delete table filter) h =
    let both = and_parts (is_name table) _ h in
    named table (spec.condition w.Where filter) both.0 (condition_stands w.Where filter both.1)
statement_stands (statement.Select q) h = query_stands q h
statement_stands statement.Commit h = refl
statement_stands statement.Checkpoint h = refl
statement_stands statement.Rollback h = refl
statement_stands (statement.RollbackTo n) h = name_stands n h
statement_stands (statement.Savepoint n) h = name_stands n h
statement_stands (statement.Release n) h = name_stands n h
statement_stands (statement.SetLevel n) h = level_small n h
statement_stands (statement.SetBlocking true) h = refl
statement_stands (statement.SetBlocking false) h = refl
