-- A tree with numbers below zero is spelled as the tree that its spelling is read as, but for the token that such a number is.
use Rattle.std.proofs.Common.{◌≡◌, ℕ, ℤ, pos, negsuc, suc, ◌+◌, max, Bool, true, false, ◌&&◌, nat_lt, if◌then◌else◌, List, [], ◌∷◌, ◌++◌, map, Option, Some, None, option_map, refl, sym, ◌∙◌, ap, subst, arith}
use Rattle.std.specs.List.{list_all, flat_map}
use Rattle.wat_word.specs.declared.keyword.Keyword.{Keyword}
use Rattle.wat_word.specs.declared.keyword.Keyword.TheVariants as w
use Rattle.wat_value.specs.declared.value.Value.{Value}
use Rattle.wat_value.specs.declared.value.Value.TheVariants as value
use Rattle.wat_ast.specs.declared.expression.UnaryOp.{UnaryOp}
use Rattle.wat_ast.specs.declared.expression.UnaryOp.TheVariants as unary
use Rattle.wat_ast.specs.declared.expression.BinaryOp.{BinaryOp}
use Rattle.wat_ast.specs.declared.expression.AggregateKind.{AggregateKind}
use Rattle.wat_ast.specs.declared.expression.Expr.{Expr, ind-Expr, map-Expr, roll-Expr, fold-roll-Expr}
use Rattle.wat_ast.specs.declared.expression.Expr.TheVariants as e
use Rattle.wat_ast.specs.declared.expression.Expr.TheOpen.{Expr-F}
use Rattle.wat_ast.specs.declared.query.SelectItems.{SelectItems}
use Rattle.wat_ast.specs.declared.query.SelectItems.TheVariants as shown
use Rattle.wat_ast.specs.declared.query.OrderBy.{OrderBy}
use Rattle.wat_ast.specs.declared.query.OrderBy.TheVariants.{Column, Position}
use Rattle.wat_ast.specs.declared.query.OrderItem.{OrderItem}
use Rattle.wat_ast.specs.declared.query.Query.{Query}
use Rattle.wat_ast.specs.declared.statement.SetItem.{SetItem}
use Rattle.wat_ast.specs.declared.statement.InsertSource.{InsertSource}
use Rattle.wat_ast.specs.declared.statement.InsertSource.TheVariants as from
use Rattle.wat_ast.specs.declared.statement.Statement.{Statement}
use Rattle.wat_ast.specs.declared.statement.Statement.TheVariants as statement
use Rattle.wat_syntax.specs.Lexeme.{Lexeme}
use Rattle.wat_spell.specs.declared.symbol.Symbol.TheVariants as s
use Rattle.wat_spell.specs.Tokens.{Token, word, name, symbol}
use Rattle.wat_spell.specs.Spelling.{Spelling, spelled, spelled_at, placed, enclosed, literal, comma, with_commas, by, deepest, tokens_if, unary_of, binary_of, is_null_of, between_of, in_list_of, aggregate_of, argument, operator_token, left_rank, right_rank, unary_rank, unary_token, aggregate_word, expression}
use Rattle.wat_spell.specs.Statements as spec
use Rattle.wat_spell.specs.Statements.{statement_tokens}
use Rattle.wat_spell.proofs.Spelled.{spelled_literal, spelled_named, spelled_placed, spelled_unary, spelled_binary, spelled_is_null, spelled_between, spelled_in_list, spelled_aggregate}
use Rattle.wat_spell_laws.specs.AsRead.{number_as_read, literal_as_read, as_read, as_read_at, items_as_read, order_as_read, order_item_as_read, query_as_read, rows_as_read, set_as_read, statement_as_read}
use Rattle.wat_spell_laws.specs.Derived.{token_lexemes}
use Rattle.wat_spell_laws.specs.Read.{can_stand}
use Rattle.wat_spell_laws.proofs.Lifts.{lexemes_append}

-- The grammar sees the same, and the one may stand in a text where the other may.
pub record Alike (ts us : List Token) : Type 0 where
  pub lexemes : token_lexemes ts ≡ token_lexemes us
  pub stand : list_all can_stand ts ≡ list_all can_stand us

pub alike_same : (ts : List Token) → Alike ts ts
alike_same ts = record { lexemes = refl; stand = refl }

and_grouped : (a b c : Bool) → (a && (b && c)) ≡ ((a && b) && c)
and_grouped true b c = refl
and_grouped false b c = refl

stand_append : (ts us : List Token) → list_all can_stand (ts ++ us) ≡ (list_all can_stand ts && list_all can_stand us)
stand_append [] us = refl
stand_append (t ∷ ts) us = ap (λ (b : Bool). can_stand t && b) (stand_append ts us) ∙ and_grouped (can_stand t) (list_all can_stand ts) (list_all can_stand us)

pub alike_append : (ts us vs ws : List Token) → Alike ts us → Alike vs ws → Alike (ts ++ vs) (us ++ ws)
alike_append ts us vs ws h g = record {
  lexemes =
      lexemes_append ts vs ∙ ap (λ (x : List Lexeme). x ++ token_lexemes vs) h.lexemes ∙ ap (λ (x : List Lexeme). token_lexemes us ++ x) g.lexemes
      ∙ sym (lexemes_append us ws);
  stand =
      stand_append ts vs ∙ ap (λ (b : Bool). b && list_all can_stand vs) h.stand ∙ ap (λ (b : Bool). list_all can_stand us && b) g.stand
      ∙ sym (stand_append us ws);
}

-- behind the same tokens
pub alike_behind : (front us vs : List Token) → Alike us vs → Alike (front ++ us) (front ++ vs)
alike_behind front us vs h = alike_append front front us vs (alike_same front) h

-- before the same tokens
alike_before : (us vs back : List Token) → Alike us vs → Alike (us ++ back) (vs ++ back)
alike_before us vs back h = alike_append us vs back back h (alike_same back)

-- ---- expressions

pub record SpelledAlike (y z : Spelling) : Type 0 where
  pub rank : y.rank ≡ z.rank
  pub levels : y.levels ≡ z.levels
  pub tokens : Alike y.tokens z.tokens

same_spelling : (y : Spelling) → SpelledAlike y y
same_spelling y = record { rank = refl; levels = refl; tokens = alike_same y.tokens }

placed_alike : (place : ℕ) (y z : Spelling) → SpelledAlike y z → SpelledAlike (placed place y) (placed place z)
placed_alike place y z h =
    subst (λ (t : Bool). SpelledAlike (placed place y) (if t then enclosed z else z)) (ap (λ (k : ℕ). nat_lt k place) h.rank) (decide (nat_lt y.rank place))
  where
    decide : (b : Bool) → SpelledAlike (if b then enclosed y else y) (if b then enclosed z else z)
    decide true = record {
      rank = refl;
      levels = ap (λ (k : ℕ). k + 1) h.levels;
      tokens = alike_behind (symbol s.Open ∷ []) (y.tokens ++ symbol s.Close ∷ []) (z.tokens ++ symbol s.Close ∷ []) (alike_before y.tokens z.tokens (symbol s.Close ∷ []) h.tokens);
    }
    decide false = h

unary_alike : (op : UnaryOp) (y z : Spelling) → SpelledAlike y z → SpelledAlike (unary_of op y) (unary_of op z)
unary_alike op y z h =
    let arg = placed_alike (unary_rank op) y z h in
    record {
      rank = refl;
      levels = ap (λ (k : ℕ). k + 1) arg.levels;
      tokens = alike_behind (unary_token op ∷ []) (placed (unary_rank op) y).tokens (placed (unary_rank op) z).tokens arg.tokens;
    }

both_max : (a b c d : ℕ) → a ≡ b → c ≡ d → max a c ≡ max b d
both_max a b c d p q = ap (λ (k : ℕ). max k c) p ∙ ap (max b) q

binary_alike : (op : BinaryOp) (y z t u : Spelling) → SpelledAlike y z → SpelledAlike t u → SpelledAlike (binary_of op y t) (binary_of op z u)
binary_alike op y z t u h g =
    let left = placed_alike (left_rank op) y z h in
    let right = placed_alike (right_rank op) t u g in
    record {
      rank = refl;
      levels = both_max (placed (left_rank op) y).levels (placed (left_rank op) z).levels (placed (right_rank op) t).levels (placed (right_rank op) u).levels left.levels right.levels;
      tokens =
          alike_append (placed (left_rank op) y).tokens (placed (left_rank op) z).tokens (operator_token op ∷ (placed (right_rank op) t).tokens) (operator_token op ∷ (placed (right_rank op) u).tokens) left.tokens
          (alike_behind (operator_token op ∷ []) (placed (right_rank op) t).tokens (placed (right_rank op) u).tokens right.tokens);
    }

is_null_alike : (y z : Spelling) (negated : Bool) → SpelledAlike y z → SpelledAlike (is_null_of y negated) (is_null_of z negated)
is_null_alike y z negated h =
    let arg = placed_alike 4 y z h in
    record { rank = refl; levels = arg.levels; tokens = alike_before (placed 4 y).tokens (placed 4 z).tokens _ arg.tokens }

between_alike : (a a' l l' h h' : Spelling) (negated : Bool) → SpelledAlike a a' → SpelledAlike l l' → SpelledAlike h h' → SpelledAlike (between_of a l h negated) (between_of a' l' h' negated)
between_alike a a' l l' h h' negated p q r =
    let arg = placed_alike 4 a a' p in
    let low = placed_alike 4 l l' q in
    let high = placed_alike 4 h h' r in
    let bounds = alike_append (placed 4 l).tokens (placed 4 l').tokens (word w.And ∷ (placed 4 h).tokens) (word w.And ∷ (placed 4 h').tokens) low.tokens
    (alike_behind (word w.And ∷ []) (placed 4 h).tokens (placed 4 h').tokens high.tokens) in
    let tail = alike_behind (tokens_if negated (word w.Not ∷ [])) (word w.Between ∷ ((placed 4 l).tokens ++ word w.And ∷ (placed 4 h).tokens)) (word w.Between ∷ ((placed 4 l').tokens ++ word w.And ∷ (placed 4 h').tokens))
    (alike_behind (word w.Between ∷ []) ((placed 4 l).tokens ++ word w.And ∷ (placed 4 h).tokens) ((placed 4 l').tokens ++ word w.And ∷ (placed 4 h').tokens) bounds) in
    record {
      rank = refl;
      levels = both_max (placed 4 a).levels (placed 4 a').levels (max (placed 4 l).levels (placed 4 h).levels) (max (placed 4 l').levels (placed 4 h').levels) arg.levels
          (both_max (placed 4 l).levels (placed 4 l').levels (placed 4 h).levels (placed 4 h').levels low.levels high.levels);
      tokens = alike_append (placed 4 a).tokens (placed 4 a').tokens _ _ arg.tokens tail;
    }

-- with commas between, each as another
module _ {X Y : Type 0} (f : X → List Token) (g : Y → List Token) (to : X → Y) (same : (x : X) → Alike (f x) (g (to x))) where
  more_alike : (xs : List X) → Alike (flat_map (λ x. comma ∷ f x) xs) (flat_map (λ y. comma ∷ g y) (map to xs))
  more_alike [] = alike_same []
  more_alike (x ∷ xs) =
      alike_append (comma ∷ f x) (comma ∷ g (to x)) (flat_map (λ x. comma ∷ f x) xs) (flat_map (λ y. comma ∷ g y) (map to xs))
      (alike_behind (comma ∷ []) (f x) (g (to x)) (same x)) (more_alike xs)

  pub commas_alike : (xs : List X) → Alike (with_commas f xs) (with_commas g (map to xs))
  commas_alike [] = alike_same []
  commas_alike (x ∷ xs) = alike_append (f x) (g (to x)) (flat_map (λ x. comma ∷ f x) xs) (flat_map (λ y. comma ∷ g y) (map to xs)) (same x) (more_alike xs)

  by_alike : (v : Keyword) (xs : List X) → Alike (by v f xs) (by v g (map to xs))
  by_alike v [] = alike_same []
  by_alike v (x ∷ xs) = alike_behind (word v ∷ word w.By ∷ []) (with_commas f (x ∷ xs)) (with_commas g (map to (x ∷ xs))) (commas_alike (x ∷ xs))

record ListsAlike (ys zs : List Spelling) : Type 0 where
  pub levels : deepest ys ≡ deepest zs
  pub more : Alike (flat_map (λ y. comma ∷ y.tokens) ys) (flat_map (λ y. comma ∷ y.tokens) zs)
  pub all : Alike (with_commas (λ y. y.tokens) ys) (with_commas (λ y. y.tokens) zs)

lists_alike : {S : Type 0} (f g : S → Spelling) → ((x : S) → SpelledAlike (f x) (g x)) → (xs : List S) → ListsAlike (map f xs) (map g xs)
lists_alike f g h [] = record { levels = refl; more = alike_same []; all = alike_same [] }
lists_alike f g h (x ∷ xs) =
    let rest = lists_alike f g h xs in
    record {
      levels = both_max (f x).levels (g x).levels (deepest (map f xs)) (deepest (map g xs)) (h x).levels rest.levels;
      more = alike_append (comma ∷ (f x).tokens) (comma ∷ (g x).tokens) _ _ (alike_behind (comma ∷ []) (f x).tokens (g x).tokens (h x).tokens) rest.more;
      all = alike_append (f x).tokens (g x).tokens _ _ (h x).tokens rest.more;
    }

in_list_alike : (y z : Spelling) (ys zs : List Spelling) (negated : Bool) → SpelledAlike y z → ListsAlike ys zs → SpelledAlike (in_list_of y ys negated) (in_list_of z zs negated)
in_list_alike y z ys zs negated h l =
    let arg = placed_alike 4 y z h in
    let items = alike_before (with_commas (λ y. y.tokens) ys) (with_commas (λ y. y.tokens) zs) (symbol s.Close ∷ []) l.all in
    record {
      rank = refl;
      levels = both_max (placed 4 y).levels (placed 4 z).levels (deepest ys + 1) (deepest zs + 1) arg.levels (ap (λ (k : ℕ). k + 1) l.levels);
      tokens = alike_append (placed 4 y).tokens (placed 4 z).tokens _ _ arg.tokens
          (alike_behind (tokens_if negated (word w.Not ∷ [])) _ _ (alike_behind (word w.In ∷ symbol s.Open ∷ []) _ _ items));
    }

aggregate_alike : (kind : AggregateKind) (y z : Spelling) → SpelledAlike y z → SpelledAlike (aggregate_of kind (Some y)) (aggregate_of kind (Some z))
aggregate_alike kind y z h = record {
  rank = refl;
  levels = ap (λ (k : ℕ). k + 1) h.levels;
  tokens = alike_behind (word (aggregate_word kind) ∷ symbol s.OpenTight ∷ []) (y.tokens ++ symbol s.Close ∷ []) (z.tokens ++ symbol s.Close ∷ []) (alike_before y.tokens z.tokens (symbol s.Close ∷ []) h.tokens);
}

abbrev Claim : Expr → Type 0
Claim x = SpelledAlike (spelled x) (spelled (as_read x))

-- spelled so, of parts that are spelled alike
with_layer : (layer : Expr-F Expr) → (z : Expr) → as_read_at (map-Expr Expr Expr as_read layer) ≡ z → (u : Spelling) → spelled z ≡ u
    → SpelledAlike (spelled_at (map-Expr Expr Spelling spelled layer)) u → Claim (roll-Expr layer)
unfolding spelled as_read
with_layer layer z q u r h =
    let first : spelled (roll-Expr layer) ≡ spelled_at (map-Expr Expr Spelling spelled layer) = fold-roll-Expr Spelling spelled_at layer in
    let second : as_read (roll-Expr layer) ≡ z = fold-roll-Expr Expr as_read_at layer ∙ q in
    subst (λ (y : Spelling). SpelledAlike y (spelled (as_read (roll-Expr layer)))) (sym first)
    (subst (λ (x : Expr). SpelledAlike (spelled_at (map-Expr Expr Spelling spelled layer)) (spelled x)) (sym second)
    (subst (λ (y : Spelling). SpelledAlike (spelled_at (map-Expr Expr Spelling spelled layer)) y) (sym r) h))

literal_alike : (v : Value) → Claim (roll-Expr (Expr-F.Literal v))
literal_alike value.Null = with_layer (Expr-F.Literal value.Null) (e.Literal value.Null) refl (literal value.Null) (spelled_literal value.Null) (same_spelling (literal value.Null))
literal_alike (value.Int (pos n)) = with_layer (Expr-F.Literal (value.Int (pos n))) (e.Literal (value.Int (pos n))) refl (literal (value.Int (pos n))) (spelled_literal (value.Int (pos n))) (same_spelling (literal (value.Int (pos n))))
literal_alike (value.Int (negsuc n)) =
    with_layer (Expr-F.Literal (value.Int (negsuc n))) (e.Unary unary.Minus (e.Literal (value.Int (pos (suc n))))) refl (unary_of unary.Minus (literal (value.Int (pos (suc n)))))
    (spelled_unary unary.Minus (e.Literal (value.Int (pos (suc n)))) ∙ ap (unary_of unary.Minus) (spelled_literal (value.Int (pos (suc n)))))
    (record { rank = refl; levels = refl; tokens = record { lexemes = refl; stand = refl } })
literal_alike (value.Text t) = with_layer (Expr-F.Literal (value.Text t)) (e.Literal (value.Text t)) refl (literal (value.Text t)) (spelled_literal (value.Text t)) (same_spelling (literal (value.Text t)))

map_map : {A B C : Type 0} (f : A → B) (g : B → C) (xs : List A) → map g (map f xs) ≡ map (λ x. g (f x)) xs
map_map f g [] = refl
map_map {C = C} f g (x ∷ xs) = ap (λ (z : List C). g (f x) ∷ z) (map_map f g xs)

step : {S : Type 0} (ex : S → Expr) (pr : (y : S) → Claim (ex y)) (y : Expr-F S) → Claim (roll-Expr (map-Expr S Expr ex y))
step ex pr (Expr-F.Literal v) = literal_alike v
step ex pr (Expr-F.Named table n) =
    with_layer (Expr-F.Named table n) (e.Named table n) refl (spelled_at (Expr-F.Named table n)) (spelled_named table n) (same_spelling (spelled_at (Expr-F.Named table n)))
step ex pr (Expr-F.Placed source column) =
    with_layer (Expr-F.Placed source column) (e.Placed source column) refl (spelled_at (Expr-F.Placed source column)) (spelled_placed source column) (same_spelling (spelled_at (Expr-F.Placed source column)))
step ex pr (Expr-F.Unary op a) =
    with_layer (Expr-F.Unary op (ex a)) (e.Unary op (as_read (ex a))) refl (unary_of op (spelled (as_read (ex a)))) (spelled_unary op (as_read (ex a))) (unary_alike op _ _ (pr a))
step ex pr (Expr-F.Binary op l r) =
    with_layer (Expr-F.Binary op (ex l) (ex r)) (e.Binary op (as_read (ex l)) (as_read (ex r))) refl (binary_of op (spelled (as_read (ex l))) (spelled (as_read (ex r)))) (spelled_binary op (as_read (ex l)) (as_read (ex r)))
    (binary_alike op _ _ _ _ (pr l) (pr r))
step ex pr (Expr-F.IsNull a n) =
    with_layer (Expr-F.IsNull (ex a) n) (e.IsNull (as_read (ex a)) n) refl (is_null_of (spelled (as_read (ex a))) n) (spelled_is_null (as_read (ex a)) n) (is_null_alike _ _ n (pr a))
step ex pr (Expr-F.Between a l h n) =
    with_layer (Expr-F.Between (ex a) (ex l) (ex h) n) (e.Between (as_read (ex a)) (as_read (ex l)) (as_read (ex h)) n) refl
    (between_of (spelled (as_read (ex a))) (spelled (as_read (ex l))) (spelled (as_read (ex h))) n) (spelled_between (as_read (ex a)) (as_read (ex l)) (as_read (ex h)) n)
    (between_alike _ _ _ _ _ _ n (pr a) (pr l) (pr h))
step ex pr (Expr-F.InList a xs n) =
    with_layer (Expr-F.InList (ex a) (map ex xs) n) (e.InList (as_read (ex a)) (map as_read (map ex xs)) n) refl
    (in_list_of (spelled (as_read (ex a))) (map spelled (map as_read (map ex xs))) n) (spelled_in_list (as_read (ex a)) (map as_read (map ex xs)) n)
    (in_list_alike _ _ _ _ n (pr a) all)
  where
    all : ListsAlike (map spelled (map ex xs)) (map spelled (map as_read (map ex xs)))
    all =
        let first : map spelled (map ex xs) ≡ map (λ x. spelled (ex x)) xs = map_map ex spelled xs in
        let second : map spelled (map as_read (map ex xs)) ≡ map (λ x. spelled (as_read (ex x))) xs = map_map as_read spelled (map ex xs) ∙ map_map ex (λ x. spelled (as_read x)) xs in
        subst (λ (ys : List Spelling). ListsAlike ys (map spelled (map as_read (map ex xs)))) (sym first)
        (subst (λ (zs : List Spelling). ListsAlike (map (λ x. spelled (ex x)) xs) zs) (sym second) (lists_alike (λ x. spelled (ex x)) (λ x. spelled (as_read (ex x))) pr xs))
step ex pr (Expr-F.Aggregate kind None) =
    with_layer (Expr-F.Aggregate kind None) (e.Aggregate kind None) refl (aggregate_of kind None) (spelled_aggregate kind None) (same_spelling (aggregate_of kind None))
step ex pr (Expr-F.Aggregate kind (Some a)) =
    with_layer (Expr-F.Aggregate kind (Some (ex a))) (e.Aggregate kind (Some (as_read (ex a)))) refl (aggregate_of kind (Some (spelled (as_read (ex a))))) (spelled_aggregate kind (Some (as_read (ex a)))) (aggregate_alike kind _ _ (pr a))

pub spelled_alike : (x : Expr) → SpelledAlike (spelled x) (spelled (as_read x))
spelled_alike = ind-Expr (λ x. SpelledAlike (spelled x) (spelled (as_read x))) (λ x y q. subst (λ (z : Expr-F Expr). Claim (roll-Expr z)) q (step (λ z. z.0) (λ z. z.1) y))

pub expression_alike : (x : Expr) → Alike (expression x) (expression (as_read x))
expression_alike x = (spelled_alike x).tokens

-- ---- statements

condition_alike : (v : Keyword) (o : Option Expr) → Alike (spec.condition v o) (spec.condition v (option_map as_read o))
condition_alike v None = alike_same []
condition_alike v (Some x) = alike_behind (word v ∷ []) (expression x) (expression (as_read x)) (expression_alike x)

items_alike : (x : SelectItems) → Alike (spec.select_items x) (spec.select_items (items_as_read x))
items_alike shown.Star = alike_same (symbol s.Star ∷ [])
items_alike (shown.List xs) = commas_alike expression expression as_read expression_alike xs

order_alike : (x : OrderBy) → Alike (spec.order_by x) (spec.order_by (order_as_read x))
order_alike (Column x) = expression_alike x
order_alike (Position n) = alike_same (spec.order_by (Position n))

order_item_alike : (x : OrderItem) → Alike (spec.order_item x) (spec.order_item (order_item_as_read x))
order_item_alike x = alike_before (spec.order_by x.by) (spec.order_by (order_as_read x.by)) (tokens_if x.descending (word w.Desc ∷ [])) (order_alike x.by)

query_alike : (q : Query) → Alike (spec.query q) (spec.query (query_as_read q))
query_alike q =
    let order = by_alike spec.order_item spec.order_item order_item_as_read order_item_alike w.Order q.order in
    let having = alike_append _ _ _ _ (condition_alike w.Having q.having) order in
    let group = alike_append _ _ _ _ (by_alike expression expression as_read expression_alike w.Group q.group) having in
    let filter = alike_append _ _ _ _ (condition_alike w.Where q.filter) group in
    let from = alike_behind (word w.From ∷ []) _ _ (alike_behind (with_commas spec.source_tokens q.sources) _ _ filter) in
    let items = alike_append _ _ _ _ (items_alike q.items) from in
    alike_behind (word w.Select ∷ []) _ _ (alike_behind (tokens_if q.distinct (word w.Distinct ∷ [])) _ _ items)

rows_alike : (x : InsertSource) → Alike (spec.insert_source x) (spec.insert_source (rows_as_read x))
rows_alike (from.Values xs) =
    alike_behind (word w.Values ∷ symbol s.Open ∷ []) (with_commas expression xs ++ symbol s.Close ∷ []) (with_commas expression (map as_read xs) ++ symbol s.Close ∷ [])
    (alike_before (with_commas expression xs) (with_commas expression (map as_read xs)) (symbol s.Close ∷ []) (commas_alike expression expression as_read expression_alike xs))
rows_alike (from.Answer q) = query_alike q

set_alike : (x : SetItem) → Alike (spec.set_item x) (spec.set_item (set_as_read x))
set_alike x = alike_behind (name x.name ∷ symbol s.Equal ∷ []) (expression x.value) (expression (as_read x.value)) (expression_alike x.value)

pub statement_alike : (x : Statement) → Alike (statement_tokens x) (statement_tokens (statement_as_read x))
statement_alike (statement.CreateTable n elements) = alike_same _
statement_alike (statement.CreateIndex n table columns) = alike_same _
statement_alike (statement.DropTable n) = alike_same _
statement_alike (statement.Insert table columns rows) =
    alike_behind (word w.Insert ∷ word w.Into ∷ name table ∷ spec.insert_columns columns) (spec.insert_source rows) (spec.insert_source (rows_as_read rows)) (rows_alike rows)
statement_alike (statement.Update table sets filter) =
    alike_behind (word w.Update ∷ name table ∷ word w.Set ∷ []) _ _
    (alike_append (with_commas spec.set_item sets) (with_commas spec.set_item (map set_as_read sets)) _ _ (commas_alike spec.set_item spec.set_item set_as_read set_alike sets) (condition_alike w.Where filter))
statement_alike (statement.Delete table filter) = alike_behind (word w.Delete ∷ word w.From ∷ name table ∷ []) _ _ (condition_alike w.Where filter)
statement_alike (statement.Select q) = query_alike q
statement_alike statement.Commit = alike_same _
statement_alike statement.Checkpoint = alike_same _
statement_alike statement.Rollback = alike_same _
statement_alike (statement.RollbackTo n) = alike_same _
statement_alike (statement.Savepoint n) = alike_same _
statement_alike (statement.Release n) = alike_same _
statement_alike (statement.SetLevel level) = alike_same _
statement_alike (statement.SetBlocking on) = alike_same _
