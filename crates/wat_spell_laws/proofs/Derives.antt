-- What spells an expression is derived, and gives that expression.
use Rattle.std.proofs.Common.{◌≡◌, ℕ, zero, suc, pos, negsuc, ◌+◌, ◌≤◌, max, Bool, true, false, ◌&&◌, nat_lt, if◌then◌else◌, List, [], ◌∷◌, ◌++◌, map, Option, Some, None, refl, sym, ◌∙◌, ap, subst, inl, inr, lit≤, arith}
use Rattle.std.proofs.lemmas.Bool.{ltb-false}
use Rattle.std.specs.List.{flat_map}
use Rattle.wat_word.specs.Words.{is_name}
use Rattle.wat_word.specs.declared.keyword.Keyword.TheVariants as w
use Rattle.wat_value.specs.declared.value.Value.{Value}
use Rattle.wat_value.specs.declared.value.Value.TheVariants as value
use Rattle.wat_ast.specs.declared.expression.AggregateKind.{AggregateKind}
use Rattle.wat_ast.specs.declared.expression.AggregateKind.TheVariants as aggregate
use Rattle.wat_ast.specs.declared.expression.UnaryOp.{UnaryOp}
use Rattle.wat_ast.specs.declared.expression.UnaryOp.TheVariants as unary
use Rattle.wat_ast.specs.declared.expression.BinaryOp.{BinaryOp}
use Rattle.wat_ast.specs.declared.expression.BinaryOp.TheVariants as binary
use Rattle.wat_ast.specs.declared.expression.Expr.{Expr, ind-Expr, map-Expr, roll-Expr, fold-roll-Expr}
use Rattle.wat_ast.specs.declared.expression.Expr.TheVariants as e
use Rattle.wat_ast.specs.declared.expression.Expr.TheOpen.{Expr-F}
use Rattle.wat_grammar.specs.Phrase.{nested, Repeats, DerivesWithin}
use Rattle.wat_syntax.specs.declared.kind.Kind.TheVariants as k
use Rattle.wat_syntax.specs.declared.nest.Nest.TheVariants.{Whole}
use Rattle.wat_syntax.specs.Lexeme.{Lexeme}
use Rattle.wat_syntax.specs.Sql.{Sql, sql, Change, list, after, some_name, among, is_null, between, ranged, column, count, count_argument, aggregate_word, aggregated, primary, expression, conjunction, negation, predicate, sum, term, factor, test, compared, comparison, expression_operator, conjunction_operator, sum_operator, term_operator}
use Rattle.wat_spell.specs.declared.symbol.Symbol.{Symbol}
use Rattle.wat_spell.specs.declared.symbol.Symbol.TheVariants as s
use Rattle.wat_spell.specs.Tokens.{Token, word, name, number, quoted, symbol}
use Rattle.wat_spell.specs.Spelling.{Spelling, spelled, spelled_at, placed, enclosed, comma, with_commas, deepest, tokens_if, operator_rank, left_rank, right_rank, operator_token}
use Rattle.wat_spell_laws.specs.Derived.{IsSpelled, sign, kind_of_symbol, name_lexeme, number_lexeme, quoted_lexeme, lexemes_of_token, token_lexemes, phrase_of, is_parsable, is_parsable_at, is_parsable_value, is_parsable_table, is_parsable_aggregate, all_of}
use Rattle.wat_spell_laws.proofs.Lifts.{lexemes_append, and_one, down_to, suc_not_zero, in_parentheses}

-- in its place too
pub in_place : (rank : ℕ) (y : Spelling) (x : Expr) → rank ≤ 7 → IsSpelled y x → (d : ℕ) → (placed rank y).levels ≤ d → DerivesWithin sql d (phrase_of rank) (token_lexemes (placed rank y).tokens) x
in_place rank y x top h d b = decide (nat_lt y.rank rank) refl b
  where
    decide : (t : Bool) → nat_lt y.rank rank ≡ t → (if t then enclosed y else y).levels ≤ d
        → DerivesWithin sql d (phrase_of rank) (token_lexemes (if t then enclosed y else y).tokens) x
    decide true f b = deeper d b
      where
        deeper : (d : ℕ) → y.levels + 1 ≤ d → DerivesWithin sql d (phrase_of rank) (token_lexemes (enclosed y).tokens) x
        deeper zero b = absurd (omega arith)
        deeper (suc d) b = down_to 7 rank (suc d) _ x top (in_parentheses d y.tokens x (down_to y.rank 0 d (token_lexemes y.tokens) x (omega arith) (h d (omega arith))))
    decide false f b = down_to y.rank rank d (token_lexemes y.tokens) x (ltb-false _ _ f) (h d b)

-- ---- operators between operands

-- a test behind a sum
tested : (d : ℕ) (us vs : List Token) (l : Expr) (change : Change) → DerivesWithin sql d sum (token_lexemes us) l → DerivesWithin sql d test (token_lexemes vs) change
    → DerivesWithin sql d predicate (token_lexemes (us ++ vs)) (change l)
unfolding predicate
tested d us vs l change h ht = ((l, change), (token_lexemes us, token_lexemes vs, lexemes_append us vs, h, ht), refl)

compared_by : (d : ℕ) (t : Lexeme) (ws : List Lexeme) (r : Expr) (o : BinaryOp) → DerivesWithin sql d comparison (t ∷ []) o → DerivesWithin sql d sum ws r → DerivesWithin sql d test (t ∷ ws) (λ arg. e.Binary o arg r)
unfolding test compared
compared_by d t ws r o ho h = inl ((o, r), (t ∷ [], ws, refl, ho, h), refl)

-- a chain with one more operation
chained : (d : ℕ) (p : Sql Expr) (op : Sql BinaryOp) (q : Sql Expr) (us : List Token) (t : Token) (ws : List Token) (l r : Expr) (o : BinaryOp)
    → DerivesWithin sql d (Rattle.wat_syntax.specs.Sql.chain op q) (token_lexemes us) l → DerivesWithin sql d op (lexemes_of_token t) o → DerivesWithin sql d q (token_lexemes ws) r
    → DerivesWithin sql d (Rattle.wat_syntax.specs.Sql.chain op q) (token_lexemes (us ++ t ∷ ws)) (e.Binary o l r)
chained d p op q us t ws l r o h ho hr =
    subst (λ (z : List Lexeme). DerivesWithin sql d (Rattle.wat_syntax.specs.Sql.chain op q) z (e.Binary o l r)) (sym (lexemes_append us (t ∷ ws)))
    (and_one d op q (token_lexemes us) (lexemes_of_token t) (token_lexemes ws) l r o h ho hr)

comparison_is : (d : ℕ) (y z : Spelling) (l r : Expr) (x : Symbol) (o : BinaryOp) → DerivesWithin sql d comparison (sign (kind_of_symbol x) ∷ []) o → IsSpelled y l → IsSpelled z r
    → max (placed 4 y).levels (placed 4 z).levels ≤ d → DerivesWithin sql d predicate (token_lexemes ((placed 4 y).tokens ++ symbol x ∷ (placed 4 z).tokens)) (e.Binary o l r)
comparison_is d y z l r x o ho hl hr b =
    tested d (placed 4 y).tokens (symbol x ∷ (placed 4 z).tokens) l (λ arg. e.Binary o arg r) (in_place 4 y l (lit≤ tt) hl d (omega arith))
    (compared_by d (sign (kind_of_symbol x)) (token_lexemes (placed 4 z).tokens) r o ho (in_place 4 z r (lit≤ tt) hr d (omega arith)))

binary_spelled : (op : BinaryOp) (y z : Spelling) (l r : Expr) → IsSpelled y l → IsSpelled z r → IsSpelled (spelled_at (Expr-F.Binary op y z)) (e.Binary op l r)
unfolding expression conjunction sum term expression_operator conjunction_operator sum_operator term_operator comparison
binary_spelled binary.Or y z l r hl hr d b = chained d expression expression_operator conjunction (placed 0 y).tokens (word w.Or) (placed 1 z).tokens l r binary.Or
    (in_place 0 y l (lit≤ tt) hl d (omega arith)) (tt, (sign k.Or, refl, refl, refl), refl) (in_place 1 z r (lit≤ tt) hr d (omega arith))
binary_spelled binary.And y z l r hl hr d b = chained d conjunction conjunction_operator negation (placed 1 y).tokens (word w.And) (placed 2 z).tokens l r binary.And
    (in_place 1 y l (lit≤ tt) hl d (omega arith)) (tt, (sign k.And, refl, refl, refl), refl) (in_place 2 z r (lit≤ tt) hr d (omega arith))
binary_spelled binary.Add y z l r hl hr d b = chained d sum sum_operator term (placed 4 y).tokens (symbol s.Plus) (placed 5 z).tokens l r binary.Add
    (in_place 4 y l (lit≤ tt) hl d (omega arith)) (inl (tt, (sign k.Plus, refl, refl, refl), refl)) (in_place 5 z r (lit≤ tt) hr d (omega arith))
binary_spelled binary.Subtract y z l r hl hr d b = chained d sum sum_operator term (placed 4 y).tokens (symbol s.Minus) (placed 5 z).tokens l r binary.Subtract
    (in_place 4 y l (lit≤ tt) hl d (omega arith)) (inr (inl (tt, (sign k.Minus, refl, refl, refl), refl))) (in_place 5 z r (lit≤ tt) hr d (omega arith))
binary_spelled binary.Concat y z l r hl hr d b = chained d sum sum_operator term (placed 4 y).tokens (symbol s.Concat) (placed 5 z).tokens l r binary.Concat
    (in_place 4 y l (lit≤ tt) hl d (omega arith)) (inr (inr (tt, (sign k.Concat, refl, refl, refl), refl))) (in_place 5 z r (lit≤ tt) hr d (omega arith))
binary_spelled binary.Multiply y z l r hl hr d b = chained d term term_operator factor (placed 5 y).tokens (symbol s.Star) (placed 6 z).tokens l r binary.Multiply
    (in_place 5 y l (lit≤ tt) hl d (omega arith)) (inl (tt, (sign k.Star, refl, refl, refl), refl)) (in_place 6 z r (lit≤ tt) hr d (omega arith))
binary_spelled binary.Divide y z l r hl hr d b = chained d term term_operator factor (placed 5 y).tokens (symbol s.Slash) (placed 6 z).tokens l r binary.Divide
    (in_place 5 y l (lit≤ tt) hl d (omega arith)) (inr (tt, (sign k.Slash, refl, refl, refl), refl)) (in_place 6 z r (lit≤ tt) hr d (omega arith))
binary_spelled binary.Equal y z l r hl hr d b = comparison_is d y z l r s.Equal binary.Equal (inl (tt, (sign k.Equal, refl, refl, refl), refl)) hl hr b
binary_spelled binary.Unequal y z l r hl hr d b = comparison_is d y z l r s.Unequal binary.Unequal (inr (inl (tt, (sign k.Unequal, refl, refl, refl), refl))) hl hr b
binary_spelled binary.Less y z l r hl hr d b = comparison_is d y z l r s.Less binary.Less (inr (inr (inl (tt, (sign k.Less, refl, refl, refl), refl)))) hl hr b
binary_spelled binary.AtMost y z l r hl hr d b = comparison_is d y z l r s.AtMost binary.AtMost (inr (inr (inr (inl (tt, (sign k.AtMost, refl, refl, refl), refl))))) hl hr b
binary_spelled binary.Greater y z l r hl hr d b = comparison_is d y z l r s.Greater binary.Greater (inr (inr (inr (inr (inl (tt, (sign k.Greater, refl, refl, refl), refl)))))) hl hr b
binary_spelled binary.AtLeast y z l r hl hr d b = comparison_is d y z l r s.AtLeast binary.AtLeast (inr (inr (inr (inr (inr (tt, (sign k.AtLeast, refl, refl, refl), refl)))))) hl hr b

-- ---- a leaf, and an operator before its operand

literal_spelled : (v : Value) → is_parsable_value v ≡ true → IsSpelled (spelled_at (Expr-F.Literal v)) (e.Literal v)
unfolding primary
literal_spelled value.Null f d b = inr (inr (inl (tt, (sign k.Null, refl, refl, refl), refl)))
literal_spelled (value.Int (pos n)) f d b = inl (pos n, (number_lexeme n, refl, refl, refl), refl)
literal_spelled (value.Int (negsuc n)) f d b = cc
literal_spelled (value.Text t) f d b = inr (inl (t, (quoted_lexeme t, refl, refl, refl), refl))

-- a name is read as it is
pub named : (n : List ℕ) → is_name n ≡ true → some_name n ≡ Some n
named n f = ap (λ (b : Bool). if b then Some n else None) f

and_true : (a b : Bool) → (a && b) ≡ true → (a ≡ true) × (b ≡ true)
and_true true b q = (refl, q)
and_true false b q = cc

pub column_derives : (d : ℕ) (table : Option (List ℕ)) (n : List ℕ) → (is_parsable_table table && is_name n) ≡ true
    → DerivesWithin sql d column (token_lexemes (Rattle.wat_spell.specs.Spelling.column table n)) (e.Named table n)
unfolding column
column_derives d None n f = ((n, None), (name_lexeme n ∷ [], [], refl, (name_lexeme n, refl, refl, named n (and_true true (is_name n) f).1), inr (refl, refl)), refl)
column_derives d (Some table) n f =
    let both = and_true (is_name table) (is_name n) f in (
      (table, Some n),
      (
        name_lexeme table ∷ [],
        sign k.Dot ∷ name_lexeme n ∷ [],
        refl,
        (name_lexeme table, refl, refl, named table both.0),
        inl (n, ((tt, n), (sign k.Dot ∷ [], name_lexeme n ∷ [], refl, (sign k.Dot, refl, refl, refl), (name_lexeme n, refl, refl, named n both.1)), refl), refl),
      ),
      refl,
    )

named_spelled : (table : Option (List ℕ)) (n : List ℕ) → (is_parsable_table table && is_name n) ≡ true → IsSpelled (spelled_at (Expr-F.Named table n)) (e.Named table n)
unfolding primary
named_spelled table n f d b = inr (inr (inr (inl (column_derives d table n f))))

unary_spelled : (op : UnaryOp) (y : Spelling) (x : Expr) → IsSpelled y x → IsSpelled (spelled_at (Expr-F.Unary op y)) (e.Unary op x)
unfolding negation factor
unary_spelled unary.Not y x h zero b = absurd (omega arith)
unary_spelled unary.Not y x h (suc d) b =
    inl (suc_not_zero d, ((tt, e.Unary unary.Not x), (sign k.Not ∷ [], token_lexemes (placed 2 y).tokens, refl, (sign k.Not, refl, refl, refl), (x, in_place 2 y x (lit≤ tt) h d (omega arith), refl)), refl))
unary_spelled unary.Minus y x h zero b = absurd (omega arith)
unary_spelled unary.Minus y x h (suc d) b =
    inl (suc_not_zero d, ((tt, e.Unary unary.Minus x), (sign k.Minus ∷ [], token_lexemes (placed 6 y).tokens, refl, (sign k.Minus, refl, refl, refl), (x, in_place 6 y x (lit≤ tt) h d (omega arith), refl)), refl))

-- ---- tests

null_test : (d : ℕ) (negated : Bool) → DerivesWithin sql d test (token_lexemes (word w.Is ∷ (tokens_if negated (word w.Not ∷ []) ++ word w.Null ∷ []))) (λ arg. e.IsNull arg negated)
unfolding test is_null
null_test d true = inr (inl (
  (tt, λ arg. e.IsNull arg true),
  (
    sign k.Is ∷ [],
    sign k.Not ∷ sign k.Null ∷ [],
    refl,
    (sign k.Is, refl, refl, refl),
    (true, ((true, tt), (sign k.Not ∷ [], sign k.Null ∷ [], refl, inl (tt, (sign k.Not, refl, refl, refl), refl), (sign k.Null, refl, refl, refl)), refl), refl),
  ),
  refl,
))
null_test d false = inr (inl (
  (tt, λ arg. e.IsNull arg false),
  (
    sign k.Is ∷ [],
    sign k.Null ∷ [],
    refl,
    (sign k.Is, refl, refl, refl),
    (false, ((false, tt), ([], sign k.Null ∷ [], refl, inr (refl, refl), (sign k.Null, refl, refl, refl)), refl), refl),
  ),
  refl,
))

is_null_spelled : (negated : Bool) (y : Spelling) (x : Expr) → IsSpelled y x → IsSpelled (spelled_at (Expr-F.IsNull y negated)) (e.IsNull x negated)
is_null_spelled negated y x h d b = tested d (placed 4 y).tokens _ x (λ arg. e.IsNull arg negated) (in_place 4 y x (lit≤ tt) h d b) (null_test d negated)

range_test : (d : ℕ) (negated : Bool) (us vs : List Token) (low high : Expr) → DerivesWithin sql d sum (token_lexemes us) low → DerivesWithin sql d sum (token_lexemes vs) high
    → DerivesWithin sql d (ranged negated) (token_lexemes (word w.Between ∷ (us ++ word w.And ∷ vs))) (λ arg. e.Between arg low high negated)
unfolding ranged between
range_test d negated us vs low high hl hh = (
  λ n arg. e.Between arg low high n,
  inl (
    (tt, λ n arg. e.Between arg low high n),
    (
      sign k.Between ∷ [],
      token_lexemes (us ++ word w.And ∷ vs),
      refl,
      (sign k.Between, refl, refl, refl),
      ((low, high), (token_lexemes us, sign k.And ∷ token_lexemes vs, lexemes_append us (word w.And ∷ vs), hl, ((tt, high), (sign k.And ∷ [], token_lexemes vs, refl, (sign k.And, refl, refl, refl), hh), refl)), refl),
    ),
    refl,
  ),
  refl,
)

negated_test : (d : ℕ) (negated : Bool) (ts : List Token) (change : Change) → DerivesWithin sql d (ranged negated) (token_lexemes ts) change
    → DerivesWithin sql d test (token_lexemes (tokens_if negated (word w.Not ∷ []) ++ ts)) change
unfolding test
negated_test d true ts change h = inr (inr (inl ((tt, change), (sign k.Not ∷ [], token_lexemes ts, refl, (sign k.Not, refl, refl, refl), h), refl)))
negated_test d false ts change h = inr (inr (inr (inl h)))

between_spelled : (negated : Bool) (y t u : Spelling) (x low high : Expr) → IsSpelled y x → IsSpelled t low → IsSpelled u high
    → IsSpelled (spelled_at (Expr-F.Between y t u negated)) (e.Between x low high negated)
between_spelled negated y t u x low high hs ht hu d b = tested d (placed 4 y).tokens _ x (λ arg. e.Between arg low high negated) (in_place 4 y x (lit≤ tt) hs d (omega arith))
    (negated_test d negated _ (λ arg. e.Between arg low high negated)
    (range_test d negated (placed 4 t).tokens (placed 4 u).tokens low high (in_place 4 t low (lit≤ tt) ht d (omega arith)) (in_place 4 u high (lit≤ tt) hu d (omega arith))))

-- ---- lists

module _ {S : Type 0} (sp : S → Spelling) (ex : S → Expr) (ok : S → Bool) (d : ℕ) where
  abbrev tail : List S → List Token
  tail xs = flat_map (λ y. comma ∷ y.tokens) (map sp xs)

  abbrev AllFit : List S → Type 0
  AllFit [] = Unit {0}
  AllFit (y ∷ more) = all_of (map ok (y ∷ more)) ≡ true

  fit_parts : (x : S) (xs : List S) → all_of (map ok (x ∷ xs)) ≡ true → (ok x ≡ true) × AllFit xs
  fit_parts x [] q = (q, tt)
  fit_parts x (y ∷ more) q = and_true (ok x) _ q

  rest_listed : ((y : S) → ok y ≡ true → (sp y).levels ≤ d → DerivesWithin sql d expression (token_lexemes (sp y).tokens) (ex y)) → (xs : List S) → AllFit xs → deepest (map sp xs) ≤ d
      → Repeats (DerivesWithin sql (suc d) (after k.Comma (nested Whole))) (token_lexemes (tail xs)) (map ex xs)
  rest_listed h [] a b = refl
  rest_listed h (y ∷ more) a b = (
    sign k.Comma ∷ token_lexemes (sp y).tokens,
    token_lexemes (tail more),
    lexemes_append (comma ∷ (sp y).tokens) (tail more),
    ((tt, ex y), (sign k.Comma ∷ [], token_lexemes (sp y).tokens, refl, (sign k.Comma, refl, refl, refl), h y (fit_parts y more a).0 (omega arith)), refl),
    rest_listed h more (fit_parts y more a).1 (omega arith),
  )

  list_derives : ((y : S) → ok y ≡ true → (sp y).levels ≤ d → DerivesWithin sql d expression (token_lexemes (sp y).tokens) (ex y)) → (x : S) (xs : List S) → all_of (map ok (x ∷ xs)) ≡ true → deepest (map sp (x ∷ xs)) ≤ d
      → DerivesWithin sql (suc d) (list (nested Whole)) (token_lexemes (with_commas (λ y. y.tokens) (map sp (x ∷ xs)))) (map ex (x ∷ xs))
  list_derives h x xs a b = ((ex x, map ex xs), (token_lexemes (sp x).tokens, token_lexemes (tail xs), lexemes_append (sp x).tokens (tail xs), h x (fit_parts x xs a).0 (omega arith), rest_listed h xs (fit_parts x xs a).1 (omega arith)), refl)

among_test : (d : ℕ) (negated : Bool) (ts : List Token) (xs : List Expr) → DerivesWithin sql (suc d) (list (nested Whole)) (token_lexemes ts) xs
    → DerivesWithin sql (suc d) (ranged negated) (token_lexemes (word w.In ∷ symbol s.Open ∷ (ts ++ symbol s.Close ∷ []))) (λ arg. e.InList arg xs negated)
unfolding ranged among
among_test d negated ts xs h =
    let behind : List Lexeme = token_lexemes (ts ++ symbol s.Close ∷ []) in (
      λ n arg. e.InList arg xs n,
      inr (
        suc_not_zero d,
        (
          (tt, λ n arg. e.InList arg xs n),
          (
            sign k.In ∷ [],
            sign k.Open ∷ behind,
            refl,
            (sign k.In, refl, refl, refl),
            (xs, ((tt, xs), (sign k.Open ∷ [], behind, refl, (sign k.Open, refl, refl, refl), ((xs, tt), (token_lexemes ts, sign k.Close ∷ [], lexemes_append ts (symbol s.Close ∷ []), h, (sign k.Close, refl, refl, refl)), refl)), refl), refl),
          ),
          refl,
        ),
      ),
      refl,
    )

map_map : {A B C : Type 0} (f : A → B) (g : B → C) (xs : List A) → map g (map f xs) ≡ map (λ x. g (f x)) xs
map_map f g [] = refl
map_map {C = C} f g (x ∷ xs) = ap (λ (z : List C). g (f x) ∷ z) (map_map f g xs)

in_list_spelled : (negated : Bool) (y : Spelling) (x : Expr) (ss : List Spelling) (xs : List Expr) → IsSpelled y x
    → ((d : ℕ) → deepest ss ≤ d → DerivesWithin sql (suc d) (list (nested Whole)) (token_lexemes (with_commas (λ z. z.tokens) ss)) xs) → IsSpelled (spelled_at (Expr-F.InList y ss negated)) (e.InList x xs negated)
in_list_spelled negated y x ss xs h hs zero b = absurd (omega arith)
in_list_spelled negated y x ss xs h hs (suc d) b = tested (suc d) (placed 4 y).tokens _ x (λ arg. e.InList arg xs negated) (in_place 4 y x (lit≤ tt) h (suc d) (omega arith))
    (negated_test (suc d) negated _ (λ arg. e.InList arg xs negated) (among_test d negated (with_commas (λ z. z.tokens) ss) xs (hs d (omega arith))))

-- ---- aggregates

count_all_spelled : IsSpelled (spelled_at (Expr-F.Aggregate aggregate.Count None)) (e.Aggregate aggregate.Count None)
unfolding primary count count_argument
count_all_spelled zero b = absurd (omega arith)
count_all_spelled (suc d) b = inr (inr (inr (inr (inr (inl (
  suc_not_zero d,
  (
    None,
    (
      (tt, None),
      (
        sign k.Count ∷ [],
        sign k.Open ∷ sign k.Star ∷ sign k.Close ∷ [],
        refl,
        (sign k.Count, refl, refl, refl),
        (
          (tt, None),
          (
            sign k.Open ∷ [],
            sign k.Star ∷ sign k.Close ∷ [],
            refl,
            (sign k.Open, refl, refl, refl),
            ((None, tt), (sign k.Star ∷ [], sign k.Close ∷ [], refl, inl (tt, (sign k.Star, refl, refl, refl), refl), (sign k.Close, refl, refl, refl)), refl),
          ),
          refl,
        ),
      ),
      refl,
    ),
    refl,
  ),
))))))

aggregated_by : (d : ℕ) (kind : AggregateKind) (t : Lexeme) (ts : List Token) (x : Expr) → DerivesWithin sql (suc d) aggregate_word (t ∷ []) kind → DerivesWithin sql d expression (token_lexemes ts) x
    → DerivesWithin sql (suc d) primary (t ∷ token_lexemes (symbol s.OpenTight ∷ (ts ++ symbol s.Close ∷ []))) (e.Aggregate kind (Some x))
unfolding primary aggregated
aggregated_by d kind t ts x ho h =
    let behind : List Lexeme = token_lexemes (ts ++ symbol s.Close ∷ []) in
    inr (inr (inr (inr (inr (inr (
      suc_not_zero d,
      (
        (kind, x),
        (
          t ∷ [],
          sign k.Open ∷ behind,
          refl,
          ho,
          ((tt, x), (sign k.Open ∷ [], behind, refl, (sign k.Open, refl, refl, refl), ((x, tt), (token_lexemes ts, sign k.Close ∷ [], lexemes_append ts (symbol s.Close ∷ []), h, (sign k.Close, refl, refl, refl)), refl)), refl),
        ),
        refl,
      ),
    ))))))

counted_by : (d : ℕ) (ts : List Token) (x : Expr) → DerivesWithin sql d expression (token_lexemes ts) x
    → DerivesWithin sql (suc d) primary (sign k.Count ∷ token_lexemes (symbol s.OpenTight ∷ (ts ++ symbol s.Close ∷ []))) (e.Aggregate aggregate.Count (Some x))
unfolding primary count count_argument
counted_by d ts x h =
    let behind : List Lexeme = token_lexemes (ts ++ symbol s.Close ∷ []) in
    inr (inr (inr (inr (inr (inl (
      suc_not_zero d,
      (
        Some x,
        (
          (tt, Some x),
          (
            sign k.Count ∷ [],
            sign k.Open ∷ behind,
            refl,
            (sign k.Count, refl, refl, refl),
            ((tt, Some x), (sign k.Open ∷ [], behind, refl, (sign k.Open, refl, refl, refl), ((Some x, tt), (token_lexemes ts, sign k.Close ∷ [], lexemes_append ts (symbol s.Close ∷ []), inr (x, h, refl), (sign k.Close, refl, refl, refl)), refl)), refl),
          ),
          refl,
        ),
        refl,
      ),
    ))))))

aggregate_spelled : (kind : AggregateKind) (y : Spelling) (x : Expr) → IsSpelled y x → IsSpelled (spelled_at (Expr-F.Aggregate kind (Some y))) (e.Aggregate kind (Some x))
unfolding aggregate_word
aggregate_spelled kind y x h zero b = absurd (omega arith)
aggregate_spelled aggregate.Count y x h (suc d) b = counted_by d y.tokens x (down_to y.rank 0 d (token_lexemes y.tokens) x (omega arith) (h d (omega arith)))
aggregate_spelled aggregate.Sum y x h (suc d) b = aggregated_by d aggregate.Sum (sign k.Sum) y.tokens x (inl (tt, (sign k.Sum, refl, refl, refl), refl)) (down_to y.rank 0 d (token_lexemes y.tokens) x (omega arith) (h d (omega arith)))
aggregate_spelled aggregate.Min y x h (suc d) b = aggregated_by d aggregate.Min (sign k.Min) y.tokens x (inr (inl (tt, (sign k.Min, refl, refl, refl), refl))) (down_to y.rank 0 d (token_lexemes y.tokens) x (omega arith) (h d (omega arith)))
aggregate_spelled aggregate.Max y x h (suc d) b = aggregated_by d aggregate.Max (sign k.Max) y.tokens x (inr (inr (tt, (sign k.Max, refl, refl, refl), refl))) (down_to y.rank 0 d (token_lexemes y.tokens) x (omega arith) (h d (omega arith)))

-- ---- every tree

abbrev Claim : Expr → Type 0
Claim x = is_parsable x ≡ true → IsSpelled (spelled x) x

carry : (layer : Expr-F Expr) (x : Expr) → roll-Expr layer ≡ x
    → (is_parsable_at (map-Expr Expr Bool is_parsable layer) ≡ true → IsSpelled (spelled_at (map-Expr Expr Spelling spelled layer)) x) → Claim (roll-Expr layer)
unfolding spelled is_parsable
carry layer x r h f =
    let f' : is_parsable (roll-Expr layer) ≡ is_parsable_at (map-Expr Expr Bool is_parsable layer) = fold-roll-Expr Bool is_parsable_at layer in
    let s' : spelled (roll-Expr layer) ≡ spelled_at (map-Expr Expr Spelling spelled layer) = fold-roll-Expr Spelling spelled_at layer in
    subst (λ (z : Expr). IsSpelled (spelled (roll-Expr layer)) z) (sym r) (subst (λ (y : Spelling). IsSpelled y x) (sym s') (h (sym f' ∙ f)))

items_derive : {S : Type 0} (ex : S → Expr) (pr : (y : S) → Claim (ex y)) (x : S) (xs : List S) → all_of (map is_parsable (map ex (x ∷ xs))) ≡ true
    → (d : ℕ) → deepest (map spelled (map ex (x ∷ xs))) ≤ d → DerivesWithin sql (suc d) (list (nested Whole)) (token_lexemes (with_commas (λ z. z.tokens) (map spelled (map ex (x ∷ xs))))) (map ex (x ∷ xs))
items_derive {S} ex pr x xs a d b =
    let sp : S → Spelling = λ y. spelled (ex y) in
    let ss : map spelled (map ex (x ∷ xs)) ≡ map sp (x ∷ xs) = map_map ex spelled (x ∷ xs) in
    subst (λ (z : List Spelling). DerivesWithin sql (suc d) (list (nested Whole)) (token_lexemes (with_commas (λ y. y.tokens) z)) (map ex (x ∷ xs))) (sym ss)
    (list_derives sp ex (λ y. is_parsable (ex y)) d (λ y o l. down_to (sp y).rank 0 d (token_lexemes (sp y).tokens) (ex y) (omega arith) (pr y o d l)) x xs
    (subst (λ (z : List Bool). all_of z ≡ true) (map_map ex is_parsable (x ∷ xs)) a) (subst (λ (z : List Spelling). deepest z ≤ d) ss b))

step : {S : Type 0} (ex : S → Expr) (pr : (y : S) → Claim (ex y)) (y : Expr-F S) → Claim (roll-Expr (map-Expr S Expr ex y))
step ex pr (Expr-F.Literal v) = carry (Expr-F.Literal v) (e.Literal v) (e.rolls-Literal v) (literal_spelled v)
step ex pr (Expr-F.Named table n) = carry (Expr-F.Named table n) (e.Named table n) (e.rolls-Named table n) (named_spelled table n)
step ex pr (Expr-F.Placed source column) = carry (Expr-F.Placed source column) (e.Placed source column) (e.rolls-Placed source column) (λ f. let z : false ≡ true = f in cc)
step ex pr (Expr-F.Unary op a) = carry (Expr-F.Unary op (ex a)) (e.Unary op (ex a)) (e.rolls-Unary op (ex a)) (λ f. unary_spelled op (spelled (ex a)) (ex a) (pr a f))
step ex pr (Expr-F.Binary op l r) = carry (Expr-F.Binary op (ex l) (ex r)) (e.Binary op (ex l) (ex r)) (e.rolls-Binary op (ex l) (ex r))
    (λ f. let both = and_true (is_parsable (ex l)) _ f in binary_spelled op (spelled (ex l)) (spelled (ex r)) (ex l) (ex r) (pr l both.0) (pr r both.1))
step ex pr (Expr-F.IsNull a n) = carry (Expr-F.IsNull (ex a) n) (e.IsNull (ex a) n) (e.rolls-IsNull (ex a) n) (λ f. is_null_spelled n (spelled (ex a)) (ex a) (pr a f))
step ex pr (Expr-F.Between a l h n) = carry (Expr-F.Between (ex a) (ex l) (ex h) n) (e.Between (ex a) (ex l) (ex h) n) (e.rolls-Between (ex a) (ex l) (ex h) n)
    (λ f. let all = and_true (is_parsable (ex a)) _ f in let both = and_true (is_parsable (ex l)) _ all.1 in
    between_spelled n (spelled (ex a)) (spelled (ex l)) (spelled (ex h)) (ex a) (ex l) (ex h) (pr a all.0) (pr l both.0) (pr h both.1))
step ex pr (Expr-F.InList a [] n) = carry (Expr-F.InList (ex a) [] n) (e.InList (ex a) [] n) (e.rolls-InList (ex a) [] n) (λ f. let both = and_true (is_parsable (ex a)) _ f in let z : false ≡ true = both.1 in cc)
step ex pr (Expr-F.InList a (x ∷ xs) n) = carry (Expr-F.InList (ex a) (map ex (x ∷ xs)) n) (e.InList (ex a) (map ex (x ∷ xs)) n) (e.rolls-InList (ex a) (map ex (x ∷ xs)) n)
    (λ f. let both = and_true (is_parsable (ex a)) _ f in
    in_list_spelled n (spelled (ex a)) (ex a) (map spelled (map ex (x ∷ xs))) (map ex (x ∷ xs)) (pr a both.0) (items_derive ex pr x xs both.1))
step ex pr (Expr-F.Aggregate kind None) = carry (Expr-F.Aggregate kind None) (e.Aggregate kind None) (e.rolls-Aggregate kind None) (count_all kind)
  where
    count_all : (kind : AggregateKind) → is_parsable_aggregate kind None ≡ true → IsSpelled (spelled_at (Expr-F.Aggregate kind None)) (e.Aggregate kind None)
    count_all aggregate.Count f = count_all_spelled
    count_all aggregate.Sum f = let z : false ≡ true = f in cc
    count_all aggregate.Min f = let z : false ≡ true = f in cc
    count_all aggregate.Max f = let z : false ≡ true = f in cc
step ex pr (Expr-F.Aggregate kind (Some a)) = carry (Expr-F.Aggregate kind (Some (ex a))) (e.Aggregate kind (Some (ex a))) (e.rolls-Aggregate kind (Some (ex a)))
    (λ f. aggregate_spelled kind (spelled (ex a)) (ex a) (pr a (parsable_some kind (is_parsable (ex a)) f)))
  where
    parsable_some : (kind : AggregateKind) (b : Bool) → is_parsable_aggregate kind (Some b) ≡ true → b ≡ true
    parsable_some aggregate.Count b f = f
    parsable_some aggregate.Sum b f = f
    parsable_some aggregate.Min b f = f
    parsable_some aggregate.Max b f = f

-- Where there are enough levels, what spells a tree is derived, and gives that tree.
pub spelled_derives : (x : Expr) → is_parsable x ≡ true → IsSpelled (spelled x) x
spelled_derives = ind-Expr (λ x. is_parsable x ≡ true → IsSpelled (spelled x) x) (λ x y q. subst (λ (z : Expr-F Expr). Claim (roll-Expr z)) q (step (λ z. z.0) (λ z. z.1) y))
