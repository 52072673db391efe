-- A derived expression can be spelled, with no more levels than its own tokens open.
use Rattle.std.proofs.Common.{◌≡◌, ◌==◌, inl, inr, ℕ, ℤ, pos, zero, suc, ◌+◌, ◌≤◌, max, Bool, true, false, ◌&&◌, nat_lt, if◌then◌else◌, List, [], ◌∷◌, ◌++◌, map, fold, Option, Some, None, option_map, refl, sym, ◌∙◌, ap, subst, arith, ◌^◌}
use Rattle.std.proofs.lemmas.Bool.{and_parts}
use Rattle.std.proofs.lemmas.Bool.Decides.{nat_tests}
use Rattle.std.specs.List.{list_all}
use Rattle.wat_word.specs.Words.{is_name}
use Rattle.wat_value.specs.declared.value.Value.TheVariants as value
use Rattle.wat_ast.specs.declared.expression.AggregateKind.{AggregateKind}
use Rattle.wat_ast.specs.declared.expression.AggregateKind.TheVariants as aggregate
use Rattle.wat_ast.specs.declared.expression.UnaryOp.TheVariants as unary
use Rattle.wat_ast.specs.declared.expression.BinaryOp.{BinaryOp}
use Rattle.wat_ast.specs.declared.expression.BinaryOp.TheVariants as binary
use Rattle.wat_ast.specs.declared.expression.Expr.{Expr}
use Rattle.wat_ast.specs.declared.expression.Expr.TheVariants as e
use Rattle.wat_grammar.specs.Phrase.{nested, seq, or, map as map_phrase, Repeats, DerivesWithin, DerivesInside}
use Rattle.wat_syntax.specs.declared.kind.Kind.TheVariants as k
use Rattle.wat_syntax.specs.declared.nest.Nest.{Nest}
use Rattle.wat_syntax.specs.declared.nest.Nest.TheVariants.{Whole, Negation, Factor}
use Rattle.wat_syntax.specs.Lexeme.{Lexeme}
use Rattle.wat_syntax.specs.Sql.{Sql, sql, word as word_phrase, before, optional, Change, operation, chain, list, after, in_parentheses, some_name, among, is_null, between, ranged, column, parenthesized, count, count_argument, aggregated, primary, expression, conjunction, negation, predicate, sum, term, factor, test, compared, comparison, expression_operator, conjunction_operator, sum_operator, term_operator}
use Rattle.wat_spell.specs.Spelling.{Spelling, spelled, placed, enclosed, deepest, operator_rank, left_rank, right_rank, binary_of, unary_of, is_null_of, between_of, in_list_of, aggregate_of, literal, atom}
use Rattle.wat_spell.proofs.Spelled.{spelled_literal, spelled_named, spelled_unary, spelled_binary, spelled_is_null, spelled_between, spelled_in_list, spelled_aggregate}
use Rattle.wat_spell_laws.specs.Derived.{is_parsable, is_parsable_value, is_parsable_table, all_of}
use Rattle.wat_spell_laws.proofs.Parsable.{parsable_literal, parsable_named, parsable_unary, parsable_binary, parsable_is_null, parsable_between, parsable_in_list, parsable_count, parsable_aggregate_of}

-- whether the number of a token is at most 2 ^ 63 - 1
abbrev pub small_number : Option ℕ → Bool
small_number None = true
small_number (Some n) = nat_lt n (2 ^ 63)

abbrev pub is_small : Lexeme → Bool
is_small x = small_number x.number

abbrev pub AreSmall : List Lexeme → Type 0
AreSmall ts = list_all is_small ts ≡ true

small_parts : (us vs : List Lexeme) → AreSmall (us ++ vs) → AreSmall us × AreSmall vs
small_parts [] vs h = (refl, h)
small_parts (u ∷ us) vs h =
    let both = and_parts (is_small u) (list_all is_small (us ++ vs)) h in
    let rest = small_parts us vs both.1 in
    (ap (λ b. b && list_all is_small us) both.0 ∙ rest.0, rest.1)

pub parts : (ts us vs : List Lexeme) → ts ≡ us ++ vs → AreSmall ts → AreSmall us × AreSmall vs
parts ts us vs q h = small_parts us vs (subst (λ (z : List Lexeme). AreSmall z) q h)

-- At its place it opens no more levels, and some text gives it.
pub record IsLow (place d : ℕ) (x : Expr) : Type 0 where
  pub levels : (placed place (spelled x)).levels ≤ d
  pub fit : is_parsable x ≡ true

-- ---- places

pub placed_low : (place : ℕ) (y : Spelling) → ((placed place y).levels ≤ y.levels + 1) × (y.levels ≤ (placed place y).levels)
placed_low place y = decide (nat_lt y.rank place)
  where
    decide : (b : Bool) → ((if b then enclosed y else y).levels ≤ y.levels + 1) × (y.levels ≤ (if b then enclosed y else y).levels)
    decide true = (omega arith, omega arith)
    decide false = (omega arith, omega arith)

stays : (place : ℕ) (y : Spelling) → place ≤ y.rank → (placed place y).levels ≡ y.levels
stays place y h = let f : nat_lt y.rank place ≡ false = grind (arith, nat_tests) in ap (λ (b : Bool). (if b then enclosed y else y).levels) f

looser : (m n : ℕ) (y : Spelling) → m ≤ n → (placed m y).levels ≤ (placed n y).levels
looser m n y h = decide (nat_lt y.rank m) refl
  where
    decide : (b : Bool) → nat_lt y.rank m ≡ b → (placed m y).levels ≤ (placed n y).levels
    decide true q =
        let p : nat_lt y.rank n ≡ true = grind (arith, nat_tests) in
        let a : (placed m y).levels ≡ y.levels + 1 = ap (λ (b : Bool). (if b then enclosed y else y).levels) q in
        let b : (placed n y).levels ≡ y.levels + 1 = ap (λ (b : Bool). (if b then enclosed y else y).levels) p in
        omega arith
    decide false q =
        let a : (placed m y).levels ≡ y.levels = ap (λ (b : Bool). (if b then enclosed y else y).levels) q in
        omega (arith, placed_low n y)

pub loosened : (m n d : ℕ) (x : Expr) → m ≤ n → IsLow n d x → IsLow m d x
loosened m n d x h low = record { levels = omega (arith, looser m n (spelled x) h, low.levels); fit = low.fit }

-- an expression that is spelled so, and binds tightly enough
low_by : (place d : ℕ) (x x' : Expr) (y : Spelling) → x ≡ x' → spelled x' ≡ y → place ≤ y.rank → y.levels ≤ d → is_parsable x' ≡ true → IsLow place d x
low_by place d x x' y q p r l f =
    let here : IsLow place d x' = record {
      levels =
          let t : (placed place (spelled x')).levels ≡ y.levels = ap (λ (z : Spelling). (placed place z).levels) p ∙ stays place y r in
          omega (arith, t);
      fit = f;
    } in
    subst (λ (z : Expr). IsLow place d z) (sym q) here

-- ---- inside a level

abbrev pub place_of : Nest → ℕ
place_of Whole = 0
place_of Negation = 2
place_of Factor = 6

abbrev Inner : ℕ → Type 0
Inner d = (n : Nest) (ts : List Lexeme) (x : Expr) → DerivesInside sql d n ts x → AreSmall ts → ((placed (place_of n) (spelled x)).levels + 1 ≤ d) × (is_parsable x ≡ true)

-- in parentheses
pub within_parentheses : {A : Type 0} (d : ℕ) (p : Sql A) (ts : List Lexeme) (a : A) → DerivesWithin sql d (in_parentheses p) ts a → AreSmall ts
    → (us : List Lexeme) × DerivesWithin sql d p us a × AreSmall us
within_parentheses {A} d p ts a h g =
    let open_ = h.1 in
    let g1 = (parts ts open_.0 open_.1 open_.2 g).1 in
    let inner = open_.4 in
    let close = inner.1 in
    let g2 = (parts open_.1 close.0 close.1 close.2 g1).0 in
    let q : a ≡ inner.0.0 = h.2 ∙ inner.2 in
    (close.0, subst (λ (z : A). DerivesWithin sql d p close.0 z) (sym q) close.3, g2)

-- behind a word
pub behind_word : {A : Type 0} (d : ℕ) (kind : _) (p : Sql A) (ts : List Lexeme) (a : A) → DerivesWithin sql d (after kind p) ts a → AreSmall ts
    → (us : List Lexeme) × DerivesWithin sql d p us a × AreSmall us
behind_word {A} d kind p ts a h g =
    let both = h.1 in
    (both.1, subst (λ (z : A). DerivesWithin sql d p both.1 z) (sym h.2) both.4, (parts ts both.0 both.1 both.2 g).1)

-- ---- what stands by itself

pub is_some_name : (t n : List ℕ) → some_name t ≡ Some n → is_name n ≡ true
is_some_name t n h = decide (is_name t) refl h
  where
    decide : (b : Bool) → is_name t ≡ b → (if b then Some t else None) ≡ Some n → is_name n ≡ true
    decide true q r = let s : t ≡ n = cc in ap is_name (sym s) ∙ q
    decide false q r = cc

number_low : (d : ℕ) (l : Lexeme) (n : ℤ) (x : Expr) (o : Option ℕ) → l.number ≡ o → option_map pos o ≡ Some n → is_small l ≡ true → x ≡ e.Literal (value.Int n) → IsLow 7 d x
number_low d l n x None p q g r = cc
number_low d l n x (Some m) p q g r =
    let same : pos m ≡ n = cc in
    let small : is_parsable_value (value.Int (pos m)) ≡ true = ap (λ (o : Option ℕ). small_number o) (sym p) ∙ g in
    low_by 7 d x (e.Literal (value.Int (pos m))) (literal (value.Int (pos m))) (r ∙ ap (λ (z : ℤ). e.Literal (value.Int z)) (sym same)) (spelled_literal (value.Int (pos m)))
    (omega arith) (omega arith) (parsable_literal (value.Int (pos m)) ∙ small)

-- a column, by its names
pub record IsColumn (x : Expr) : Type 0 where
  pub table : Option (List ℕ)
  pub column : List ℕ
  pub is : x ≡ e.Named table column
  pub fit : (is_parsable_table table && is_name column) ≡ true

pub column_shape : (d : ℕ) (ts : List Lexeme) (x : Expr) → DerivesWithin sql d column ts x → IsColumn x
unfolding column
column_shape d ts x ((n, None), (us, vs, q, hn, rest), r) = record { table = None; column = n; is = r; fit = is_some_name hn.0.text n hn.3 }
column_shape d ts x ((t, Some n), (us, vs, q, ht, inl rest), r) =
    let same : n ≡ rest.0 = cc in
    let f : is_name t ≡ true = is_some_name ht.0.text t ht.3 in
    let name_there = rest.1.1.4 in
    let g : is_name rest.1.0.1 ≡ true = is_some_name name_there.0.text rest.1.0.1 name_there.3 in
    record { table = Some t; column = n; is = r; fit = ap (λ b. b && is_name n) f ∙ ap is_name (same ∙ rest.1.2) ∙ g }
column_shape d ts x ((t, Some n), (us, vs, q, ht, inr rest), r) = let z : Some n ≡ None = rest.1 in cc

column_low : (d : ℕ) (ts : List Lexeme) (x : Expr) → DerivesWithin sql d column ts x → IsLow 7 d x
column_low d ts x h =
    let c = column_shape d ts x h in
    low_by 7 d x (e.Named c.table c.column) (atom (Rattle.wat_spell.specs.Spelling.column c.table c.column)) c.is (spelled_named c.table c.column) (omega arith) (omega arith) (parsable_named c.table c.column ∙ c.fit)

-- What is in parentheses takes a level, and may stand anywhere.
enclosed_low : (place d : ℕ) (x : Expr) → ((placed 0 (spelled x)).levels + 1 ≤ d) × (is_parsable x ≡ true) → IsLow place d x
enclosed_low place d x h = record { levels = omega (arith, placed_low place (spelled x), placed_low 0 (spelled x), h.0); fit = h.1 }

parenthesized_low : (d : ℕ) → Inner d → (ts : List Lexeme) (x : Expr) → DerivesWithin sql d parenthesized ts x → AreSmall ts → IsLow 7 d x
unfolding parenthesized
parenthesized_low d inner ts x h g =
    let there = within_parentheses d (nested Whole) ts x h.1 g in
    enclosed_low 7 d x (inner Whole there.0 x there.1 there.2)

argument_low : (d : ℕ) (kind : AggregateKind) (x a : Expr) → x ≡ e.Aggregate kind (Some a) → ((placed 0 (spelled a)).levels + 1 ≤ d) × (is_parsable a ≡ true) → IsLow 7 d x
argument_low d kind x a q h =
    low_by 7 d x (e.Aggregate kind (Some a)) (aggregate_of kind (Some (spelled a))) q (spelled_aggregate kind (Some a)) (omega arith) (omega (arith, placed_low 0 (spelled a), h.0)) (parsable_aggregate_of kind a ∙ h.1)

-- ---- the phrases behind a word

abbrev minus_of : Sql Expr
minus_of = map_phrase (e.Unary unary.Minus) (nested Factor)

abbrev not_of : Sql Expr
not_of = map_phrase (e.Unary unary.Not) (nested Negation)

abbrev null_of : Sql Change
null_of = map_phrase (λ negated arg. e.IsNull arg negated) (before (optional k.Not) k.Null)

abbrev bounds_of : Sql (Bool → Change)
bounds_of = map_phrase (λ x negated arg. e.Between arg x.0 x.1 negated) (seq sum (after k.And sum))

abbrev items_of : Sql (Bool → Change)
items_of = map_phrase (λ xs negated arg. e.InList arg xs negated) (in_parentheses (list (nested Whole)))

positive : (d : ℕ) → (d == 0) ≡ false → 1 ≤ d
positive d h = grind (arith, nat_tests)

count_low : (d : ℕ) → Inner d → (ts : List Lexeme) (x : Expr) → DerivesWithin sql d count ts x → AreSmall ts → IsLow 7 d x
unfolding count count_argument
count_low d inner ts x h g = decide h.1.0 h.1.2 (within_parentheses d count_argument behind.0 h.1.0 behind.1 behind.2)
  where
    behind : (us : List Lexeme) × DerivesWithin sql d (in_parentheses count_argument) us h.1.0 × AreSmall us
    behind = behind_word d k.Count (in_parentheses count_argument) ts h.1.0 h.1.1 g

    decide : (arg : Option Expr) → x ≡ e.Aggregate aggregate.Count arg → (vs : List Lexeme) × DerivesWithin sql d count_argument vs arg × AreSmall vs → IsLow 7 d x
    decide arg q (vs, inl star, tiny) =
        low_by 7 d x (e.Aggregate aggregate.Count None) (aggregate_of aggregate.Count None) (q ∙ ap (e.Aggregate aggregate.Count) star.2) (spelled_aggregate aggregate.Count None) (omega arith) (positive d h.0) parsable_count
    decide arg q (vs, inr some, tiny) = argument_low d aggregate.Count x some.0 (q ∙ ap (e.Aggregate aggregate.Count) some.2) (inner Whole vs some.0 some.1 tiny)

aggregated_low : (d : ℕ) → Inner d → (ts : List Lexeme) (x : Expr) → DerivesWithin sql d aggregated ts x → AreSmall ts → IsLow 7 d x
unfolding aggregated
aggregated_low d inner ts x h g =
    let both = h.1 in
    let pair = both.0 in
    let split = both.1 in
    let small = (parts ts split.0 split.1 split.2 g).1 in
    let there = within_parentheses d (nested Whole) split.1 pair.1 split.4 small in
    argument_low d pair.0 x pair.1 both.2 (inner Whole there.0 pair.1 there.1 there.2)

primary_low : (d : ℕ) → Inner d → (ts : List Lexeme) (x : Expr) → DerivesWithin sql d primary ts x → AreSmall ts → IsLow 7 d x
unfolding primary
primary_low d inner ts x (inl (n, (l, q, kind, there), r)) g =
    let one : is_small l ≡ true = (and_parts (is_small l) true (subst (λ (z : List Lexeme). AreSmall z) q g)).0 in
    number_low d l n x l.number refl there one r
primary_low d inner ts x (inr (inl (t, there, r))) g = low_by 7 d x (e.Literal (value.Text t)) (literal (value.Text t)) r (spelled_literal (value.Text t)) (omega arith) (omega arith) (parsable_literal (value.Text t))
primary_low d inner ts x (inr (inr (inl (t, there, r)))) g = low_by 7 d x (e.Literal value.Null) (literal value.Null) r (spelled_literal value.Null) (omega arith) (omega arith) (parsable_literal value.Null)
primary_low d inner ts x (inr (inr (inr (inl h)))) g = column_low d ts x h
primary_low d inner ts x (inr (inr (inr (inr (inl h))))) g = parenthesized_low d inner ts x h g
primary_low d inner ts x (inr (inr (inr (inr (inr (inl h)))))) g = count_low d inner ts x h g
primary_low d inner ts x (inr (inr (inr (inr (inr (inr h)))))) g = aggregated_low d inner ts x h g

-- ---- operators

factor_low : (d : ℕ) → Inner d → (ts : List Lexeme) (x : Expr) → DerivesWithin sql d factor ts x → AreSmall ts → IsLow 6 d x
unfolding factor
factor_low d inner ts x (inl h) g =
    let there = behind_word d k.Minus minus_of ts x h.1 g in
    let made = there.1 in
    let arg = inner Factor there.0 made.0 made.1 there.2 in
    low_by 6 d x (e.Unary unary.Minus made.0) (unary_of unary.Minus (spelled made.0)) made.2 (spelled_unary unary.Minus made.0) (omega arith) arg.0 (parsable_unary unary.Minus made.0 ∙ arg.1)
factor_low d inner ts x (inr h) g = loosened 6 7 d x (omega arith) (primary_low d inner ts x h g)

both_true : (a b : Bool) → a ≡ true → b ≡ true → (a && b) ≡ true
both_true a b p q = ap (λ z. z && b) p ∙ q

binary_low : (n d : ℕ) (o : BinaryOp) (l r : Expr) → operator_rank o ≡ n → IsLow (left_rank o) d l → IsLow (n + 1) d r → IsLow n d (e.Binary o l r)
binary_low n d o l r q hl hr =
    let right : (placed (operator_rank o + 1) (spelled r)).levels ≤ d = subst (λ (m : ℕ). (placed (m + 1) (spelled r)).levels ≤ d) (sym q) hr.levels in
    let most : max (placed (left_rank o) (spelled l)).levels (placed (operator_rank o + 1) (spelled r)).levels ≤ d = omega (arith, hl.levels, right) in
    low_by n d (e.Binary o l r) (e.Binary o l r) (binary_of o (spelled l) (spelled r)) refl (spelled_binary o l r) (omega (arith, q)) most (parsable_binary o l r ∙ both_true (is_parsable l) (is_parsable r) hl.fit hr.fit)

-- an operator of a chain of this rank
abbrev Chains : ℕ → ℕ → Sql BinaryOp → Type 0
Chains n d op = (ts : List Lexeme) (o : BinaryOp) → DerivesWithin sql d op ts o → (operator_rank o ≡ n) × (left_rank o ≡ n)

module _ (n d : ℕ) (op : Sql BinaryOp) (p : Sql Expr) (ops : Chains n d op) (operand : (ts : List Lexeme) (x : Expr) → DerivesWithin sql d p ts x → AreSmall ts → IsLow (n + 1) d x) where
  operations_low : (left : Expr) (xs : List (BinaryOp × Expr)) (ts : List Lexeme) → IsLow n d left
      → Repeats (λ us a. (us' : List Lexeme) × (vs' : List Lexeme) × (us ≡ us' ++ vs') × DerivesWithin sql d op us' a.0 × DerivesWithin sql d p vs' a.1) ts xs → AreSmall ts → IsLow n d (fold operation left xs)
  operations_low left [] ts low r g = low
  operations_low left (x ∷ xs) ts low r g =
      let here = parts ts r.0 r.1 r.2 g in
      let one = r.3 in
      let rank = ops one.0 x.0 one.3 in
      let right = operand one.1 x.1 one.4 (parts r.0 one.0 one.1 one.2 here.0).1 in
      operations_low (e.Binary x.0 left x.1) xs r.1 (binary_low n d x.0 left x.1 rank.0 (subst (λ (m : ℕ). IsLow m d left) (sym rank.1) low) right) r.4 here.1

  chain_low : (ts : List Lexeme) (x : Expr) → DerivesWithin sql d (chain op p) ts x → AreSmall ts → IsLow n d x
  chain_low ts x h g =
      let split = h.1 in
      let small = parts ts split.0 split.1 split.2 g in
      let first = loosened n (n + 1) d h.0.0 (omega arith) (operand split.0 h.0.0 split.3 small.0) in
      subst (λ (z : Expr). IsLow n d z) (sym h.2) (operations_low h.0.0 h.0.1 split.1 first split.4 small.1)

ranked : (n : ℕ) (o o' : BinaryOp) → o ≡ o' → operator_rank o' ≡ n → left_rank o' ≡ n → (operator_rank o ≡ n) × (left_rank o ≡ n)
ranked n o o' q r l = (ap operator_rank q ∙ r, ap left_rank q ∙ l)

term_ops : (d : ℕ) → Chains 5 d term_operator
unfolding term_operator
term_ops d ts o (inl h) = ranked 5 o binary.Multiply h.2 refl refl
term_ops d ts o (inr h) = ranked 5 o binary.Divide h.2 refl refl

sum_ops : (d : ℕ) → Chains 4 d sum_operator
unfolding sum_operator
sum_ops d ts o (inl h) = ranked 4 o binary.Add h.2 refl refl
sum_ops d ts o (inr (inl h)) = ranked 4 o binary.Subtract h.2 refl refl
sum_ops d ts o (inr (inr h)) = ranked 4 o binary.Concat h.2 refl refl

and_ops : (d : ℕ) → Chains 1 d conjunction_operator
unfolding conjunction_operator
and_ops d ts o h = ranked 1 o binary.And h.2 refl refl

or_ops : (d : ℕ) → Chains 0 d expression_operator
unfolding expression_operator
or_ops d ts o h = ranked 0 o binary.Or h.2 refl refl

term_low : (d : ℕ) → Inner d → (ts : List Lexeme) (x : Expr) → DerivesWithin sql d term ts x → AreSmall ts → IsLow 5 d x
unfolding term
term_low d inner = chain_low 5 d term_operator factor (term_ops d) (factor_low d inner)

sum_low : (d : ℕ) → Inner d → (ts : List Lexeme) (x : Expr) → DerivesWithin sql d sum ts x → AreSmall ts → IsLow 4 d x
unfolding sum
sum_low d inner = chain_low 4 d sum_operator term (sum_ops d) (term_low d inner)

-- ---- tests

comparison_rank : (d : ℕ) (ts : List Lexeme) (o : BinaryOp) → DerivesWithin sql d comparison ts o → (operator_rank o ≡ 3) × (left_rank o ≡ 4)
unfolding comparison
comparison_rank d ts o (inl h) = (ap operator_rank h.2, ap left_rank h.2)
comparison_rank d ts o (inr (inl h)) = (ap operator_rank h.2, ap left_rank h.2)
comparison_rank d ts o (inr (inr (inl h))) = (ap operator_rank h.2, ap left_rank h.2)
comparison_rank d ts o (inr (inr (inr (inl h)))) = (ap operator_rank h.2, ap left_rank h.2)
comparison_rank d ts o (inr (inr (inr (inr (inl h))))) = (ap operator_rank h.2, ap left_rank h.2)
comparison_rank d ts o (inr (inr (inr (inr (inr h))))) = (ap operator_rank h.2, ap left_rank h.2)

-- what makes a test of a sum
abbrev Tests : ℕ → Change → Type 0
Tests d change = (l : Expr) → IsLow 4 d l → IsLow 3 d (change l)

tests_same : (d : ℕ) (change change' : Change) → change ≡ change' → Tests d change' → Tests d change
tests_same d change change' q h = subst (λ (c : Change). Tests d c) (sym q) h

compared_low : (d : ℕ) → Inner d → (ts : List Lexeme) (change : Change) → DerivesWithin sql d compared ts change → AreSmall ts → Tests d change
unfolding compared
compared_low d inner ts change h g =
    let split = h.1 in
    let rank = comparison_rank d split.0 h.0.0 split.3 in
    let right = sum_low d inner split.1 h.0.1 split.4 (parts ts split.0 split.1 split.2 g).1 in
    tests_same d change (λ arg. e.Binary h.0.0 arg h.0.1) h.2
    (λ l low. binary_low 3 d h.0.0 l h.0.1 rank.0 (subst (λ (m : ℕ). IsLow m d l) (sym rank.1) low) right)

is_null_low : (d : ℕ) (ts : List Lexeme) (change : Change) → DerivesWithin sql d is_null ts change → AreSmall ts → Tests d change
unfolding is_null
is_null_low d ts change h g =
    let there = behind_word d k.Is null_of ts change h g in
    let made = there.1 in
    tests_same d change (λ arg. e.IsNull arg made.0) made.2
    (λ l low. low_by 3 d (e.IsNull l made.0) (e.IsNull l made.0) (is_null_of (spelled l) made.0) refl (spelled_is_null l made.0) (omega arith) low.levels (parsable_is_null l made.0 ∙ low.fit))

-- what makes a test of a sum, once it is known whether NOT stands before
abbrev Ranges : ℕ → (Bool → Change) → Type 0
Ranges d change = (negated : Bool) → Tests d (change negated)

between_low : (d : ℕ) → Inner d → (ts : List Lexeme) (change : Bool → Change) → DerivesWithin sql d between ts change → AreSmall ts → Ranges d change
unfolding between
between_low d inner ts change h g =
    let there = behind_word d k.Between bounds_of ts change h g in
    let made = there.1 in
    let split = made.1 in
    let small = parts there.0 split.0 split.1 split.2 there.2 in
    let low = sum_low d inner split.0 made.0.0 split.3 small.0 in
    let behind = behind_word d k.And sum split.1 made.0.1 split.4 small.1 in
    let high = sum_low d inner behind.0 made.0.1 behind.1 behind.2 in
    let build : Bool → Change = λ n arg. e.Between arg made.0.0 made.0.1 n in
    subst (λ (c : Bool → Change). Ranges d c) (sym made.2)
    (λ n l hl. low_by 3 d (build n l) (build n l) (between_of (spelled l) (spelled made.0.0) (spelled made.0.1) n) refl (spelled_between l made.0.0 made.0.1 n) (omega arith)
    (omega (arith, hl.levels, low.levels, high.levels))
    (parsable_between l made.0.0 made.0.1 n ∙ both_true (is_parsable l) _ hl.fit (both_true (is_parsable made.0.0) (is_parsable made.0.1) low.fit high.fit)))

-- ---- lists

record AreLow (d : ℕ) (x : Expr) (xs : List Expr) : Type 0 where
  pub levels : deepest (map spelled (x ∷ xs)) + 1 ≤ d
  pub fit : all_of (map is_parsable (x ∷ xs)) ≡ true

more_low : (d : ℕ) → Inner d → (x : Expr) (xs : List Expr) (ts : List Lexeme) → ((placed 0 (spelled x)).levels + 1 ≤ d) × (is_parsable x ≡ true)
    → Repeats (DerivesWithin sql d (after k.Comma (nested Whole))) ts xs → AreSmall ts → AreLow d x xs
more_low d inner x [] ts h r g = record { levels = omega (arith, placed_low 0 (spelled x), h.0); fit = h.1 }
more_low d inner x (y ∷ ys) ts h r g =
    let small = parts ts r.0 r.1 r.2 g in
    let there = behind_word d k.Comma (nested Whole) r.0 y r.3 small.0 in
    let rest = more_low d inner y ys r.1 (inner Whole there.0 y there.1 there.2) r.4 small.1 in
    record { levels = omega (arith, placed_low 0 (spelled x), h.0, rest.levels); fit = both_true (is_parsable x) _ h.1 rest.fit }

among_low : (d : ℕ) → Inner d → (ts : List Lexeme) (change : Bool → Change) → DerivesWithin sql d among ts change → AreSmall ts → Ranges d change
unfolding among
among_low d inner ts change h g =
    let there = behind_word d k.In items_of ts change h.1 g in
    let made = there.1 in
    let within = within_parentheses d (list (nested Whole)) there.0 made.0 made.1 there.2 in
    let items = within.1 in
    let split = items.1 in
    let small = parts within.0 split.0 split.1 split.2 within.2 in
    let all = more_low d inner items.0.0 items.0.1 split.1 (inner Whole split.0 items.0.0 split.3 small.0) split.4 small.1 in
    let xs : List Expr = items.0.0 ∷ items.0.1 in
    let build : Bool → Change = λ n arg. e.InList arg xs n in
    let make : List Expr → Bool → Change = λ ys n arg. e.InList arg ys n in
    let same : change ≡ build = made.2 ∙ ap make items.2 in
    subst (λ (c : Bool → Change). Ranges d c) (sym same)
    (λ n l hl. low_by 3 d (build n l) (build n l) (in_list_of (spelled l) (map spelled xs) n) refl (spelled_in_list l xs n) (omega arith)
    (omega (arith, hl.levels, all.levels)) (parsable_in_list l xs n ∙ both_true (is_parsable l) _ hl.fit all.fit))

ranged_low : (d : ℕ) → Inner d → (negated : Bool) (ts : List Lexeme) (change : Change) → DerivesWithin sql d (ranged negated) ts change → AreSmall ts → Tests d change
unfolding ranged
ranged_low d inner negated ts change (c, inl h, q) g = tests_same d change (c negated) q (between_low d inner ts c h g negated)
ranged_low d inner negated ts change (c, inr h, q) g = tests_same d change (c negated) q (among_low d inner ts c h g negated)

test_low : (d : ℕ) → Inner d → (ts : List Lexeme) (change : Change) → DerivesWithin sql d test ts change → AreSmall ts → Tests d change
unfolding test
test_low d inner ts change (inl h) g = compared_low d inner ts change h g
test_low d inner ts change (inr (inl h)) g = is_null_low d ts change h g
test_low d inner ts change (inr (inr (inl h))) g = let there = behind_word d k.Not (ranged true) ts change h g in ranged_low d inner true there.0 change there.1 there.2
test_low d inner ts change (inr (inr (inr (inl h)))) g = ranged_low d inner false ts change h g
test_low d inner ts change (inr (inr (inr (inr h)))) g = tests_same d change (λ arg. arg) h.1 (λ l low. loosened 3 4 d l (omega arith) low)

-- ---- conditions

predicate_low : (d : ℕ) → Inner d → (ts : List Lexeme) (x : Expr) → DerivesWithin sql d predicate ts x → AreSmall ts → IsLow 3 d x
unfolding predicate
predicate_low d inner ts x h g =
    let split = h.1 in
    let small = parts ts split.0 split.1 split.2 g in
    subst (λ (z : Expr). IsLow 3 d z) (sym h.2) (test_low d inner split.1 h.0.1 split.4 small.1 h.0.0 (sum_low d inner split.0 h.0.0 split.3 small.0))

negation_low : (d : ℕ) → Inner d → (ts : List Lexeme) (x : Expr) → DerivesWithin sql d negation ts x → AreSmall ts → IsLow 2 d x
unfolding negation
negation_low d inner ts x (inl h) g =
    let there = behind_word d k.Not not_of ts x h.1 g in
    let made = there.1 in
    let arg = inner Negation there.0 made.0 made.1 there.2 in
    low_by 2 d x (e.Unary unary.Not made.0) (unary_of unary.Not (spelled made.0)) made.2 (spelled_unary unary.Not made.0) (omega arith) arg.0 (parsable_unary unary.Not made.0 ∙ arg.1)
negation_low d inner ts x (inr h) g = loosened 2 3 d x (omega arith) (predicate_low d inner ts x h g)

conjunction_low : (d : ℕ) → Inner d → (ts : List Lexeme) (x : Expr) → DerivesWithin sql d conjunction ts x → AreSmall ts → IsLow 1 d x
unfolding conjunction
conjunction_low d inner = chain_low 1 d conjunction_operator negation (and_ops d) (negation_low d inner)

whole_low : (d : ℕ) → Inner d → (ts : List Lexeme) (x : Expr) → DerivesWithin sql d expression ts x → AreSmall ts → IsLow 0 d x
unfolding expression
whole_low d inner = chain_low 0 d expression_operator conjunction (or_ops d) (conjunction_low d inner)

inside : (d : ℕ) → Inner d
inside zero n ts x h g = absurd h
inside (suc d) Whole ts x h g = let low = whole_low d (inside d) ts x h g in (omega (arith, low.levels), low.fit)
inside (suc d) Negation ts x h g = let low = negation_low d (inside d) ts x h g in (omega (arith, low.levels), low.fit)
inside (suc d) Factor ts x h g = let low = factor_low d (inside d) ts x h g in (omega (arith, low.levels), low.fit)

pub expression_low : (d : ℕ) (ts : List Lexeme) (x : Expr) → DerivesWithin sql d expression ts x → AreSmall ts → IsLow 0 d x
expression_low d = whole_low d (inside d)
