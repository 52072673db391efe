-- WHERE k = V AND .., as it is read: its columns are found, it is a condition, and it is true of the rows with that key alone.
use Rattle.std.proofs.Common.{◌≡◌, ℕ, zero, suc, Bool, true, false, not, ◌&&◌, List, [], ◌∷◌, ◌++◌, map, Option, Some, None, slice_get, unwrap_or, refl, sym, ap, ap₂, ◌∙◌, append-nil}
use Rattle.std.specs.List.{cons_option, filter_map, flat_map, fold, list_all}
use Rattle.std.specs.Option.{option_and_then, option_map, option_to_list}
use Rattle.std.specs.declared.cmp.Ordering.{Ordering}
use Rattle.std.specs.declared.cmp.Ordering.TheVariants.{Less, Equal, Greater}
use Rattle.std.specs.Ordering.{is_eq, ordering_then}
use Rattle.std.specs.Cmp.Lexicographic.{pointwise, slice_cmp}
use Rattle.std.proofs.lemmas.Bool.{and_parts}
use Rattle.std.proofs.lemmas.List.Concat.{flat_map-append}
use Rattle.wat_value.specs.declared.value.Value.{Value}
use Rattle.wat_value.specs.declared.value.Value.TheVariants as v
use Rattle.wat_value.specs.declared.definition.Kind.{Kind}
use Rattle.wat_value.specs.declared.definition.Kind.TheVariants as k
use Rattle.wat_value.specs.declared.definition.Column.{Column}
use Rattle.wat_value.specs.declared.definition.TableDef.{TableDef}
use Rattle.wat_value.specs.Fits.{fits_column, has_type, is_null, is_out_of_range, is_too_long, value_in}
use Rattle.wat_value.specs.Order.{key_eq, value_cmp}
use Rattle.wat_ast.specs.declared.expression.BinaryOp.{BinaryOp}
use Rattle.wat_ast.specs.declared.expression.BinaryOp.TheVariants as op
use Rattle.wat_ast.specs.declared.expression.Expr.{Expr}
use Rattle.wat_ast.specs.declared.expression.Expr.TheOpen.{Expr-F}
use Rattle.wat_ast.specs.declared.expression.Expr.TheVariants as e
use Rattle.wat_walk.specs.Parts.{Written, written_in, written_step}
use Rattle.wat_walk.proofs.FoldLemmas.{fold-Binary, fold-Named}
use Rattle.wat_schema.specs.declared.refusal.Refusal.{Refusal}
use Rattle.wat_schema.specs.Catalog.{Name, Catalog, def_at, ordinal, repeats, table_named}
use Rattle.wat_schema.specs.Definitions.{same_name}
use Rattle.wat_schema.specs.Tables.{Row}
use Rattle.wat_scope.specs.declared.scope.Found.TheVariants.{At}
use Rattle.wat_scope.specs.Scope.{Scope, column_in, found, found_among, spot_in, table_scope}
use Rattle.wat_names.specs.Columns.{column_refusals, in_expression, in_expressions, refused_as}
use Rattle.wat_names.specs.Places.{at_place, place_of, placed}
use Rattle.wat_names.proofs.PlaceLemmas.{placed-Binary, placed-Named}
use Rattle.wat_types.specs.declared.typing.ExprType.{ExprType}
use Rattle.wat_types.specs.declared.typing.ExprType.TheVariants.{Condition, Null}
use Rattle.wat_types.specs.declared.typing.Typing.{Typing}
use Rattle.wat_types.specs.Types.{ColumnTypes, kind_type, operator_rule, operator_type, typing_from, typing_of}
use Rattle.wat_types.proofs.TypeLemmas.{typing-Binary, typing-Placed}
use Rattle.wat_typing.specs.Rules.{column_type, type_at, types_of}
use Rattle.wat_expr.specs.declared.outcome.Outcome.TheVariants.{Is}
use Rattle.wat_expr.specs.Logic.{conjunction, truth}
use Rattle.wat_expr.specs.Operators.{binary}
use Rattle.wat_expr.specs.Evaluation.{Over, over, outcome_of}
use Rattle.wat_expr.proofs.EvaluationLemmas.{outcome-Binary, outcome-Placed}
use Rattle.wat_group.specs.Query.{condition_at}
use Rattle.wat_meaning.specs.Meaning.{alone}
use Rattle.wat_meaning.proofs.Passed.{type_at_is}
use Rattle.wat_spell_laws.specs.AsRead.{as_read, as_read_at, literal_as_read}
use Rattle.wat_written.specs.Written.{all_of, equals, test_of}
use Rattle.wat_written_laws.proofs.Columns.{ordinal_is}
use Rattle.wat_written_laws.proofs.Literals.{is_short, is_typed as has_its_type, none_in, outcome_is, read-Literal, short as short_value, stays, typed, typing_is}

-- ---- chains of AND

pub read-Binary : (op : BinaryOp) (a b : Expr) → as_read (e.Binary op a b) ≡ e.Binary op (as_read a) (as_read b)
unfolding as_read
read-Binary op a b = fold-Binary as_read_at op a b

read_chain : (left : Expr) (tests : List Expr) → as_read (fold (e.Binary op.And) left tests) ≡ fold (e.Binary op.And) (as_read left) (map as_read tests)
read_chain left [] = refl
read_chain left (t ∷ tests) = read_chain (e.Binary op.And left t) tests ∙ ap (λ (x : Expr). fold (e.Binary op.And) x (map as_read tests)) (read-Binary op.And left t)

pub read_all : (tests : List Expr) → option_map as_read (all_of tests) ≡ all_of (map as_read tests)
read_all [] = refl
read_all (t ∷ tests) = ap Some (read_chain t tests)

module _ (c : Catalog) (scope : Scope) where
  placed_chain : (left : Expr) (tests : List Expr) → placed c scope (fold (e.Binary op.And) left tests) ≡ fold (e.Binary op.And) (placed c scope left) (map (placed c scope) tests)
  placed_chain left [] = refl
  placed_chain left (t ∷ tests) = placed_chain (e.Binary op.And left t) tests ∙ ap (λ (x : Expr). fold (e.Binary op.And) x (map (placed c scope) tests)) (placed-Binary c scope op.And left t)

  pub placed_all : (tests : List Expr) → option_map (placed c scope) (all_of tests) ≡ all_of (map (placed c scope) tests)
  placed_all [] = refl
  placed_all (t ∷ tests) = ap Some (placed_chain t tests)

  pub in-Binary : (op : BinaryOp) (a b : Expr) → in_expression c scope (e.Binary op a b) ≡ in_expression c scope a ++ in_expression c scope b
  unfolding in_expression written_in
  in-Binary op a b =
      ap (flat_map (column_refusals c scope)) (fold-Binary written_step op a b)
      ∙ ap (λ (rest : List Written). flat_map (column_refusals c scope) (written_in a ++ rest)) (append-nil (written_in b))
      ∙ flat_map-append (column_refusals c scope) (written_in a) (written_in b)

  both_none : (xs ys : List Refusal) → xs ≡ [] → ys ≡ [] → xs ++ ys ≡ []
  both_none xs ys a b = ap₂ (λ (p q : List Refusal). p ++ q) a b

  first_none : (xs ys : List Refusal) → xs ++ ys ≡ [] → xs ≡ []
  first_none [] ys h = refl
  first_none (x ∷ xs) ys h = cc

  rest_none : (xs ys : List Refusal) → xs ++ ys ≡ [] → ys ≡ []
  rest_none [] ys h = h
  rest_none (x ∷ xs) ys h = cc

  none_in_chain : (left : Expr) (tests : List Expr) → in_expression c scope left ≡ [] → in_expressions c scope tests ≡ [] → in_expression c scope (fold (e.Binary op.And) left tests) ≡ []
  none_in_chain left [] a b = a
  none_in_chain left (t ∷ tests) a b =
      none_in_chain (e.Binary op.And left t) tests (in-Binary op.And left t ∙ both_none (in_expression c scope left) (in_expression c scope t) a (first_none (in_expression c scope t) (in_expressions c scope tests) b))
      (rest_none (in_expression c scope t) (in_expressions c scope tests) b)

  pub none_in_all : (tests : List Expr) → in_expressions c scope tests ≡ [] → in_expressions c scope (option_to_list (all_of tests)) ≡ []
  none_in_all [] h = refl
  none_in_all (t ∷ tests) h =
      append-nil (in_expression c scope (fold (e.Binary op.And) t tests))
      ∙ none_in_chain t tests (first_none (in_expression c scope t) (in_expressions c scope tests) h) (rest_none (in_expression c scope t) (in_expressions c scope tests) h)

-- a condition that breaks no rule
abbrev pub good : Typing
good = record { kind = Condition; aggregated = false; broken = None }

abbrev AllGood : ColumnTypes → List Expr → Type 0
AllGood columns [] = Unit {0}
AllGood columns (t ∷ tests) = (typing_of columns t ≡ good) × AllGood columns tests

module _ (columns : ColumnTypes) where
  good_and : (a b : Expr) → typing_of columns a ≡ good → typing_of columns b ≡ good → typing_of columns (e.Binary op.And a b) ≡ good
  unfolding operator_rule operator_type
  good_and a b p q = typing-Binary columns op.And a b ∙ ap₂ (λ (x y : Typing). typing_from (operator_type op.And) (Expr-F.Binary op.And x y)) p q

  good_chain : (left : Expr) (tests : List Expr) → typing_of columns left ≡ good → AllGood columns tests → typing_of columns (fold (e.Binary op.And) left tests) ≡ good
  good_chain left [] a b = a
  good_chain left (t ∷ tests) a b = good_chain (e.Binary op.And left t) tests (good_and left t a b.0) b.1

  pub good_all : (tests : List Expr) → AllGood columns tests → map (typing_of columns) (option_to_list (all_of tests)) ≡ map (λ _. good) (option_to_list (all_of tests))
  good_all [] h = refl
  good_all (t ∷ tests) h = ap (λ (x : Typing). x ∷ []) (good_chain t tests h.0 h.1)

both_truths : (a b : Bool) → conjunction (truth a) (truth b) ≡ truth (a && b)
both_truths true true = refl
both_truths true false = refl
both_truths false true = refl
both_truths false false = refl

and_assoc : (a b c : Bool) → ((a && b) && c) ≡ (a && (b && c))
and_assoc true b c = refl
and_assoc false b c = refl

and_true : (a : Bool) → (a && true) ≡ a
and_true true = refl
and_true false = refl

module _ (at : Over) (test : ℕ → Expr) (b : ℕ → Bool) where
  abbrev AllTruths : List ℕ → Type 0
  AllTruths [] = Unit {0}
  AllTruths (n ∷ ns) = (outcome_of (test n) at ≡ truth (b n)) × AllTruths ns

  truth_and : (left right : Expr) (a d : Bool) → outcome_of left at ≡ truth a → outcome_of right at ≡ truth d → outcome_of (e.Binary op.And left right) at ≡ truth (a && d)
  unfolding binary
  truth_and left right a d p q = outcome-Binary op.And left right at ∙ ap₂ conjunction p q ∙ both_truths a d

  truth_chain : (left : Expr) (a : Bool) (ns : List ℕ) → outcome_of left at ≡ truth a → AllTruths ns → outcome_of (fold (e.Binary op.And) left (map test ns)) at ≡ truth (a && list_all b ns)
  truth_chain left a [] p q = p ∙ ap truth (sym (and_true a))
  truth_chain left a (n ∷ ns) p q =
      truth_chain (e.Binary op.And left (test n)) (a && b n) ns (truth_and left (test n) a (b n) p q.0) q.1 ∙ ap truth (and_assoc a (b n) (list_all b ns))

  pub truth_all : (ns : List ℕ) → AllTruths ns → condition_at at (all_of (map test ns)) ≡ truth (list_all b ns)
  truth_all [] q = refl
  truth_all (n ∷ ns) q = truth_chain (test n) (b n) ns q.0 q.1

-- ---- keys

same_first : (o p : Ordering) → is_eq (ordering_then o p) ≡ (is_eq o && is_eq p)
same_first Less p = refl
same_first Equal p = refl
same_first Greater p = refl

abbrev pub same_at : Row → Row → ℕ → Bool
same_at r row n = is_eq (value_cmp (value_in r n) (value_in row n))

pub same_key : (r row : Row) (ns : List ℕ) → list_all (same_at r row) ns ≡ key_eq (map (value_in r) ns) (map (value_in row) ns)
same_key r row [] = refl
same_key r row (n ∷ ns) =
    ap (λ b. same_at r row n && b) (same_key r row ns)
    ∙ sym (same_first (value_cmp (value_in r n) (value_in row n)) (slice_cmp value_cmp (map (value_in r) ns) (map (value_in row) ns)))

-- the columns with these numbers stand, and take no Null
abbrev pub AreColumns : TableDef → List ℕ → Type 0
AreColumns def [] = Unit {0}
AreColumns def (n ∷ ns) = ((column : Column) × (slice_get def.columns n ≡ Some column) × (column.nullable ≡ false)) × AreColumns def ns

-- ---- values of rows that fit

pub fit_at : (columns : List Column) (row : Row) (n : ℕ) (column : Column) → pointwise fits_column columns row ≡ true → slice_get columns n ≡ Some column → fits_column column (value_in row n) ≡ true
fit_at [] row n column h at = cc
fit_at (d ∷ ds) [] n column h at = cc
fit_at (d ∷ ds) (w ∷ ws) zero column h at = let is : d ≡ column = cc in ap (λ (z : Column). fits_column z w) (sym is) ∙ (and_parts (fits_column d w) (pointwise fits_column ds ws) h).0
fit_at (d ∷ ds) (w ∷ ws) (suc n) column h at = fit_at ds ws n column (and_parts (fits_column d w) (pointwise fits_column ds ws) h).1 at

pub no_null : (column : Column) (w : Value) → column.nullable ≡ false → fits_column column w ≡ true → is_null w ≡ false
no_null column w strict h = by (has_type column.kind w) (is_null w) column.nullable (is_out_of_range column.kind w) (is_too_long column.kind w) strict h
  where
    by : (type null nullable range long : Bool) → nullable ≡ false → (type && not (null && not nullable) && not range && not long) ≡ true → null ≡ false
    by type false nullable range long a b = refl
    by true true true range long a b = cc
    by true true false range long a b = cc
    by false true nullable range long a b = cc

-- ---- one test

abbrev pub read_test : Name → Value → Expr
read_test name w = e.Binary op.Equal (e.Named None name) (literal_as_read w)

abbrev pub placed_test : Value → ℕ → Expr
placed_test w i = e.Binary op.Equal (e.Placed 0 i) (literal_as_read w)

module _ (c : Catalog) (n : ℕ) (def : TableDef) (named : table_named c def.name ≡ Some n) (at : def_at c n ≡ Some def) (once : repeats same_name def.columns ≡ false) where
  abbrev scope : Scope
  scope = table_scope c def.name

  pub found_is : (i : ℕ) (column : Column) → slice_get def.columns i ≡ Some column → found c scope (None, column.name) ≡ At 0 i
  unfolding found
  found_is i column is =
      ap (λ (o : Option ℕ). found_among (spot_in 0 (column_in c o column.name) ++ [])) named
      ∙ ap (λ (o : Option TableDef). found_among (spot_in 0 (option_and_then (λ d. ordinal d column.name) o) ++ [])) at
      ∙ ap (λ (o : Option ℕ). found_among (spot_in 0 o ++ [])) (ordinal_is def i column once is)

  pub not_refused : (i : ℕ) (column : Column) → slice_get def.columns i ≡ Some column → column_refusals c scope (None, column.name) ≡ []
  unfolding column_refusals
  not_refused i column is = ap (refused_as column.name) (found_is i column is)

  placed_name : (i : ℕ) (column : Column) → slice_get def.columns i ≡ Some column → placed c scope (e.Named None column.name) ≡ e.Placed 0 i
  unfolding place_of
  placed_name i column is = placed-Named c scope None column.name ∙ ap (at_place (None, column.name)) (found_is i column is)

  read_named : (name : Name) → as_read (e.Named None name) ≡ e.Named None name
  unfolding as_read
  read_named name = fold-Named as_read_at None name

  read_is : (name : Name) (w : Value) → as_read (equals name w) ≡ read_test name w
  read_is name w = read-Binary op.Equal (e.Named None name) (e.Literal w) ∙ ap₂ (e.Binary op.Equal) (read_named name) (read-Literal w)

  named_in : (name : Name) → in_expression c scope (e.Named None name) ≡ column_refusals c scope (None, name)
  unfolding in_expression written_in
  named_in name = ap (flat_map (column_refusals c scope)) (fold-Named written_step None name) ∙ append-nil (column_refusals c scope (None, name))

  test_names : (i : ℕ) (column : Column) (w : Value) → slice_get def.columns i ≡ Some column → in_expression c scope (as_read (equals column.name w)) ≡ []
  test_names i column w is =
      ap (in_expression c scope) (read_is column.name w) ∙ in-Binary c scope op.Equal (e.Named None column.name) (literal_as_read w)
      ∙ ap₂ (λ (p q : List Refusal). p ++ q) (named_in column.name ∙ not_refused i column is) (none_in c scope w)

  test_placed : (i : ℕ) (column : Column) (w : Value) → slice_get def.columns i ≡ Some column → placed c scope (as_read (equals column.name w)) ≡ placed_test w i
  test_placed i column w is =
      ap (placed c scope) (read_is column.name w) ∙ placed-Binary c scope op.Equal (e.Named None column.name) (literal_as_read w)
      ∙ ap₂ (e.Binary op.Equal) (placed_name i column is) (stays c scope w)

  -- the tests of a row
  module _ (row : Row) where
    abbrev tests : List ℕ → List Expr
    tests ns = filter_map (test_of def row) ns

    abbrev row_test : ℕ → Expr
    row_test i = placed_test (value_in row i) i

    test_is : (i : ℕ) (column : Column) → slice_get def.columns i ≡ Some column → test_of def row i ≡ Some (equals column.name (value_in row i))
    test_is i column is = ap (λ (o : Option Column). option_map (λ name. equals name (value_in row i)) (option_map (λ column. column.name) o)) is

    pub tests_name : (ns : List ℕ) → AreColumns def ns → in_expressions c scope (map as_read (tests ns)) ≡ []
    tests_name [] h = refl
    tests_name (i ∷ ns) h =
        ap (λ (o : Option Expr). in_expressions c scope (map as_read (cons_option o (tests ns)))) (test_is i h.0.0 h.0.1)
        ∙ ap₂ (λ (p q : List Refusal). p ++ q) (test_names i h.0.0 (value_in row i) h.0.1) (tests_name ns h.1)

    pub tests_placed : (ns : List ℕ) → AreColumns def ns → map (placed c scope) (map as_read (tests ns)) ≡ map row_test ns
    tests_placed [] h = refl
    tests_placed (i ∷ ns) h =
        ap (λ (o : Option Expr). map (placed c scope) (map as_read (cons_option o (tests ns)))) (test_is i h.0.0 h.0.1)
        ∙ ap₂ (λ (x : Expr) (xs : List Expr). x ∷ xs) (test_placed i h.0.0 (value_in row i) h.0.1) (tests_placed ns h.1)

    abbrev placed_typing : ExprType → Typing
    placed_typing type = record { kind = type; aggregated = false; broken = None }

    type_is : (i : ℕ) (column : Column) → slice_get def.columns i ≡ Some column → typing_of (types_of c scope) (e.Placed 0 i) ≡ placed_typing (kind_type column.kind)
    type_is i column is =
        typing-Placed (types_of c scope) 0 i
        ∙ ap placed_typing (ap (λ (o : Option ℕ). type_at c o i) named ∙ type_at_is c n def i at ∙ ap (λ (o : Option Column). unwrap_or (option_map column_type o) Null) is)

    comparable : (kind : Kind) (w : Value) → has_type kind w ≡ true → typing_from (operator_type op.Equal) (Expr-F.Binary op.Equal (placed_typing (kind_type kind)) (typed w)) ≡ good
    unfolding operator_rule operator_type
    comparable k.Integer v.Null h = refl
    comparable k.Integer (v.Int m) h = refl
    comparable k.Integer (v.Text t) h = cc
    comparable (k.Char m) v.Null h = refl
    comparable (k.Char m) (v.Int i) h = cc
    comparable (k.Char m) (v.Text t) h = refl
    comparable (k.Varchar m) v.Null h = refl
    comparable (k.Varchar m) (v.Int i) h = cc
    comparable (k.Varchar m) (v.Text t) h = refl

    test_typing : (i : ℕ) (column : Column) → slice_get def.columns i ≡ Some column → has_type column.kind (value_in row i) ≡ true → typing_of (types_of c scope) (row_test i) ≡ good
    test_typing i column is type =
        typing-Binary (types_of c scope) op.Equal (e.Placed 0 i) (literal_as_read (value_in row i))
        ∙ ap₂ (λ (x y : Typing). typing_from (operator_type op.Equal) (Expr-F.Binary op.Equal x y)) (type_is i column is) (typing_is (types_of c scope) (value_in row i))
        ∙ comparable column.kind (value_in row i) type

    compared : (r_value w : Value) → is_null r_value ≡ false → is_null w ≡ false → binary op.Equal (Is r_value) (Is w) ≡ truth (is_eq (value_cmp r_value w))
    unfolding binary
    compared v.Null w a b = cc
    compared (v.Int m) v.Null a b = cc
    compared (v.Int m) (v.Int i) a b = refl
    compared (v.Int m) (v.Text t) a b = refl
    compared (v.Text t) v.Null a b = cc
    compared (v.Text t) (v.Int i) a b = refl
    compared (v.Text t) (v.Text u) a b = refl

    test_outcome : (r : Row) (i : ℕ) → is_null (value_in r i) ≡ false → is_null (value_in row i) ≡ false → is_short (value_in row i) ≡ true → outcome_of (row_test i) (over (alone r)) ≡ truth (same_at r row i)
    test_outcome r i a b short =
        outcome-Binary op.Equal (e.Placed 0 i) (literal_as_read (value_in row i)) (over (alone r))
        ∙ ap₂ (binary op.Equal) (outcome-Placed 0 i (over (alone r))) (outcome_is (value_in row i) (over (alone r)) short)
        ∙ compared (value_in r i) (value_in row i) a b

    module _ (fit : pointwise fits_column def.columns row ≡ true) where
      all_good : (ns : List ℕ) → AreColumns def ns → AllGood (types_of c scope) (map row_test ns)
      all_good [] h = tt
      all_good (i ∷ ns) h = (test_typing i h.0.0 h.0.1 (has_its_type h.0.0 (value_in row i) (fit_at def.columns row i h.0.0 fit h.0.1)), all_good ns h.1)

      pub tests_typed : (ns : List ℕ) → AreColumns def ns → map (typing_of (types_of c scope)) (option_to_list (all_of (map row_test ns))) ≡ map (λ _. good) (option_to_list (all_of (map row_test ns)))
      tests_typed ns h = good_all (types_of c scope) (map row_test ns) (all_good ns h)

      all_truths : (r : Row) → pointwise fits_column def.columns r ≡ true → (ns : List ℕ) → AreColumns def ns → AllTruths (over (alone r)) row_test (same_at r row) ns
      all_truths r fits [] h = tt
      all_truths r fits (i ∷ ns) h =
          let column = h.0.0 in (
            test_outcome r i (no_null column (value_in r i) h.0.2 (fit_at def.columns r i column fits h.0.1)) (no_null column (value_in row i) h.0.2 (fit_at def.columns row i column fit h.0.1))
                (short_value column (value_in row i) (fit_at def.columns row i column fit h.0.1)),
            all_truths r fits ns h.1,
          )

      -- WHERE is true of a row that fits exactly where its key is this row's
      pub tests_hold : (r : Row) → pointwise fits_column def.columns r ≡ true → (ns : List ℕ) → AreColumns def ns
          → condition_at (over (alone r)) (all_of (map row_test ns)) ≡ truth (key_eq (map (value_in r) ns) (map (value_in row) ns))
      tests_hold r fits ns h = truth_all (over (alone r)) row_test (same_at r row) ns (all_truths r fits ns h) ∙ ap truth (same_key r row ns)
