-- Literals as they are read: they name nothing, stay as they are, have the type of their value, and give it.
use Rattle.std.proofs.Common.{◌≡◌, ℕ, pos, negsuc, suc, ◌^◌, nat_lt, nat_le, int_le, Bool, true, false, not, ◌&&◌, List, [], ◌∷◌, Some, None, if◌then◌else◌, refl, ap, ◌∙◌, arith}
use Rattle.std.specs.List.{flat_map}
use Rattle.std.proofs.lemmas.Bool.{and_parts, leb-true, ltb-true, lt-ltb}
use Rattle.wat_value.specs.declared.value.Value.{Value}
use Rattle.wat_value.specs.declared.value.Value.TheVariants as v
use Rattle.wat_value.specs.declared.definition.Kind.{Kind}
use Rattle.wat_value.specs.declared.definition.Kind.TheVariants as k
use Rattle.wat_value.specs.declared.definition.Column.{Column}
use Rattle.wat_value.specs.Fits.{fits_column, has_type, is_missing, is_out_of_range, is_too_long}
use Rattle.wat_ast.specs.declared.expression.UnaryOp.TheVariants as unary
use Rattle.wat_ast.specs.declared.expression.Expr.{Expr}
use Rattle.wat_ast.specs.declared.expression.Expr.TheOpen.{Expr-F}
use Rattle.wat_ast.specs.declared.expression.Expr.TheVariants as e
use Rattle.wat_walk.specs.Parts.{Written, written_in, written_step}
use Rattle.wat_walk.proofs.FoldLemmas.{fold-Literal, fold-Unary}
use Rattle.wat_schema.specs.Catalog.{Catalog}
use Rattle.wat_scope.specs.Scope.{Scope}
use Rattle.wat_names.specs.Columns.{column_refusals, in_expression}
use Rattle.wat_names.specs.Places.{placed}
use Rattle.wat_names.proofs.PlaceLemmas.{placed-Literal, placed-Unary}
use Rattle.wat_types.specs.declared.typing.Typing.{Typing}
use Rattle.wat_types.specs.declared.typing.ExprType.TheVariants.{Integer}
use Rattle.wat_types.specs.Types.{ColumnTypes, typing_from, typing_of, value_type}
use Rattle.wat_types.proofs.TypeLemmas.{typing-Literal, typing-Unary}
use Rattle.wat_expr.specs.declared.outcome.Outcome.TheVariants.{Is}
use Rattle.wat_expr.specs.Evaluation.{Over, outcome_of}
use Rattle.wat_expr.specs.Operators.{or_error, unary}
use Rattle.wat_expr.proofs.EvaluationLemmas.{outcome-Literal, outcome-Unary}
use Rattle.wat_spell_laws.specs.AsRead.{as_read, as_read_at, literal_as_read}

-- a number that is written with at most 2 ^ 63 - 1
abbrev pub is_short : Value → Bool
is_short v.Null = true
is_short (v.Text t) = true
is_short (v.Int (pos n)) = nat_lt n (2 ^ 63)
is_short (v.Int (negsuc n)) = nat_lt (suc n) (2 ^ 63)

pub read-Literal : (w : Value) → as_read (e.Literal w) ≡ literal_as_read w
unfolding as_read
read-Literal w = fold-Literal as_read_at w

named-Literal : (w : Value) → written_in (e.Literal w) ≡ []
unfolding written_in
named-Literal w = fold-Literal written_step w

named-Unary : (op : _) (a : Expr) → written_in a ≡ [] → written_in (e.Unary op a) ≡ []
unfolding written_in
named-Unary op a none = fold-Unary written_step op a ∙ ap (λ (ws : List Written). flat_map (λ x. x) (ws ∷ [])) none

pub names_nothing : (w : Value) → written_in (literal_as_read w) ≡ []
names_nothing v.Null = named-Literal v.Null
names_nothing (v.Text t) = named-Literal (v.Text t)
names_nothing (v.Int (pos n)) = named-Literal (v.Int (pos n))
names_nothing (v.Int (negsuc n)) = named-Unary unary.Minus (e.Literal (v.Int (pos (suc n)))) (named-Literal (v.Int (pos (suc n))))

pub none_in : (c : Catalog) (scope : Scope) (w : Value) → in_expression c scope (literal_as_read w) ≡ []
unfolding in_expression
none_in c scope w = ap (flat_map (column_refusals c scope)) (names_nothing w)

pub stays : (c : Catalog) (scope : Scope) (w : Value) → placed c scope (literal_as_read w) ≡ literal_as_read w
stays c scope v.Null = placed-Literal c scope v.Null
stays c scope (v.Text t) = placed-Literal c scope (v.Text t)
stays c scope (v.Int (pos n)) = placed-Literal c scope (v.Int (pos n))
stays c scope (v.Int (negsuc n)) = placed-Unary c scope unary.Minus (e.Literal (v.Int (pos (suc n)))) ∙ ap (e.Unary unary.Minus) (placed-Literal c scope (v.Int (pos (suc n))))

abbrev pub typed : Value → Typing
typed w = record { kind = value_type w; aggregated = false; broken = None }

pub typing_is : (columns : ColumnTypes) (w : Value) → typing_of columns (literal_as_read w) ≡ typed w
typing_is columns v.Null = typing-Literal columns v.Null
typing_is columns (v.Text t) = typing-Literal columns (v.Text t)
typing_is columns (v.Int (pos n)) = typing-Literal columns (v.Int (pos n))
typing_is columns (v.Int (negsuc n)) =
    typing-Unary columns unary.Minus (e.Literal (v.Int (pos (suc n))))
    ∙ ap (λ (t : Typing). typing_from Integer (Expr-F.Unary unary.Minus t)) (typing-Literal columns (v.Int (pos (suc n))))

below : (n : ℕ) → nat_lt (suc n) (2 ^ 63) ≡ true → nat_lt n (2 ^ 63) ≡ true
below n h = let short = ltb-true _ _ h in lt-ltb n (2 ^ 63) (omega arith)

pub outcome_is : (w : Value) (at : Over) → is_short w ≡ true → outcome_of (literal_as_read w) at ≡ Is w
outcome_is v.Null at h = outcome-Literal v.Null at
outcome_is (v.Text t) at h = outcome-Literal (v.Text t) at
outcome_is (v.Int (pos n)) at h = outcome-Literal (v.Int (pos n)) at
outcome_is (v.Int (negsuc n)) at h =
    outcome-Unary unary.Minus (e.Literal (v.Int (pos (suc n)))) at
    ∙ ap (unary unary.Minus) (outcome-Literal (v.Int (pos (suc n))) at)
    ∙ ap (λ b. or_error (if b then Some (negsuc n) else None)) (below n h)

-- ---- values that fit a column

type_and_range : (type missing range long : Bool) → (type && not missing && not range && not long) ≡ true → (type ≡ true) × (range ≡ false)
type_and_range false missing range long h = cc
type_and_range true true range long h = cc
type_and_range true false true long h = cc
type_and_range true false false true h = cc
type_and_range true false false false h = (refl, refl)

unless : (a : Bool) → not a ≡ false → a ≡ true
unless true h = refl
unless false h = cc

pub is_typed : (column : Column) (w : Value) → fits_column column w ≡ true → has_type column.kind w ≡ true
is_typed column w h = (type_and_range (has_type column.kind w) (is_missing column w) (is_out_of_range column.kind w) (is_too_long column.kind w) h).0

-- it is written with a short number
pub short : (column : Column) (w : Value) → fits_column column w ≡ true → is_short w ≡ true
short column w h = let p = type_and_range (has_type column.kind w) (is_missing column w) (is_out_of_range column.kind w) (is_too_long column.kind w) h in by column.kind w p.0 p.1
  where
    by : (kind : Kind) (w : Value) → has_type kind w ≡ true → is_out_of_range kind w ≡ false → is_short w ≡ true
    by kind v.Null t r = refl
    by kind (v.Text x) t r = refl
    by (k.Char m) (v.Int n) t r = cc
    by (k.Varchar m) (v.Int n) t r = cc
    by k.Integer (v.Int (pos n)) t r =
        let small : nat_le n 2147483647 ≡ true = (and_parts (int_le (negsuc 2147483647) (pos n)) (int_le (pos n) (pos 2147483647)) (unless _ r)).1 in
        let at_most = leb-true _ _ small in
        lt-ltb n (2 ^ 63) (omega arith)
    by k.Integer (v.Int (negsuc n)) t r =
        let small : nat_le n 2147483647 ≡ true = (and_parts (int_le (negsuc 2147483647) (negsuc n)) (int_le (negsuc n) (pos 2147483647)) (unless _ r)).0 in
        let at_most = leb-true _ _ small in
        lt-ltb (suc n) (2 ^ 63) (omega arith)
