-- The answer of a query. Its orders are `sort_by`, which puts each item before the first that is not less: items that are level stay as they stood.
use Prim.Native.Nat.{zero, suc}
use Rattle.std.specs.Prelude.{ℤ, pos, negsuc, not, ◌||◌, Bool, List, [], ◌∷◌, ◌++◌, map, length, nat_lt, Option, Some, None, option_to_list, unwrap_or, if◌then◌else◌, slice_index_or}
use Rattle.std.specs.List.{filter as where_true, list_any, flat_map, zip}
use Rattle.std.specs.Option.{option_map_or}
use Rattle.sqlite_keyed.specs.Lists.{sort_by}
use Rattle.wat_value.specs.declared.value.Value.{Value}
use Rattle.wat_value.specs.declared.value.Value.TheVariants.{Null}
use Rattle.wat_value.specs.declared.definition.TableDef.{TableDef}
use Rattle.wat_value.specs.Order.{key_cmp}
use Rattle.wat_value.specs.Fits.{key_of}
use Rattle.wat_ast.specs.declared.expression.Expr.{Expr}
use Rattle.wat_ast.specs.declared.query.SelectItems.{SelectItems}
use Rattle.wat_ast.specs.declared.query.SelectItems.TheVariants as items
use Rattle.wat_ast.specs.declared.query.OrderBy.{OrderBy}
use Rattle.wat_ast.specs.declared.query.OrderBy.TheVariants as by
use Rattle.wat_ast.specs.declared.query.OrderItem.{OrderItem}
use Rattle.wat_ast.specs.declared.query.Query.{Query}
use Rattle.wat_walk.specs.Parts.{arguments_in}
use Rattle.wat_walk.specs.Queries.{listed, is_grouped}
use Rattle.wat_expr.specs.declared.outcome.Outcome.{Outcome}
use Rattle.wat_expr.specs.declared.outcome.Outcome.TheVariants.{Is, True, Error}
use Rattle.wat_expr.specs.Logic.{is_true, is_error}
use Rattle.wat_expr.specs.Evaluation.{Combination, Over, over, over_group, outcome_of}
use Rattle.wat_group.specs.declared.answer.Finished.{Finished}
use Rattle.wat_group.specs.declared.answer.Finished.TheVariants.{Rows, Arithmetic}
use Rattle.wat_group.specs.declared.line.Line.{Line}
use Rattle.wat_group.specs.declared.line.OrderKey.{OrderKey}
use Rattle.wat_group.specs.declared.line.OrderKey.TheVariants.{Ascending, Descending}
use Rattle.wat_value.specs.Order.{key_eq}
use Rattle.wat_group.specs.Order.{order_keys_cmp}

abbrev pub Row : Type 0
Row = List Value

-- the first of those that are the same
abbrev pub first_of_each : {X : Type 0} → (X → X → Bool) → List X → List X
first_of_each same [] = []
first_of_each same (x ∷ xs) = x ∷ where_true (λ y. not (same x y)) (first_of_each same xs)

-- ---- outcomes and their values

abbrev pub outcome_at : Combination → Expr → Outcome
outcome_at rows e = outcome_of e (over rows)

-- the outcome of WHERE or HAVING, which is True where it is absent
abbrev pub condition_at : Over → Option Expr → Outcome
condition_at at condition = option_map_or (λ e. outcome_of e at) condition True

abbrev pub has_error : List Outcome → Bool
has_error = list_any is_error

-- the value of an outcome that is one
abbrev pub value_of : Outcome → Value
value_of (Is v) = v
value_of o = Null

abbrev pub values_of : List Outcome → Row
values_of = map value_of

-- the item, unless it failed
abbrev pub unless : {X : Type 0} → Bool → X → Option X
unless failed x = if failed then None else Some x

-- ---- combinations and their order

abbrev pub row_or_empty : Option Row → Row
row_or_empty row = unwrap_or row []

-- all values of the sources' rows
abbrev pub all_values : Combination → Row
all_values rows = flat_map row_or_empty rows

-- the primary keys of the sources as written
abbrev pub keys_at : List TableDef → Combination → Row
keys_at defs rows = flat_map (λ x. key_of x.0 (row_or_empty x.1)) (zip defs rows)

-- by the primary keys of the sources, and those of the same keys in the order in which they were met
abbrev pub in_key_order : List TableDef → List Combination → List Combination
in_key_order defs = sort_by (λ a b. key_cmp (keys_at defs a) (keys_at defs b))

-- ---- lines of a result, each taken over a combination or over a group

abbrev pub items_at : Query → Over → List Outcome
items_at q at = shown q.items
  where
    shown : SelectItems → List Outcome
    shown items.Star = map Is (all_values at.rows)
    shown (items.List exprs) = map (λ e. outcome_of e at) exprs

-- the item at a position, which counts from 1
abbrev pub item_at : List Outcome → ℤ → Outcome
item_at shown (pos zero) = Error
item_at shown (pos (suc n)) = slice_index_or shown n Error
item_at shown (negsuc n) = Error

-- what an item of ORDER BY reads
abbrev pub order_outcome : Query → Over → OrderItem → Outcome
order_outcome q at item = read item.by
  where
    read : OrderBy → Outcome
    read (by.Column column) = outcome_of column at
    read (by.Position n) = item_at (items_at q at) n

abbrev pub order_outcomes : Query → Over → List Outcome
order_outcomes q at = map (order_outcome q at) q.order

-- the value in the direction of its item of ORDER BY
abbrev pub order_key : Query → Over → OrderItem → OrderKey
order_key q at item = let v = value_of (order_outcome q at item) in if item.descending then Descending v else Ascending v

abbrev pub line_at : Query → Over → Line
line_at q at = record { row = values_of (items_at q at); order = map (order_key q at) q.order }

-- an item or what ORDER BY reads has Error
abbrev pub fails_at : Query → Over → Bool
fails_at q at = has_error (items_at q at) || has_error (order_outcomes q at)

-- ---- groups

abbrev pub group_outcomes : Query → Combination → List Outcome
group_outcomes q rows = map (outcome_at rows) q.group

-- the values of the GROUP BY columns
abbrev pub group_values : Query → Combination → Row
group_values q rows = values_of (group_outcomes q rows)

-- the values of the GROUP BY columns that some combination has, each once, in order
abbrev pub group_keys : Query → List Combination → List Row
group_keys q rows = first_of_each key_eq (sort_by key_cmp (map (group_values q) rows))

-- The classes of equal GROUP BY values, with Null equal to Null, in the order of these values. Without GROUP BY there is one group, also over
-- no combination.
abbrev pub groups : Query → List Combination → List (List Combination)
groups q rows =
    if nat_lt 0 (length q.group) then map (λ key. where_true (λ r. key_eq key (group_values q r)) rows) (group_keys q rows)
    else rows ∷ []

-- a group: its first combination, and all of them for its aggregates
abbrev pub over_all : List Combination → Over
over_all group = over_group (slice_index_or group 0 []) group

abbrev pub groups_at : Query → List Combination → List Over
groups_at q rows = map over_all (groups q rows)

-- HAVING is True or absent
abbrev pub is_kept : Query → Over → Bool
is_kept q at = is_true (condition_at at q.having)

-- ---- Arithmetic

-- the arguments of the query's aggregates
abbrev pub arguments_of : Query → List Expr
arguments_of q = flat_map arguments_in (listed q.items ++ option_to_list q.having)

-- a combination has Error in an aggregate's argument or a GROUP BY column
abbrev pub fails_before_groups : Query → Combination → Bool
fails_before_groups q rows = has_error (map (outcome_at rows) (arguments_of q)) || has_error (group_outcomes q rows)

-- a group has Error in HAVING, an item or what ORDER BY reads, whether HAVING keeps it or not
abbrev pub fails_group : Query → Over → Bool
fails_group q at = is_error (condition_at at q.having) || fails_at q at

abbrev pub fails : Query → List Combination → Bool
fails q rows =
    if is_grouped q then list_any (fails_before_groups q) rows || list_any (fails_group q) (groups_at q rows)
    else list_any (λ r. fails_at q (over r)) rows

-- ---- the answer

-- the lines of a query without ORDER BY: one for each combination in the order of the primary keys, or one for each kept group in the order of
-- the GROUP BY values
abbrev pub lines : Query → List Combination → List Line
lines q rows =
    if is_grouped q then map (line_at q) (where_true (is_kept q) (groups_at q rows))
    else map (λ r. line_at q (over r)) rows

-- ORDER BY, which leaves lines that it doesn't tell apart as they stand
abbrev pub ordered : List Line → List Line
ordered = sort_by (λ a b. order_keys_cmp a.order b.order)

-- DISTINCT keeps the first of equal rows.
abbrev pub distinct_if : Bool → List Row → List Row
distinct_if wanted rows = if wanted then first_of_each key_eq rows else rows

-- the answer over combinations that are in the order of the primary keys
unfoldable pub answer_over : Query → List Combination → Finished
answer_over q rows = if fails q rows then Arithmetic else Rows (distinct_if q.distinct (map (λ line. line.row) (ordered (lines q rows))))

-- what passed WHERE, in the order in which it was met: grouped, projected, ordered and made distinct
abbrev pub finish : Query → List TableDef → List Combination → Finished
finish q defs met = answer_over q (in_key_order defs met)
