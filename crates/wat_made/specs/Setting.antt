-- SET, computed over the combination of one row.
use Rattle.std.specs.Prelude.{Bool, List, map}
use Rattle.std.specs.List.{fold, list_any}
use Rattle.wat_value.specs.declared.definition.TableDef.{TableDef}
use Rattle.wat_ast.specs.declared.statement.SetItem.{SetItem}
use Rattle.wat_schema.specs.Catalog.{ordinal}
use Rattle.wat_expr.specs.declared.outcome.Outcome.{Outcome}
use Rattle.wat_expr.specs.Evaluation.{Combination}
use Rattle.wat_group.specs.Query.{Row, has_error, outcome_at, value_of}
use Rattle.wat_meaning.specs.Meaning.{sole_row, with_value}

-- what SET computes of each column that it lists
abbrev pub set_outcomes : List SetItem → Combination → List Outcome
set_outcomes sets rows = map (λ set. outcome_at rows set.value) sets

-- a row with the values that are computed over a combination
abbrev pub row_after : TableDef → List SetItem → Combination → Row → Row
row_after def sets rows row = fold (λ after set. with_value (ordinal def set.name) (value_of (outcome_at rows set.value)) after) row sets

-- the rows after SET
abbrev pub rows_after : TableDef → List SetItem → List Combination → List Row
rows_after def sets met = map (λ rows. row_after def sets rows (sole_row rows)) met

-- some value that SET computes has Error
abbrev pub sets_fail : List SetItem → List Combination → Bool
sets_fail sets met = list_any (λ rows. has_error (set_outcomes sets rows)) met
