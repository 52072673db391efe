-- What is asked of the columns of an index.
use Rattle.std.specs.Prelude.{Bool, true, false, ◌&&◌, List, [], ◌∷◌, if◌then◌else◌}
use Rattle.std.specs.List.{list_any, list_all}
use Rattle.wat_value.specs.declared.value.Value.{Value}
use Rattle.wat_value.specs.Order.{value_cmp}
use Rattle.wat_ast.specs.declared.expression.BinaryOp.{BinaryOp}
use Rattle.wat_ast.specs.declared.expression.BinaryOp.TheVariants.{Equal, Less, AtMost, Greater, AtLeast}
use Rattle.wat_expr.specs.Operators.{test}
use Rattle.wat_interval.specs.declared.test.Test.{Test}

-- the operators that bound a column
abbrev pub is_bounding : BinaryOp → Bool
is_bounding Equal = true
is_bounding Less = true
is_bounding AtMost = true
is_bounding Greater = true
is_bounding AtLeast = true
is_bounding op = false

abbrev pub is_equality : BinaryOp → Bool
is_equality Equal = true
is_equality op = false

-- the value satisfies a test, and all of them
abbrev pub satisfies : Value → Test → Bool
satisfies v t = test t.op (value_cmp v t.value)

abbrev pub satisfies_all : Value → List Test → Bool
satisfies_all v tests = list_all (satisfies v) tests

-- one of the tests is of equality
abbrev pub fixes : List Test → Bool
fixes tests = list_any (λ (t : Test). is_equality t.op) tests

-- The tests, by the columns of an index, that a scan makes use of: those of the leading columns that
-- are fixed, and then those of one column that is bounded, if there is one.
abbrev pub taken : List (List Test) → List (List Test)
taken [] = []
taken ([] ∷ more) = []
taken ((t ∷ tests) ∷ more) = if fixes (t ∷ tests) then (t ∷ tests) ∷ taken more else (t ∷ tests) ∷ []

-- the key satisfies the tests column by column
abbrev pub passes_tests : List (List Test) → List Value → Bool
passes_tests [] key = true
passes_tests (tests ∷ more) [] = false
passes_tests (tests ∷ more) (v ∷ key) = satisfies_all v tests && passes_tests more key

-- the tests are of operators that bound a column
abbrev pub all_bound : List Test → Bool
all_bound tests = list_all (λ (t : Test). is_bounding t.op) tests

abbrev pub all_columns_bound : List (List Test) → Bool
all_columns_bound columns = list_all all_bound columns
