-- How many bytes the values of columns take at most.
use Rattle.std.specs.Prelude.{ℕ, ◌+◌, nat_lt, Bool, List, length, slice_get, sum_by, Option, Some, None}
use Rattle.std.specs.List.{list_all}
use Rattle.wat_value.specs.declared.definition.Kind.{Kind}
use Rattle.wat_value.specs.declared.definition.Kind.TheVariants.{Integer, Char, Varchar}
use Rattle.wat_value.specs.declared.definition.Column.{Column}

-- the width of a value of this kind
abbrev pub width : Kind → ℕ
width Integer = 9
width (Char n) = 3 + n
width (Varchar n) = 3 + n

-- the width of all columns
abbrev pub widths : List Column → ℕ
widths columns = sum_by (λ column. width column.kind) columns

-- the width of a column, and 0 of none
abbrev pub width_of : Option Column → ℕ
width_of None = 0
width_of (Some column) = width column.kind

-- the width of the columns with these numbers
abbrev pub width_at : List Column → List ℕ → ℕ
width_at columns numbers = sum_by (λ i. width_of (slice_get columns i)) numbers

-- each number is that of a column
abbrev pub have_columns : List Column → List ℕ → Bool
have_columns columns numbers = list_all (λ i. nat_lt i (length columns)) numbers
