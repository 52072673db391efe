-- The size of a state, and how many pages it takes at most.
use Rattle.std.specs.Prelude.{◌⊎◌, ℕ, zero, suc, ◌+◌, ◌*◌, ◌/◌, ◌≤◌, List, length}
use Rattle.std.specs.List.{sum_by, flat_map}
use Rattle.wat_value.specs.declared.change.Change.{Change}
use Rattle.wat_schema.specs.Tables.{Row, Table, Tables, catalog_of}
use Rattle.wat_log_record.specs.Encoding.{change_bytes}
use Rattle.wat_rows.specs.Rows.{row_cell, size_of}
use Rattle.wat_replay.specs.State.{State, Lists, connections}
use Rattle.wat_spelled.specs.Schema.{catalog_bytes}

-- ---- sizes

-- the bytes of the cells of a table's rows, with the two before each that tell its length
abbrev pub table_size : Table → ℕ
table_size x = sum_by (λ (row : Row). size_of (row_cell x.def.number row)) x.rows

abbrev pub cells_size : Tables → ℕ
cells_size t = sum_by table_size t.tables

abbrev pub changes_size : List Change → ℕ
changes_size changes = length (flat_map change_bytes changes)

-- of the lists of the connections below n
abbrev pub lists_size : ℕ → Lists → ℕ
lists_size zero lists = 0
lists_size (suc n) lists = lists_size n lists + changes_size (lists n)

-- the bytes of its cells, of its catalog, and of the changes that stand
abbrev pub state_size : State → ℕ
state_size s = cells_size s.tables + length (catalog_bytes (catalog_of s.tables).tables) + lists_size connections s.lists

-- A want of pages is met at a limit of at most so many, for the header's count at opening and the greatest size so far.
abbrev pub budget : ℕ → ℕ → ℕ
budget p m = p + m / 250 + 16

-- ---- the count

-- How many pages are of each kind.
pub record Kinds : Type 0 where
  pub catalog : ℕ
  pub rollback : ℕ
  pub rows : ℕ
  pub free : ℕ

-- these and the header's
abbrev pub total : Kinds → ℕ
total k = 1 + k.catalog + k.rollback + k.rows + k.free

-- The pages of each kind are no more than at opening, or few for the greatest size so far: a chain has as few as its payload needs, and where the last row page was taken no other had room.
pub record IsBudgeted (p m : ℕ) (k : Kinds) : Type 0 where
  pub first : Kinds
  pub opened : total first ≤ p
  pub catalog : (k.catalog ≤ first.catalog) ⊎ (4080 * k.catalog ≤ m + 4080)
  pub rollback : (k.rollback ≤ first.rollback) ⊎ (4080 * k.rollback ≤ 2 * m + 4082)
  pub rows : (k.rows ≤ first.rows) ⊎ (501 * k.rows ≤ m + 501)
