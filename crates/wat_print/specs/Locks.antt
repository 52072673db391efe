-- How locks are written, by the names of tables and indexes.
use Rattle.std.specs.Prelude.{ℕ, ◌-◌, ◌==◌, List, ◌++◌, slice_get, codes, decimal, Option, None, Some, if◌then◌else◌}
use Rattle.std.specs.List.{find}
use Rattle.std.specs.Option.{option_and_then}
use Rattle.wat_value.specs.declared.place.Place.{Place}
use Rattle.wat_value.specs.declared.place.Place.TheVariants.{At, End}
use Rattle.wat_locks.specs.declared.lock.LockKind.{LockKind}
use Rattle.wat_locks.specs.declared.lock.LockKind.TheVariants.{Read, Write, Phantom, AntiPhantom}
use Rattle.wat_locks.specs.declared.lock.Resource.{Resource}
use Rattle.wat_locks.specs.declared.lock.Resource.TheVariants.{Row, Gap}
use Rattle.wat_locks.specs.declared.lock.Lock.{Lock}
use Rattle.wat_conn.specs.declared.session.TableName.{TableName}
use Rattle.wat_print.specs.Literal.{row_text}

-- the names of the table with the number
abbrev pub names_at : List TableName → ℕ → Option TableName
names_at names table = find (λ n. table == n.number) names

-- a name, or a number where there is none
abbrev pub name_or_number : Option (List ℕ) → ℕ → List ℕ
name_or_number None number = decimal number
name_or_number (Some name) number = name

abbrev pub table_name : Option TableName → Option (List ℕ)
table_name None = None
table_name (Some n) = Some n.name

-- the name of an index, of which the first has the number 1
abbrev pub index_name : ℕ → TableName → Option (List ℕ)
index_name index n = slice_get n.indexes (index - 1)

-- TABLE
abbrev pub table_text : List TableName → ℕ → List ℕ
table_text names table = name_or_number (table_name (names_at names table)) table

-- INDEX, which is `primary` for the primary key
abbrev pub index_text : List TableName → ℕ → ℕ → List ℕ
index_text names table index = if index == 0 then codes "primary" else name_or_number (option_and_then (index_name index) (names_at names table)) index

-- KEY, or `end`
abbrev pub place_text : Place → List ℕ
place_text (At key) = row_text key
place_text End = codes "end"

-- TABLE KEY, or TABLE.INDEX KEY
abbrev pub resource_text : List TableName → Resource → List ℕ
resource_text names (Row table key) = table_text names table ++ codes " " ++ row_text key
resource_text names (Gap table index place) = table_text names table ++ codes "." ++ index_text names table index ++ codes " " ++ place_text place

abbrev pub kind_text : LockKind → List ℕ
kind_text Read = codes "read on "
kind_text Write = codes "write on "
kind_text Phantom = codes "phantom on "
kind_text AntiPhantom = codes "anti-phantom on "

abbrev pub lock_text : List TableName → Lock → List ℕ
lock_text names lock = kind_text lock.kind ++ resource_text names lock.resource
