-- The bytes of records, and of what they hold.
use Rattle.std.specs.Prelude.{◌≡◌, ℕ, ◌<◌, ◌≤◌, ◌^◌, Bool, true, false, List, [], ◌∷◌, ◌++◌, length, take}
use Rattle.std.specs.List.{flat_map, AllByRecursion}
use Rattle.std.specs.Int.{w32, to_be_bytes}
use Rattle.wat_word.specs.Words.{is_name}
use Rattle.wat_value.specs.Encoding.{count_bytes, row_bytes, IsEncodable, IsShort}
use Rattle.wat_value.specs.declared.definition.Kind.{Kind}
use Rattle.wat_value.specs.declared.definition.Kind.TheVariants.{Integer, Char, Varchar}
use Rattle.wat_value.specs.declared.definition.Column.{Column}
use Rattle.wat_value.specs.declared.definition.TableDef.{TableDef}
use Rattle.wat_value.specs.declared.definition.IndexDef.{IndexDef}
use Rattle.wat_value.specs.declared.change.Change.{Change}
use Rattle.wat_value.specs.declared.change.Change.TheVariants.{Insert, Update, Delete}
use Rattle.wat_value.specs.declared.change.SchemaChange.{SchemaChange}
use Rattle.wat_value.specs.declared.change.SchemaChange.TheVariants.{CreateTable, DropTable, CreateIndex}
use Rattle.wat_log_record.specs.declared.log_record.LogRecord.{LogRecord}
use Rattle.wat_log_record.specs.declared.log_record.LogRecord.TheVariants.{Changed, UndoTo, Commit, Rollback, Schema}

-- ---- the bytes

-- a number of a table, or of changes: 4 bytes, the highest first
unfoldable pub number_bytes : ℕ → List ℕ
number_bytes n = to_be_bytes w32 n

-- bytes behind their number, which is one byte
abbrev pub counted_bytes : List ℕ → List ℕ
counted_bytes bytes = length bytes ∷ bytes

-- the kind of a column: a byte, and the greatest length of its texts, which is 0 for integers
abbrev pub kind_bytes : Kind → List ℕ
kind_bytes Integer = 1 ∷ count_bytes 0
kind_bytes (Char n) = 2 ∷ count_bytes n
kind_bytes (Varchar n) = 3 ∷ count_bytes n

-- whether NULL is allowed
abbrev pub flag_bytes : Bool → List ℕ
flag_bytes true = 1 ∷ []
flag_bytes false = 0 ∷ []

abbrev pub column_bytes : Column → List ℕ
column_bytes column = counted_bytes column.name ++ (kind_bytes column.kind ++ flag_bytes column.nullable)

-- columns behind their number
abbrev pub columns_bytes : List Column → List ℕ
columns_bytes columns = length columns ∷ flat_map column_bytes columns

-- a table: its number, its name, its columns, and the numbers of its key columns
abbrev pub table_bytes : TableDef → List ℕ
table_bytes def = number_bytes def.number ++ (counted_bytes def.name ++ (columns_bytes def.columns ++ counted_bytes def.key))

-- an index: its number, its table, its name, and the numbers of its columns
abbrev pub index_bytes : IndexDef → List ℕ
index_bytes index = (index.number ∷ []) ++ (number_bytes index.table ++ (counted_bytes index.name ++ counted_bytes index.columns))

abbrev pub change_bytes : Change → List ℕ
change_bytes (Insert table row) = 1 ∷ (number_bytes table ++ row_bytes row)
change_bytes (Update table before after) = 2 ∷ (number_bytes table ++ (row_bytes before ++ row_bytes after))
change_bytes (Delete table before) = 3 ∷ (number_bytes table ++ row_bytes before)

abbrev pub schema_bytes : SchemaChange → List ℕ
schema_bytes (CreateTable def) = 1 ∷ table_bytes def
schema_bytes (DropTable table) = 2 ∷ number_bytes table
schema_bytes (CreateIndex index) = 3 ∷ index_bytes index

-- a record: a byte for what it tells, the connection, and the rest
abbrev pub record_bytes : LogRecord → List ℕ
record_bytes (Changed conn change) = 1 ∷ (count_bytes conn ++ change_bytes change)
record_bytes (UndoTo conn count) = 2 ∷ (count_bytes conn ++ number_bytes count)
record_bytes (Commit conn) = 3 ∷ count_bytes conn
record_bytes (Rollback conn) = 4 ∷ count_bytes conn
record_bytes (Schema change) = 5 ∷ schema_bytes change

-- ---- what can be spelled

abbrev pub IsCount : ℕ → Type 0
IsCount n = n < 2 ^ 16

abbrev pub IsNumber : ℕ → Type 0
IsNumber n = n < 2 ^ 32

-- a name of the language, and so 1 to 128 bytes
abbrev pub IsName : List ℕ → Type 0
IsName name = is_name name ≡ true

-- numbers of columns
abbrev pub AreFew : List ℕ → Type 0
AreFew numbers = length numbers < 256

-- a length has two bytes
abbrev pub IsEncodableKind : Kind → Type 0
IsEncodableKind Integer = Unit {0}
IsEncodableKind (Char n) = IsCount n
IsEncodableKind (Varchar n) = IsCount n

pub record IsEncodableColumn (column : Column) : Type 0 where
  pub name : IsName column.name
  pub kind : IsEncodableKind column.kind

pub record AreEncodableColumns (columns : List Column) : Type 0 where
  pub few : length columns < 256
  pub each : AllByRecursion IsEncodableColumn columns

pub record IsEncodableTable (def : TableDef) : Type 0 where
  pub number : IsNumber def.number
  pub name : IsName def.name
  pub columns : AreEncodableColumns def.columns
  pub key : AreFew def.key

pub record IsEncodableIndex (index : IndexDef) : Type 0 where
  pub number : 1 ≤ index.number
  pub table : IsNumber index.table
  pub name : IsName index.name
  pub columns : AreFew index.columns

abbrev pub IsEncodableChange : Change → Type 0
IsEncodableChange (Insert table row) = IsNumber table × IsEncodable row
IsEncodableChange (Update table before after) = IsNumber table × (IsEncodable before × IsEncodable after)
IsEncodableChange (Delete table before) = IsNumber table × IsEncodable before

abbrev pub IsEncodableSchema : SchemaChange → Type 0
IsEncodableSchema (CreateTable def) = IsEncodableTable def
IsEncodableSchema (DropTable table) = IsNumber table
IsEncodableSchema (CreateIndex index) = IsEncodableIndex index

abbrev pub IsEncodableRecord : LogRecord → Type 0
IsEncodableRecord (Changed conn change) = IsCount conn × IsEncodableChange change
IsEncodableRecord (UndoTo conn count) = IsCount conn × IsNumber count
IsEncodableRecord (Commit conn) = IsCount conn
IsEncodableRecord (Rollback conn) = IsCount conn
IsEncodableRecord (Schema change) = IsEncodableSchema change

-- ---- what is asked of a record that is written: the rest follows from its type

pub record IsWritableTable (def : TableDef) : Type 0 where
  pub columns : length def.columns < 256
  pub key : length def.key < 256

pub record IsWritableIndex (index : IndexDef) : Type 0 where
  pub number : 1 ≤ index.number
  pub columns : length index.columns < 256

-- each row has fewer than 65,536 values, and each of its texts fewer than 65,536 bytes
abbrev pub IsWritableChange : Change → Type 0
IsWritableChange (Insert table row) = IsShort row
IsWritableChange (Update table before after) = IsShort before × IsShort after
IsWritableChange (Delete table before) = IsShort before

abbrev pub IsWritableSchema : SchemaChange → Type 0
IsWritableSchema (CreateTable def) = IsWritableTable def
IsWritableSchema (DropTable table) = Unit {0}
IsWritableSchema (CreateIndex index) = IsWritableIndex index

abbrev pub IsWritable : LogRecord → Type 0
IsWritable (Changed conn change) = IsWritableChange change
IsWritable (UndoTo conn count) = Unit {0}
IsWritable (Commit conn) = Unit {0}
IsWritable (Rollback conn) = Unit {0}
IsWritable (Schema change) = IsWritableSchema change

-- ---- what bytes spell

-- the first n bytes spell the record
pub record SpellsRecord (bytes : List ℕ) (entry : LogRecord) (n : ℕ) : Type 0 where
  pub within : n ≤ length bytes
  pub spelled : take n bytes ≡ record_bytes entry
  pub encodable : IsEncodableRecord entry

-- the bytes begin with no record's bytes
abbrev pub SpellsNoRecord : List ℕ → Type 0
SpellsNoRecord bytes = (entry : LogRecord) → IsEncodableRecord entry → (rest : List ℕ) → bytes ≡ record_bytes entry ++ rest → ⊥
