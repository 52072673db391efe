-- The schema changes that CREATE and DROP make.
use Rattle.std.specs.Prelude.{◌≡◌, ℕ, ℤ, pos, negsuc, nat_lt, Bool, true, false, not, ◌&&◌, List, [], ◌∷◌, map, Option, Some, None, IsSomeAnd, if◌then◌else◌}
use Rattle.std.specs.List.{list_any, flat_map, filter_map}
use Rattle.std.specs.Option.{option_and_then, option_map}
use Rattle.std.specs.Str.{bytes_eq}
use Rattle.wat_value.specs.declared.definition.Kind.{Kind}
use Rattle.wat_value.specs.declared.definition.Kind.TheVariants as kind
use Rattle.wat_value.specs.declared.definition.Column.{Column}
use Rattle.wat_value.specs.declared.definition.TableDef.{TableDef}
use Rattle.wat_value.specs.declared.change.SchemaChange.{SchemaChange}
use Rattle.wat_value.specs.declared.change.SchemaChange.TheVariants as change
use Rattle.wat_ast.specs.declared.statement.TypeName.{TypeName}
use Rattle.wat_ast.specs.declared.statement.TypeName.TheVariants as type
use Rattle.wat_ast.specs.declared.statement.Element.{Element}
use Rattle.wat_ast.specs.declared.statement.Element.TheVariants as element
use Rattle.wat_ast.specs.declared.statement.Statement.{Statement}
use Rattle.wat_ast.specs.declared.statement.Statement.TheVariants.{CreateTable, CreateIndex, DropTable}
use Rattle.wat_schema.specs.Catalog.{Name, Catalog, table_named, column_at}
use Rattle.wat_schema.specs.Definitions.{number_named, next_index_at, allows}

-- A length that 16 bits don't hold is written as 0, which breaks the same rule.
abbrev pub length_of : ℤ → ℕ
length_of (pos n) = if nat_lt n 65536 then n else 0
length_of (negsuc n) = 0

abbrev pub kind_of : TypeName → Kind
kind_of type.Integer = kind.Integer
kind_of (type.Char n) = kind.Char (length_of n)
kind_of (type.Varchar n) = kind.Varchar (length_of n)

-- the column that an element writes
abbrev pub column_of : Element → Option Column
column_of (element.Column name type nullable key) = Some (record { name = name; kind = kind_of type; nullable = nullable })
column_of (element.Key names) = None

-- the primary key that an element writes
abbrev pub key_of : Element → Option (List Name)
key_of (element.Column name type nullable key) = if key then Some (name ∷ []) else None
key_of (element.Key names) = Some names

abbrev pub keys_of : List Element → List (List Name)
keys_of elements = filter_map key_of elements

-- the numbers of these columns of a table, without names that it doesn't have
abbrev pub numbers_named : Catalog → ℕ → List Name → List ℕ
numbers_named c table names = filter_map (column_at c table) names

-- A primary key column is NOT NULL.
unfoldable pub with_key : List Name → Column → Column
with_key key column =
    record { name = column.name; kind = column.kind; nullable = column.nullable && not (list_any (λ name. bytes_eq name column.name) key) }

-- the table of these columns with this primary key
abbrev pub made_table : ℕ → Name → List Column → List Name → TableDef
made_table number name columns key = record {
  number = number;
  name = name;
  columns = map (with_key key) columns;
  key = map (number_named columns) key;
}

abbrev pub made_index : Catalog → Name → ℕ → List Name → ℕ → SchemaChange
made_index c name table columns number =
    change.CreateIndex (record { number = number; table = table; name = name; columns = numbers_named c table columns })

abbrev pub index_change : Catalog → Name → Name → List Name → Option SchemaChange
index_change c name table columns =
    option_and_then (λ number. option_map (made_index c name number columns) (next_index_at c number)) (table_named c table)

-- the schema change of CREATE and DROP
abbrev pub change_of : Catalog → Statement → Option SchemaChange
change_of c (CreateTable name elements) =
    Some (change.CreateTable (made_table c.next name (filter_map column_of elements) (flat_map (λ key. key) (keys_of elements))))
change_of c (CreateIndex name table columns) = index_change c name table columns
change_of c (DropTable name) = option_map change.DropTable (table_named c name)
change_of c s = None

-- CREATE and DROP
abbrev pub changes_schema : Statement → Bool
changes_schema (CreateTable name elements) = true
changes_schema (CreateIndex name table columns) = true
changes_schema (DropTable name) = true
changes_schema s = false

-- The statement is a CREATE or DROP whose change the schema allows.
abbrev pub IsAllowed : Catalog → Statement → Type 0
IsAllowed c s = IsSomeAnd (change_of c s) (λ change. allows change c ≡ true)
