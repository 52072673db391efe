-- Which changes are of one row.
use Rattle.std.specs.Prelude.{◌==◌, ◌&&◌, Bool, false, List, Option, Some, None}
use Rattle.wat_value.specs.declared.value.Value.{Value}
use Rattle.wat_value.specs.declared.definition.TableDef.{TableDef}
use Rattle.wat_value.specs.declared.change.Change.{Change}
use Rattle.wat_value.specs.Changes.{changed_row, changed_table}
use Rattle.wat_value.specs.Order.{key_eq}
use Rattle.wat_schema.specs.Catalog.{Catalog, def_at}

-- the primary key of the row that a change is about
abbrev pub changed_key : TableDef → Change → List Value
changed_key def change = (changed_row def change).key

-- two changes of a table have one key
abbrev pub have_one_key : Option TableDef → Change → Change → Bool
have_one_key None a b = false
have_one_key (Some def) a b = key_eq (changed_key def a) (changed_key def b)

-- two changes are of one row
abbrev pub are_of_one_row : Catalog → Change → Change → Bool
are_of_one_row c a b = (changed_table a == changed_table b) && have_one_key (def_at c (changed_table a)) a b
