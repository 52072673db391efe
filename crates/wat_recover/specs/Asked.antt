-- What a change asks of its table's definition, and which changes are of the row with a key.
use Rattle.std.specs.Prelude.{ℕ, ◌==◌, ◌&&◌, Bool, true, false, List, Option, Some, None}
use Rattle.wat_value.specs.declared.value.Value.{Value}
use Rattle.wat_value.specs.declared.definition.TableDef.{TableDef}
use Rattle.wat_value.specs.declared.change.Change.{Change}
use Rattle.wat_value.specs.declared.change.Change.TheVariants.{Insert, Update, Delete}
use Rattle.wat_value.specs.Changes.{changed_table}
use Rattle.wat_value.specs.Fits.{fits, key_of}
use Rattle.wat_value.specs.Order.{key_eq}
use Rattle.wat_schema.specs.Catalog.{Catalog, def_at}
use Rattle.wat_schema.specs.Changes.{changed_key}

-- the row that comes, or that stands before
abbrev pub row_in : Change → List Value
row_in (Insert table row) = row
row_in (Update table before after) = before
row_in (Delete table before) = before

-- the row after the change fits, with the key of the one before
abbrev pub fits_change : TableDef → Change → Bool
fits_change def (Insert table row) = fits def row
fits_change def (Update table before after) = key_eq (key_of def before) (key_of def after) && fits def after
fits_change def (Delete table before) = true

abbrev pub has_changed_key : Option TableDef → List Value → Change → Bool
has_changed_key None key change = false
has_changed_key (Some def) key change = key_eq key (changed_key def change)

-- the change is of the row of that table with that key
abbrev pub is_of_row : Catalog → ℕ → List Value → Change → Bool
is_of_row c table key change = (table == changed_table change) && has_changed_key (def_at c table) key change
