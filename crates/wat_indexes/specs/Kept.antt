-- Indexes that are kept beside the rows of tables.
use Rattle.std.specs.Prelude.{◌≡◌, ◌==◌, ◌&&◌, ◌↔◌, ℕ, Bool, true, List, [], Option, Some, None, if◌then◌else◌}
use Rattle.std.specs.List.{find}
use Rattle.wat_list.specs.Has.{Has}
use Rattle.wat_list.specs.Rising.{rising}
use Rattle.wat_value.specs.Changes.{RowName}
use Rattle.wat_value.specs.Fits.{values_in}
use Rattle.wat_value.specs.Indexes.{key_columns}
use Rattle.wat_value.specs.Order.{key_cmp}
use Rattle.wat_schema.specs.Catalog.{Catalog, Listing, listing_at}
use Rattle.wat_schema.specs.Tables.{Row}
use Rattle.wat_isolation.specs.Naming.{is_indexed, scheme_of}
use Rattle.wat_isolation.specs.Rows.{Lookup}
use Rattle.wat_isolation.specs.Sql.{sql, IndexName}
use Rattle.wat_index.specs.KeySets.{Key, with_key, without_key}

-- an index of a table: its number, the columns of its keys, and the keys that it has, in order
pub record Kept : Type 0 where
  pub table : ℕ
  pub index : ℕ
  pub columns : List ℕ
  pub keys : List Key

abbrev pub is_of : IndexName → Kept → Bool
is_of i k = (i.table == k.table) && (i.index == k.index)

abbrev pub kept_at : List Kept → IndexName → Option Kept
kept_at kept i = find (is_of i) kept

abbrev pub keys_of : Option Kept → List Key
keys_of None = []
keys_of (Some k) = k.keys

-- the keys without that of the row that stood, and with that of the row that stands
abbrev pub key_left : List ℕ → Option Row → List Key → List Key
key_left columns None keys = keys
key_left columns (Some row) keys = without_key (values_in row columns) keys

abbrev pub key_entered : List ℕ → Option Row → List Key → List Key
key_entered columns None keys = keys
key_entered columns (Some row) keys = with_key (values_in row columns) keys

-- an index where a row of the table is another than it was
abbrev pub with_row_changed : ℕ → Option Row → Option Row → Kept → Kept
with_row_changed table before after k = if table == k.table then record k { keys = key_entered k.columns after (key_left k.columns before k.keys) } else k

-- ---- what indexes have to do with rows

-- An index that is kept has the columns of that index of the table, and the keys of the rows that stand, in order.
pub record HasKeys (c : Catalog) (f : RowName → Option Row) (i : IndexName) (k : Kept) : Type 0 where
  pub listing : Listing
  pub stands : listing_at c i.table ≡ Some listing
  pub indexed : is_indexed listing i.index ≡ true
  pub columns : k.columns ≡ key_columns listing.def listing.indexes i.index
  pub in_order : rising key_cmp k.keys ≡ true
  pub keys : (x : Key) → Has x k.keys ↔ ((row : Row) × Lookup sql (scheme_of c) i f x row)

-- None but such an index of a table that stands is kept, and each of these.
abbrev pub IsIndex : Catalog → (RowName → Option Row) → IndexName → Option Kept → Type 0
IsIndex c f i None = (listing : Listing) → listing_at c i.table ≡ Some listing → is_indexed listing i.index ≡ true → ⊥
IsIndex c f i (Some k) = HasKeys c f i k

abbrev pub AreKept : Catalog → (RowName → Option Row) → List Kept → Type 0
AreKept c f kept = (i : IndexName) → IsIndex c f i (kept_at kept i)
