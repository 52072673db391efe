-- Tables as lists, and as a function from the names of rows to what stands there.
use Rattle.std.specs.Prelude.{◌≡◌, true, Option, Some}
use Rattle.wat_value.specs.Changes.{RowName}
use Rattle.wat_value.specs.Fits.{fits, key_of}
use Rattle.wat_schema.specs.Catalog.{Catalog, Listing, listing_at}
use Rattle.wat_schema.specs.Tables.{Row, Tables, IsTables, catalog_of, row_at}

-- the row of that name
abbrev pub look : Tables → RowName → Option Row
look t r = row_at t r.table r.key

-- the lists are tables of this schema, with these rows
pub record IsOf (c : Catalog) (f : RowName → Option Row) (t : Tables) : Type 0 where
  pub tables : IsTables t
  pub schema : catalog_of t ≡ c
  pub rows : (r : RowName) → look t r ≡ f r

-- the rows fit their definitions, and have the keys by which they are named
abbrev pub RowsFit : Catalog → (RowName → Option Row) → Type 0
RowsFit c f = (r : RowName) (l : Listing) (row : Row) → listing_at c r.table ≡ Some l → f r ≡ Some row → (fits l.def row ≡ true) × (key_of l.def row ≡ r.key)
