-- A cell that is read: its row is taken over, or there is none that may stand.
use Rattle.std.proofs.Common.{◌≡◌, ℕ, ◌+◌, ◌<◌, ◌^◌, Bool, true, false, List, [], ◌∷◌, ◌++◌, length, Option, Some, None, refl, sym, ap, ap₂, subst, ◌∙◌, arith}
use Rattle.std.specs.Prelude.{is_some}
use Rattle.wat_value.specs.declared.definition.TableDef.{TableDef}
use Rattle.wat_value.specs.Encoding.{IsEncodable}
use Rattle.wat_value.specs.Fits.{fits, key_of}
use Rattle.wat_rows.specs.Rows.{Row, NamedRow, Defs, cell_of, row_cell, IsRowOf}
use Rattle.wat_rows.proofs.Cells.{cell_same}
use Rattle.wat_directory.specs.declared.directory.Directory.{Directory}
use Rattle.wat_directory.specs.declared.row_page.RowPage.{RowPage}
use Rattle.wat_directory.specs.Known.{page_at, place_at, names_in}
use Rattle.wat_directory.specs.Steps.{SetsPage, SetsPlace}
use Rattle.wat_heap.specs.Taking.{NoRow, TakesRow}

pub none_read : (defs : Defs) (cell : List ℕ) (d : Directory) → ((table : ℕ) (row : Row) → table < 2 ^ 32 → IsEncodable row → cell ≡ row_cell table row → ⊥) → NoRow defs cell d
none_read defs cell d none it is allowed fresh = none it.name.table it.row allowed.number allowed.encodable is

some_def : (a b : TableDef) → Some a ≡ Some b → a ≡ b
some_def a b e = cc

module _ (defs : Defs) (cell : List ℕ) (d : Directory) (table : ℕ) (row : Row) (read : cell ≡ row_cell table row) (number : table < 2 ^ 32) (encodable : IsEncodable row) where
  same_row : (it : NamedRow) → cell ≡ cell_of it → IsRowOf defs it → (table ≡ it.name.table) × (row ≡ it.row)
  same_row it is allowed = cell_same table it.name.table row it.row number allowed.number encodable allowed.encodable (sym read ∙ is)

  pub none_defined : defs table ≡ None → NoRow defs cell d
  none_defined undefined it is allowed fresh =
      let s = same_row it is allowed in
      let no : None ≡ Some allowed.def = sym undefined ∙ ap defs s.0 ∙ allowed.stands in cc

  same_def : (def : TableDef) → defs table ≡ Some def → (it : NamedRow) → cell ≡ cell_of it → (allowed : IsRowOf defs it) → def ≡ allowed.def
  same_def def stands it is allowed = some_def def allowed.def (sym stands ∙ ap defs (same_row it is allowed).0 ∙ allowed.stands)

  pub none_fits : (def : TableDef) → defs table ≡ Some def → fits def row ≡ false → NoRow defs cell d
  none_fits def stands isnt it is allowed fresh =
      let s = same_row it is allowed in
      let no : false ≡ true = sym isnt ∙ ap₂ fits (same_def def stands it is allowed) s.1 ∙ allowed.fits in cc

  pub none_fresh : (def : TableDef) (key : Row) → defs table ≡ Some def → key ≡ key_of def row → is_some (place_at d table key) ≡ true → NoRow defs cell d
  none_fresh def key stands is_key some it is allowed fresh =
      let s = same_row it is allowed in
      let key_is : key ≡ it.name.key = is_key ∙ ap₂ key_of (same_def def stands it is allowed) s.1 ∙ sym allowed.key in
      let no : true ≡ false = sym some ∙ ap is_some (ap₂ (place_at d) s.0 key_is ∙ fresh) in cc

  is_none : (o : Option ℕ) → is_some o ≡ false → o ≡ None
  is_none None isnt = refl
  is_none (Some x) isnt = absurd (let no : true ≡ false = isnt in cc)

  pub takes_row : (page used : ℕ) (after : Directory) (def : TableDef) (key : Row) → defs table ≡ Some def → fits def row ≡ true → key ≡ key_of def row → is_some (place_at d table key) ≡ false
      → SetsPage page (Some (record { used = used; names = names_in (page_at d page) ++ (record { table = table; key = key }) ∷ [] })) d after → SetsPlace table key (Some page) d after
      → TakesRow defs page used cell d after
  takes_row page used after def key stands fit is_key isnt page_set place_set = record {
    it = record { name = record { table = table; key = key }; row = row };
    cell_is = read;
    allowed = record { number = number; encodable = encodable; def = def; stands = stands; fits = fit; key = is_key };
    fresh = is_none (place_at d table key) isnt;
    page_set = page_set;
    place_set = place_set;
  }
