-- A row of a table that stands has its key in each index of it.
use Rattle.std.proofs.Common.{◌≡◌, ℕ, ◌==◌, ◌&&◌, true, if◌then◌else◌, List, Option, Some, None, refl, ap, ◌∙◌}
use Rattle.std.proofs.lemmas.Bool.{and_from, eq-eqb}
use Rattle.wat_value.specs.declared.value.Value.{Value}
use Rattle.wat_value.specs.Changes.{row_name}
use Rattle.wat_value.specs.Fits.{key_of}
use Rattle.wat_value.specs.Indexes.{index_key}
use Rattle.wat_schema.specs.Catalog.{Catalog, Listing, listing_at}
use Rattle.wat_isolation.specs.Naming.{is_indexed, same_key, same_key_self, key_here, key_in}

pub has_key_in : (c : Catalog) (l : Listing) (index : ℕ) (row : List Value) → listing_at c l.def.number ≡ Some l → is_indexed l index ≡ true
    → key_in c (record { table = l.def.number; index = index }) (row_name l.def row) row ≡ Some (index_key l.def l.indexes index row)
unfolding key_in
has_key_in c l index row at has =
    ap (key_here (record { table = l.def.number; index = index }) (row_name l.def row) row) at
    ∙ ap (λ b. if b then Some (index_key l.def l.indexes index row) else None)
    (and_from (l.def.number == l.def.number) (is_indexed l index && same_key (key_of l.def row) (key_of l.def row)) (eq-eqb l.def.number l.def.number refl)
    (and_from (is_indexed l index) (same_key (key_of l.def row) (key_of l.def row)) has (same_key_self (key_of l.def row))))
