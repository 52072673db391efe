-- The key of a row in an index, and the row that a key of an index belongs to, by the definitions of tables and indexes.
use Rattle.std.proofs.Common.{◌≡◌, ℕ, ◌==◌, Bool, true, false, ◌&&◌, if◌then◌else◌, List, [], ◌∷◌, ◌++◌, length, drop, Option, Some, None, refl, sym, ap, ◌∙◌}
use Rattle.std.specs.List.{list_any}
use Rattle.std.specs.declared.cmp.Ordering.{Ordering}
use Rattle.std.specs.declared.cmp.Ordering.TheVariants.{Less, Equal, Greater}
use Rattle.std.specs.Ordering.{is_eq}
use Rattle.std.proofs.lemmas.Bool.{and_parts, and_from, eqb-true, eq-eqb}
use Rattle.wat_value.specs.declared.value.Value.{Value}
use Rattle.wat_value.specs.Changes.{RowName, row_name}
use Rattle.wat_value.specs.Fits.{key_of, values_in}
use Rattle.wat_value.specs.Indexes.{index_columns, index_numbers, index_key}
use Rattle.wat_value.specs.Order.{key_cmp}
use Rattle.wat_value.specs.OrderLaws.{key_cmp_level, key_cmp_refl}
use Rattle.wat_schema.specs.Catalog.{Catalog, Listing, listing_at}
use Rattle.wat_isolation.specs.Rows.{Scheme}
use Rattle.wat_isolation.specs.Sql.{IndexName, sql}

-- the table has an index of this number
abbrev pub is_indexed : Listing → ℕ → Bool
is_indexed l index = list_any (λ n. n == index) (index_numbers l.indexes)

-- two lists of values are the same
abbrev pub same_key : List Value → List Value → Bool
same_key a b = is_eq (key_cmp a b)

-- the key of the row with this name: none where the index is of another table, or the row has another primary key
abbrev pub key_here : IndexName → RowName → List Value → Option Listing → Option (List Value)
key_here i r row None = None
key_here i r row (Some l) = if (i.table == r.table) && (is_indexed l i.index && same_key (key_of l.def row) r.key) then Some (index_key l.def l.indexes i.index row) else None

unfoldable pub key_in : Catalog → IndexName → RowName → List Value → Option (List Value)
key_in c i r row = key_here i r row (listing_at c i.table)

-- so many columns of the index's own come before those of the primary key
abbrev pub width_before : IndexName → Option Listing → ℕ
width_before i None = 0
width_before i (Some l) = length (index_columns l.indexes i.index)

-- the row whose primary key stands at the end of the key
unfoldable pub owner_in : Catalog → IndexName → List Value → RowName
owner_in c i x = record { table = i.table; key = drop (width_before i (listing_at c i.table)) x }

-- ---- a key of an index holds the primary key of its row

at_equal : (c : Ordering) → is_eq c ≡ true → c ≡ Equal
at_equal Less e = cc
at_equal Equal e = refl
at_equal Greater e = cc

pub same_key_is : (a b : List Value) → same_key a b ≡ true → a ≡ b
same_key_is a b e = key_cmp_level a b (at_equal (key_cmp a b) e)

pub same_key_self : (a : List Value) → same_key a a ≡ true
same_key_self a = ap is_eq (key_cmp_refl a)

behind_own : (row : List Value) (own key : List ℕ) → drop (length own) (values_in row (own ++ key)) ≡ values_in row key
behind_own row [] key = refl
behind_own row (column ∷ own) key = behind_own row own key

-- what a key says of its row
pub record KeyOf (c : Catalog) (i : IndexName) (r : RowName) (row x : List Value) : Type 0 where
  pub listing : Listing
  pub stands : listing_at c i.table ≡ Some listing
  pub table : i.table ≡ r.table
  pub indexed : is_indexed listing i.index ≡ true
  pub primary : key_of listing.def row ≡ r.key
  pub key : index_key listing.def listing.indexes i.index row ≡ x

pub key_parts : (c : Catalog) (i : IndexName) (r : RowName) (row x : List Value) → key_in c i r row ≡ Some x → KeyOf c i r row x
unfolding key_in
key_parts c i r row x h = by (listing_at c i.table) refl h
  where
    tests : (l : Listing) (b : Bool) → ((i.table == r.table) && (is_indexed l i.index && same_key (key_of l.def row) r.key)) ≡ b → listing_at c i.table ≡ Some l
        → (if b then Some (index_key l.def l.indexes i.index row) else None) ≡ Some x → KeyOf c i r row x
    tests l true e at k =
        let p = and_parts (i.table == r.table) (is_indexed l i.index && same_key (key_of l.def row) r.key) e in
        let q = and_parts (is_indexed l i.index) (same_key (key_of l.def row) r.key) p.1 in
        record { listing = l; stands = at; table = eqb-true i.table r.table p.0; indexed = q.0; primary = same_key_is (key_of l.def row) r.key q.1; key = cc }
    tests l false e at k = cc

    by : (o : Option Listing) → listing_at c i.table ≡ o → key_here i r row o ≡ Some x → KeyOf c i r row x
    by None e k = cc
    by (Some l) e k = tests l ((i.table == r.table) && (is_indexed l i.index && same_key (key_of l.def row) r.key)) refl e k

pub owned : (c : Catalog) (i : IndexName) (r : RowName) (row x : List Value) → key_in c i r row ≡ Some x → owner_in c i x ≡ r
unfolding owner_in
owned c i r row x h =
    let k : KeyOf c i r row x = key_parts c i r row x h in
    let primary : drop (width_before i (listing_at c i.table)) x ≡ r.key =
    ap (λ o. drop (width_before i o) x) k.stands
    ∙ (ap (drop (length (index_columns k.listing.indexes i.index))) (sym k.key) ∙ (behind_own row (index_columns k.listing.indexes i.index) k.listing.def.key ∙ k.primary)) in
    λ j. record { table = k.table j; key = primary j }

-- The indexes of the tables that stand.
abbrev pub scheme_of : Catalog → Scheme sql
scheme_of c = record { key = key_in c; row_of = owner_in c; owned = owned c }
