-- What a schema is kept with, as tables and indexes come and go.
use Rattle.std.proofs.Common.{◌≡◌, ℕ, ◌+◌, ◌<◌, ◌≤◌, Bool, true, false, ◌&&◌, ◌||◌, List, [], ◌∷◌, ◌++◌, map, take, length, get_or, set, slice_get, Some, None, not, nat_lt, is_none, IsSome, nat_le, zero, suc, max, refl, sym, ap, ap₂, subst, ◌∙◌, ◌==◌, arith}
use Rattle.std.specs.List.{list_any, remove, range_with_len, fold, position_from}
use Rattle.std.specs.Str.{bytes_eq}
use Rattle.std.proofs.lemmas.Bool.{and_parts, and_from, or_parts, not-true, eqb-true, leb-true, leb-false, le-leb}
use Rattle.std.proofs.lemmas.List.{map-append, take_more, length_push}
use Rattle.indexmap.specs.IndexSet.{insert_key}
use Rattle.wat_value.specs.declared.definition.Column.{Column}
use Rattle.wat_value.specs.declared.definition.TableDef.{TableDef}
use Rattle.wat_value.specs.declared.definition.IndexDef.{IndexDef}
use Rattle.wat_schema.specs.Catalog.{Name, Catalog, Listing, ascend, numbers_of, has_name, has_index_named, listing_at, listing_named, repeats}
use Rattle.wat_schema.specs.Definitions.{allows_index, allows_index_here, allows_index_of, allows_table, bad_definition, bad_index, index_rules, is_definition, is_full, may_be_null, next_index, same_name, table_rules}
use Rattle.wat_schema.specs.Kept.{IsListing, IsKept}
use Rattle.wat_schema.proofs.Order.{ascend-next, higher, ascend-remove, fresh_number, fresh_item, map-remove, map-set_same, list_any-map, list_any-found, range-next}

-- ---- the numbers of indexes

greatest : (a n : ℕ) → fold max a (range_with_len (a + 1) n) ≡ a + n
greatest a zero = omega arith
greatest a (suc n) =
    let larger : max a (a + 1) ≡ a + 1 = omega arith in
    ap (λ m. fold max m (range_with_len (a + 1 + 1) n)) larger ∙ greatest (a + 1) n ∙ omega arith

pub next_index_is : (t : Listing) → IsListing t → next_index t ≡ length t.indexes + 1
next_index_is t is = ap (λ ns. suc (fold max 0 ns)) is.numbers ∙ ap suc (greatest 0 (length t.indexes)) ∙ omega arith

pub listing_more : (t : Listing) (index : IndexDef) → IsListing t → length t.indexes < 8 → index.number ≡ next_index t → IsListing (record t { indexes = t.indexes ++ index ∷ [] })
listing_more t index is few next =
    let long = length_push t.indexes index in
    let number : index.number ≡ 1 + length t.indexes = next ∙ next_index_is t is ∙ omega arith in
    let counted : map (λ i. i.number) (t.indexes ++ index ∷ []) ≡ range_with_len 1 (suc (length t.indexes)) =
    map-append (λ i. i.number) t.indexes (index ∷ []) ∙ ap₂ (λ a n. a ++ n ∷ []) is.numbers number ∙ sym (range-next 1 (length t.indexes)) in
    record {
      columns = is.columns;
      key = is.key;
      indexes = omega arith;
      numbers = counted ∙ ap (range_with_len 1) (sym (let e : length (t.indexes ++ index ∷ []) ≡ suc (length t.indexes) = omega arith in e));
    }

-- ---- keys that are texts

module _ {K : Type 0} (bytes : K → Name) where
  -- a new key goes last
  pub insert-fresh : (ks : List K) (k : K) → list_any (bytes_eq (bytes k)) (map bytes ks) ≡ false
      → map bytes (insert_key (λ a b. bytes_eq (bytes a) (bytes b)) ks k) ≡ map bytes ks ++ bytes k ∷ []
  insert-fresh ks k fresh =
      let none : list_any (λ b. bytes_eq (bytes k) (bytes b)) ks ≡ false = sym (list_any-map (bytes_eq (bytes k)) bytes ks) ∙ fresh in
      rw none (map-append bytes ks (k ∷ []))

  -- the names of the columns so far, and the next one
  pub names_more : (ks : List K) (k : K) (columns : List Column) (i : ℕ) (d : Column) → map bytes ks ≡ map (λ column. column.name) (take i columns)
      → i < length columns → repeats same_name columns ≡ false → bytes k ≡ (get_or columns i d).name
      → map bytes (insert_key (λ a b. bytes_eq (bytes a) (bytes b)) ks k) ≡ map (λ column. column.name) (take (i + 1) columns)
  names_more ks k columns i d so_far within distinct is =
      let fresh : list_any (bytes_eq (bytes k)) (map bytes ks) ≡ false =
      ap₂ (λ n ns. list_any (bytes_eq n) ns) is so_far
      ∙ list_any-map (bytes_eq (get_or columns i d).name) (λ column. column.name) (take i columns)
      ∙ fresh_item same_name columns i d within distinct in
      insert-fresh ks k fresh ∙ ap₂ (λ ns n. ns ++ n ∷ []) so_far is
      ∙ sym (map-append (λ column. column.name) (take i columns) (get_or columns i d ∷ []))
      ∙ ap (map (λ column. column.name)) (sym (take_more columns i d within))

-- ---- tables

module _ {K : Type 0} (bytes : K → Name) where
  -- a table goes
  pub kept_without : (tables : List Listing) (next : ℕ) (numbers : List ℕ) (names : List K) (i : ℕ) → IsKept (record { tables = tables; next = next }) numbers (map bytes names)
      → IsKept (record { tables = remove tables i; next = next }) (remove numbers i) (map bytes (remove names i))
  kept_without tables next numbers names i kept =
      let parts = and_parts (nat_le 1 next) (ascend 0 (numbers_of tables) next) kept.order in
      record {
        order = and_from (nat_le 1 next) (ascend 0 (numbers_of (remove tables i)) next) parts.0
            (rw (map-remove (λ t. t.def.number) tables i) (ascend-remove 0 (numbers_of tables) next i parts.1));
        numbers = ap (λ ns. remove ns i) kept.numbers ∙ sym (map-remove (λ t. t.def.number) tables i);
        names = map-remove bytes names i ∙ ap (λ ns. remove ns i) kept.names ∙ sym (map-remove (λ t. t.def.name) tables i);
      }

  -- a table comes
  pub kept_with : (tables : List Listing) (next : ℕ) (numbers : List ℕ) (names : List K) (t : Listing) (name : K)
      → IsKept (record { tables = tables; next = next }) numbers (map bytes names) → t.def.number ≡ next → bytes name ≡ t.def.name
      → is_none (listing_named (record { tables = tables; next = next }) t.def.name) ≡ true
      → IsKept (record { tables = tables ++ t ∷ []; next = next + 1 }) (insert_key ◌==◌ numbers next) (map bytes (insert_key (λ a b. bytes_eq (bytes a) (bytes b)) names name))
  kept_with tables next numbers names t name kept number called free =
      let parts = and_parts (nat_le 1 next) (ascend 0 (numbers_of tables) next) kept.order in
      let some = leb-true 1 next parts.0 in
      let fresh : list_any (λ n. next == n) numbers ≡ false = ap (list_any (λ n. next == n)) kept.numbers ∙ fresh_number 0 (numbers_of tables) next parts.1 in
      let fresh_name : list_any (bytes_eq (bytes name)) (map bytes names) ≡ false =
      ap₂ (λ n ns. list_any (bytes_eq n) ns) called kept.names ∙ list_any-map (bytes_eq t.def.name) (λ t. t.def.name) tables
      ∙ list_any-found (has_name t.def.name) tables free in
      record {
        order = and_from (nat_le 1 (next + 1)) (ascend 0 (numbers_of (tables ++ t ∷ [])) (next + 1)) (le-leb 1 (next + 1) (omega arith))
            (rw (map-append (λ t. t.def.number) tables (t ∷ []), number) (ascend-next 0 (numbers_of tables) next (omega arith) parts.1));
        numbers = rw fresh (ap₂ (λ ns n. ns ++ n ∷ []) kept.numbers (sym number) ∙ sym (map-append (λ t. t.def.number) tables (t ∷ [])));
        names = insert-fresh bytes names name fresh_name ∙ ap₂ (λ ns n. ns ++ n ∷ []) kept.names called ∙ sym (map-append (λ t. t.def.name) tables (t ∷ []));
      }

-- the indexes of a table change
pub kept_set : (tables : List Listing) (next : ℕ) (numbers : List ℕ) (names : List Name) (i : ℕ) (x y : Listing) → IsKept (record { tables = tables; next = next }) numbers names
    → slice_get tables i ≡ Some x → y.def ≡ x.def → IsKept (record { tables = set tables i y; next = next }) numbers names
kept_set tables next numbers names i x y kept at same =
    let same_numbers = map-set_same (λ t. t.def.number) tables i x y at (ap (λ d. d.number) same) in
    let same_names = map-set_same (λ t. t.def.name) tables i x y at (ap (λ d. d.name) same) in
    record {
      order = rw same_numbers kept.order;
      numbers = kept.numbers ∙ sym same_numbers;
      names = kept.names ∙ sym same_names;
    }

-- numbers are left unused
pub kept_from : (tables : List Listing) (next more : ℕ) (numbers : List ℕ) (names : List Name) → IsKept (record { tables = tables; next = next }) numbers names
    → next ≤ more → IsKept (record { tables = tables; next = more }) numbers names
kept_from tables next more numbers names kept less =
    let parts = and_parts (nat_le 1 next) (ascend 0 (numbers_of tables) next) kept.order in
    let some = leb-true 1 next parts.0 in
    record {
      order = and_from (nat_le 1 more) (ascend 0 (numbers_of tables) more) (le-leb 1 more (omega arith)) (higher 0 (numbers_of tables) next more less parts.1);
      numbers = kept.numbers;
      names = kept.names;
    }

abbrev pub with_tables : ℕ → List Listing → Catalog
with_tables next tables = record { tables = tables; next = next }

abbrev pub unindexed : TableDef → Listing
unindexed def = record { def = def; indexes = [] }

abbrev pub indexed : Listing → IndexDef → Listing
indexed t index = record t { indexes = t.indexes ++ index ∷ [] }

-- ---- what an allowed change says

-- where no rule is broken, each isn't
pub none_broken : (rules : List Bool) (n i : ℕ) (b : Bool) → is_none (position_from (λ broken. broken) n rules) ≡ true → slice_get rules i ≡ Some b → b ≡ false
none_broken [] n i b h at = cc
none_broken (true ∷ rs) n i b h at = cc
none_broken (false ∷ rs) n zero b h at = let is : false ≡ b = cc in sym is
none_broken (false ∷ rs) n (suc i) b h at = none_broken rs (n + 1) i b h at

pub record MayTable (c : Catalog) (def : TableDef) : Type 0 where
  pub number : def.number ≡ c.next
  pub free : is_none (listing_named c def.name) ≡ true
  pub room : c.next < 4294967295
  pub few : length c.tables < 1000
  pub good : is_definition false def ≡ true

pub may_table : (c : Catalog) (def : TableDef) → allows_table c def ≡ true → MayTable c def
may_table c def allowed =
    let outer = and_parts (def.number == c.next && is_none (listing_named c def.name)) (is_definition (is_full c) def) allowed in
    let inner = and_parts (def.number == c.next) (is_none (listing_named c def.name)) outer.0 in
    let kept = and_parts (not (may_be_null def.columns def.key)) (is_none (bad_definition (is_full c) def.columns (def.key ∷ []))) outer.1 in
    let room : is_full c ≡ false =
    none_broken (table_rules (is_full c) def.columns (def.key ∷ [])) 1 7 (is_full c) kept.1 refl in
    record {
      number = eqb-true def.number c.next inner.0;
      free = inner.1;
      room = leb-false 4294967295 c.next (or_parts (nat_le 1000 (length c.tables)) (nat_le 4294967295 c.next) room).1;
      few = leb-false 1000 (length c.tables) (or_parts (nat_le 1000 (length c.tables)) (nat_le 4294967295 c.next) room).0;
      good = subst (λ full. is_definition full def ≡ true) room outer.1;
    }

pub record MayIndex (t : Listing) (index : IndexDef) : Type 0 where
  pub few : length t.indexes < 8
  pub next : index.number ≡ next_index t
  pub right : is_none (bad_index t index.columns) ≡ true

pub may_index : (c : Catalog) (index : IndexDef) (t : Listing) → allows_index c index ≡ true → Some t ≡ listing_at c index.table → MayIndex t index
may_index c index t allowed stands =
    let outer = and_parts (allows_index_of index (listing_at c index.table)) (not (has_index_named c index.name)) allowed in
    let here : allows_index_here index t ≡ true = ap (allows_index_of index) stands ∙ outer.0 in
    let parts = and_parts (index.number == next_index t) (is_none (bad_index t index.columns)) here in
    record {
      few = leb-false 8 (length t.indexes) (none_broken (index_rules t index.columns) 1 4 (nat_le 8 (length t.indexes)) parts.1 refl);
      next = eqb-true index.number (next_index t) parts.0;
      right = parts.1;
    }

-- a table that doesn't stand takes no index
pub no_index : (c : Catalog) (index : IndexDef) → allows_index c index ≡ true → None ≡ listing_at c index.table → ⊥
no_index c index allowed none =
    let outer = and_parts (allows_index_of index (listing_at c index.table)) (not (has_index_named c index.name)) allowed in
    let no : false ≡ true = ap (allows_index_of index) none ∙ outer.0 in
    cc

pub not_some : (X : Type 0) → IsSome {T = X} None → ⊥
not_some X h = let no : false ≡ true = h in cc

-- the name of an allowed index is free
pub free_index : (c : Catalog) (index : IndexDef) → allows_index c index ≡ true → has_index_named c index.name ≡ false
free_index c index allowed =
    let outer = and_parts (allows_index_of index (listing_at c index.table)) (not (has_index_named c index.name)) allowed in
    not-true (has_index_named c index.name) outer.1
