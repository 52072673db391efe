-- Tables beside the schema that they are kept with.
use Rattle.std.proofs.Common.{◌≡◌, ◌≢◌, ℕ, zero, suc, ◌+◌, ◌<◌, ◌≤◌, ◌==◌, ◌&&◌, Bool, true, false, not, cond, if◌then◌else◌, List, [], ◌∷◌, ◌++◌, map, filter, set, take, get_or, slice_get, Option, Some, None, Result, Ok, Err, IfOk, OnOk, OnErr, nat_le, nat_eq, position, length, unwrap_or, is_some, is_none, refl, sym, ap, ap₂, ◌∙◌, subst, inl, inr, arith, append-nil, append_assoc}
use Rattle.std.specs.List.{flat_map, list_all, list_any, remove, take-map}
use Rattle.std.specs.Option.{option_map, option_and_then}
use Rattle.std.proofs.lemmas.Option.{get_or_from_slice_get}
use Rattle.std.proofs.lemmas.Bool.{and_parts, and_from, or_from, eqb-true, eq-eqb, ne_eqb}
use Rattle.std.proofs.lemmas.List.{get_or-map, length-map, map-append, take_more}
use Rattle.indexmap.specs.IndexSet.{insert_key}
use Rattle.wat_value.specs.declared.change.Act.TheVariants.{OnRow, OnSchema}
use Rattle.wat_value.specs.declared.change.Change.{Change}
use Rattle.wat_value.specs.declared.change.Change.TheVariants.{Insert, Update, Delete}
use Rattle.wat_value.specs.declared.change.SchemaChange.{SchemaChange}
use Rattle.wat_value.specs.declared.change.SchemaChange.TheVariants.{CreateTable, DropTable, CreateIndex}
use Rattle.wat_value.specs.Changes.{changed_table}
use Rattle.wat_value.specs.Fits.{fits}
use Rattle.wat_value.specs.declared.definition.TableDef.{TableDef}
use Rattle.wat_value.specs.declared.definition.IndexDef.{IndexDef}
use Rattle.wat_schema.specs.Catalog.{Catalog, Listing, ascend, in_order, has_index_named, listing_at, listing_named, numbers_of, repeats}
use Rattle.wat_schema.specs.Stored.{IsCatalog, are_indexes, defs_of, indexes_of, is_index, is_whole}
use Rattle.wat_schema.specs.Definitions.{allows, allows_index_of, altered, is_definition, is_full}
use Rattle.wat_schema.specs.Tables.{Row, Table, Tables, IsTables, after_alter, apply_change, catalog_of, is_table, listing_of, on_table, table_at, with_table}
use Rattle.wat_schema.specs.Tables as tables
use Rattle.wat_schema.proofs.Changing.{schema_stays}
use Rattle.wat_schema.proofs.Database.{acts_hold, in_their_order}
use Rattle.wat_schema.proofs.Order.{Begins, begins, fresh_item, fresh_number, map-remove, map-set_same, remove-filter, set-map}
use Rattle.wat_schema.proofs.Found.{listed_table}
use Rattle.wat_schema.proofs.LookUps.{at_number, find-alike, map_id}
use Rattle.wat_schema.proofs.TableLaws.{catalog-after}
use Rattle.wat_meaning.proofs.Applying.{named}
use Rattle.wat_tables.specs.Acting.{empty_table, empty_tables, is_fitting, standing_key, table_after}
use Rattle.wat_tables.specs.Held.{IsOfSchema}

-- ---- numbers

none_again : (low n : ℕ) (ns : List ℕ) (high : ℕ) → n ≤ low → ascend low ns high ≡ true → list_any (λ y. y == n) ns ≡ false
none_again low n [] high le up = refl
none_again low n (m ∷ ms) high le up =
    let b = begins low m ms high up in
    or_from (m == n) (list_any (λ y. y == n) ms) (ne_eqb m n (λ e. omega arith)) (none_again m n ms high (omega arith) b.rest)

-- numbers in order are distinct
pub each_once : (low : ℕ) (ns : List ℕ) (high : ℕ) → ascend low ns high ≡ true → repeats ◌==◌ ns ≡ false
each_once low [] high up = refl
each_once low (n ∷ ns) high up =
    let b = begins low n ns high up in
    or_from (list_any (λ y. y == n) ns) (repeats ◌==◌ ns) (none_again n n ns high (omega arith) b.rest) (each_once n ns high b.rest)

abbrev pub number_of : Table → ℕ
number_of x = x.def.number

pub numbers_listed : (xs : List Table) → numbers_of (map listing_of xs) ≡ map number_of xs
numbers_listed [] = refl
numbers_listed (x ∷ xs) = ap (λ ns. x.def.number ∷ ns) (numbers_listed xs)

pub numbers_of_defs : (ts : List Listing) → map (λ (def : TableDef). def.number) (map (λ (t : Listing). t.def) ts) ≡ numbers_of ts
numbers_of_defs [] = refl
numbers_of_defs (t ∷ ts) = ap (λ ns. t.def.number ∷ ns) (numbers_of_defs ts)

-- ---- the table with a number

pub table_by_number : (t : Tables) (n : ℕ) (numbers : List ℕ) (o : Option ℕ) → numbers ≡ numbers_of (catalog_of t).tables → o ≡ position (nat_eq n) numbers
    → option_and_then (slice_get t.tables) o ≡ table_at t n
table_by_number t n numbers o kept at =
    ap (option_and_then (slice_get t.tables)) at
    ∙ sym (find-alike (nat_eq n) (λ m. m) number_of numbers t.tables (map_id numbers ∙ kept ∙ numbers_listed t.tables))

-- another table in the place of the one with the number
pub set_placed : (t : Tables) (n i : ℕ) (x y : Table) → in_order (catalog_of t) ≡ true → slice_get t.tables i ≡ Some x → n ≡ x.def.number → record t { tables = set t.tables i y } ≡ with_table n t y
set_placed t n i x y order at is =
    let up : ascend 0 (map number_of t.tables) t.next ≡ true =
    ap (λ ns. ascend 0 ns t.next) (sym (numbers_listed t.tables)) ∙ (and_parts (nat_le 1 t.next) (ascend 0 (numbers_of (map listing_of t.tables)) t.next) order).1 in
    ap (λ xs. record t { tables = xs }) (set-map number_of n (λ _. y) 0 t.tables t.next i x up at is)

set_back : {X : Type 0} (xs : List X) (i : ℕ) (x : X) → slice_get xs i ≡ Some x → set xs i x ≡ xs
set_back [] i x at = absurd (let no : ◌≡◌ {A = Option _} None (Some x) = at in cc)
set_back (y ∷ ys) zero x at = let same : y ≡ x = cc in ap (λ z. z ∷ ys) (sym same)
set_back (y ∷ ys) (suc i) x at = ap (λ zs. y ∷ zs) (set_back ys i x at)

-- what a change makes of its table is what it makes of the tables
pub changed_in : (t : Tables) (n i : ℕ) (x : Table) (change : Table → Option Table) → in_order (catalog_of t) ≡ true → table_at t n ≡ Some x → slice_get t.tables i ≡ Some x → n ≡ x.def.number
    → record t { tables = set t.tables i (unwrap_or (change x) x) } ≡ unwrap_or (on_table n change t) t
changed_in t n i x change order found at is = by (change x) refl
  where
    by : (o : Option Table) → change x ≡ o → record t { tables = set t.tables i (unwrap_or (change x) x) } ≡ unwrap_or (on_table n change t) t
    by None e =
        ap (λ c. record t { tables = set t.tables i (unwrap_or c x) }) e ∙ ap (λ xs. record t { tables = xs }) (set_back t.tables i x at)
        ∙ sym (ap (λ o. unwrap_or (option_and_then (λ z. option_map (with_table n t) (change z)) o) t) found ∙ ap (λ c. unwrap_or (option_map (with_table n t) c) t) e)
    by (Some y) e =
        ap (λ c. record t { tables = set t.tables i (unwrap_or c x) }) e ∙ set_placed t n i x y order at is
        ∙ sym (ap (λ o. unwrap_or (option_and_then (λ z. option_map (with_table n t) (change z)) o) t) found ∙ ap (λ c. unwrap_or (option_map (with_table n t) c) t) e)

still_some : {X Y : Type 0} (f : X → Y) (o : Option X) → is_some (option_map f o) ≡ is_some o
still_some f None = refl
still_some f (Some x) = refl

pub changes_if : (t : Tables) (n : ℕ) (x : Table) (change : Table → Option Table) → table_at t n ≡ Some x → is_some (change x) ≡ is_some (on_table n change t)
changes_if t n x change found = sym (ap (λ o. is_some (option_and_then (λ z. option_map (with_table n t) (change z)) o)) found ∙ still_some (with_table n t) (change x))

pub no_change : (t : Tables) (n : ℕ) (change : Table → Option Table) → table_at t n ≡ None → on_table n change t ≡ None
no_change t n change gone = ap (option_and_then (λ z. option_map (with_table n t) (change z))) gone

-- ---- tables without rows

pub empty_listed : (c : Catalog) → catalog_of (empty_tables c) ≡ c
empty_listed c = ap (λ ts. record { tables = ts; next = c.next }) (each c.tables)
  where
    each : (ts : List Listing) → map listing_of (map (λ (t : Listing). empty_table t.def t.indexes) ts) ≡ ts
    each [] = refl
    each (t ∷ ts) = ap (λ more. t ∷ more) (each ts)

pub empty_ok : (c : Catalog) → IsCatalog c → IsTables (empty_tables c)
empty_ok c is = record { catalog = subst IsCatalog (sym (empty_listed c)) is; rows = each c.tables }
  where
    each : (ts : List Listing) → list_all is_table (map (λ (t : Listing). empty_table t.def t.indexes) ts) ≡ true
    each [] = refl
    each (t ∷ ts) = each ts

-- ---- the indexes of each table

abbrev of_table : ℕ → IndexDef → Bool
of_table n index = n == index.table

filter-append : (p : IndexDef → Bool) (xs ys : List IndexDef) → filter p (xs ++ ys) ≡ filter p xs ++ filter p ys
filter-append p [] ys = refl
filter-append p (x ∷ xs) ys = elim (p x) as (λ b. cond b (x ∷ filter p (xs ++ ys)) (filter p (xs ++ ys)) ≡ cond b (x ∷ filter p xs) (filter p xs) ++ filter p ys) [
  | true ↦ ap (λ more. x ∷ more) (filter-append p xs ys)
  | false ↦ filter-append p xs ys
]

-- the indexes of a table are its own, and no other table's
own : (def : TableDef) (k : ℕ) (indexes : List IndexDef) → are_indexes def k indexes ≡ true → filter (of_table def.number) indexes ≡ indexes
own def k [] ok = refl
own def k (index ∷ indexes) ok =
    let whole = and_parts ((index.number == k) && (index.table == def.number) && is_index def index) (are_indexes def (suc k) indexes) ok in
    let front = and_parts ((index.number == k) && (index.table == def.number)) (is_index def index) whole.0 in
    let is = eqb-true index.table def.number (and_parts (index.number == k) (index.table == def.number) front.0).1 in
    rw (eq-eqb def.number index.table (sym is)) (ap (λ more. index ∷ more) (own def (suc k) indexes whole.1))

not_own : (n : ℕ) (def : TableDef) (k : ℕ) (indexes : List IndexDef) → n ≢ def.number → are_indexes def k indexes ≡ true → filter (of_table n) indexes ≡ []
not_own n def k [] other ok = refl
not_own n def k (index ∷ indexes) other ok =
    let whole = and_parts ((index.number == k) && (index.table == def.number) && is_index def index) (are_indexes def (suc k) indexes) ok in
    let front = and_parts ((index.number == k) && (index.table == def.number)) (is_index def index) whole.0 in
    let is = eqb-true index.table def.number (and_parts (index.number == k) (index.table == def.number) front.0).1 in
    rw (ne_eqb n index.table (λ e. other (e ∙ is))) (not_own n def (suc k) indexes other whole.1)

indexed : (t : Listing) → is_whole t ≡ true → are_indexes t.def 1 t.indexes ≡ true
indexed t ok = (and_parts (is_definition false t.def && nat_le (length t.indexes) 8) (are_indexes t.def 1 t.indexes) ok).1

none_below : (n low high : ℕ) (ts : List Listing) → n ≤ low → ascend low (numbers_of ts) high ≡ true → list_all is_whole ts ≡ true → filter (of_table n) (flat_map (λ t. t.indexes) ts) ≡ []
none_below n low high [] le up ok = refl
none_below n low high (t ∷ ts) le up ok =
    let b = begins low t.def.number (numbers_of ts) high up in
    let parts = and_parts (is_whole t) (list_all is_whole ts) ok in
    filter-append (of_table n) t.indexes (flat_map (λ t. t.indexes) ts)
    ∙ ap₂ (λ xs ys. xs ++ ys) (not_own n t.def 1 t.indexes (λ e. omega arith) (indexed t parts.0)) (none_below n t.def.number high ts (omega arith) b.rest parts.1)

-- each table with the indexes that are its own, among those of all tables and of those in front, which are of lesser tables
each_own : (front : List IndexDef) (low high : ℕ) (ts : List Listing) → ((n : ℕ) → low < n → filter (of_table n) front ≡ []) → ascend low (numbers_of ts) high ≡ true → list_all is_whole ts ≡ true
    → map (λ (def : TableDef). empty_table def (filter (of_table def.number) (front ++ flat_map (λ t. t.indexes) ts))) (map (λ (t : Listing). t.def) ts) ≡ map (λ (t : Listing). empty_table t.def t.indexes) ts
each_own front low high [] none up ok = refl
each_own front low high (t ∷ ts) none up ok =
    ap₂ (λ x xs. x ∷ xs) (ap (empty_table t.def) here)
    (ap (λ all. map (λ (def : TableDef). empty_table def (filter (of_table def.number) all)) (map (λ (t : Listing). t.def) ts)) (sym (append_assoc front t.indexes (flat_map (λ t. t.indexes) ts)))
    ∙ each_own (front ++ t.indexes) t.def.number high ts later b.rest parts.1)
  where
    b : Begins low t.def.number (numbers_of ts) high
    b = begins low t.def.number (numbers_of ts) high up

    parts : (is_whole t ≡ true) × (list_all is_whole ts ≡ true)
    parts = and_parts (is_whole t) (list_all is_whole ts) ok

    here : filter (of_table t.def.number) (front ++ (t.indexes ++ flat_map (λ t. t.indexes) ts)) ≡ t.indexes
    here =
        filter-append (of_table t.def.number) front (t.indexes ++ flat_map (λ t. t.indexes) ts)
        ∙ ap₂ (λ xs ys. xs ++ ys) (none t.def.number b.above)
        (filter-append (of_table t.def.number) t.indexes (flat_map (λ t. t.indexes) ts)
        ∙ ap₂ (λ xs ys. xs ++ ys) (own t.def 1 t.indexes (indexed t parts.0)) (none_below t.def.number t.def.number high ts (omega arith) b.rest parts.1)
        ∙ append-nil t.indexes)

    later : (n : ℕ) → t.def.number < n → filter (of_table n) (front ++ t.indexes) ≡ []
    later n above =
        let low_too : low < n = (let low_below = b.above in omega arith) in
        filter-append (of_table n) front t.indexes
        ∙ ap₂ (λ xs ys. xs ++ ys) (none n low_too) (not_own n t.def 1 t.indexes (λ e. omega arith) (indexed t parts.0))

-- so the tables of a schema are made of its definitions and its indexes
pub tables_made : (c : Catalog) → IsCatalog c
    → map (λ (def : TableDef). empty_table def (filter (λ (index : IndexDef). def.number == index.table) (indexes_of c))) (defs_of c) ≡ (empty_tables c).tables
tables_made c is = each_own [] 0 c.next c.tables (λ n above. refl) (and_parts (nat_le 1 c.next) (ascend 0 (numbers_of c.tables) c.next) is.order).1 is.tables

-- ---- acts

pub numbers_direct : (t : Tables) (schema : Catalog) (numbers : List ℕ) → IsOfSchema t schema numbers → numbers ≡ map number_of t.tables
numbers_direct t schema numbers is = is.numbered ∙ ap (λ c. numbers_of c.tables) (sym is.listed) ∙ numbers_listed t.tables

as_one : (change : Change) (t : Tables) → apply_change change t ≡ on_table (changed_table change) (table_after change) t
as_one (Insert table row) t = refl
as_one (Update table before after) t = refl
as_one (Delete table before) t = refl

pub change_in : (t : Tables) (change : Change) (i : ℕ) (x : Table) → IsTables t → table_at t (changed_table change) ≡ Some x → slice_get t.tables i ≡ Some x
    → record t { tables = set t.tables i (unwrap_or (table_after change x) x) } ≡ unwrap_or (apply_change change t) t
change_in t change i x ok found at =
    changed_in t (changed_table change) i x (table_after change) ok.catalog.order found at (named (changed_table change) x t.tables found) ∙ sym (ap (λ o. unwrap_or o t) (as_one change t))

pub change_if : (t : Tables) (change : Change) (x : Table) → table_at t (changed_table change) ≡ Some x → is_some (table_after change x) ≡ is_some (apply_change change t)
change_if t change x found = changes_if t (changed_table change) x (table_after change) found ∙ sym (ap is_some (as_one change t))

pub change_none : (t : Tables) (change : Change) → table_at t (changed_table change) ≡ None → apply_change change t ≡ None
change_none t change gone = as_one change t ∙ no_change t (changed_table change) (table_after change) gone

pub keeps_change : (t : Tables) (schema : Catalog) (numbers : List ℕ) (change : Change) → IsOfSchema t schema numbers → IsOfSchema (unwrap_or (apply_change change t) t) schema numbers
keeps_change t schema numbers change is = by (apply_change change t) refl
  where
    by : (o : Option Tables) → apply_change change t ≡ o → IsOfSchema (unwrap_or o t) schema numbers
    by None e = is
    by (Some u) e = record {
      listed = schema_stays change t u (in_their_order t is.ok) e ∙ is.listed;
      numbered = is.numbered;
      ok = acts_hold (OnRow change) t u is.ok e;
    }

altered_ok : (change : SchemaChange) (t : Tables) (schema : Catalog) → catalog_of t ≡ schema → IsTables t → allows change schema ≡ true → IsTables (after_alter change t)
altered_ok change t schema listed ok allowed =
    acts_hold (OnSchema change) t (after_alter change t) ok (ap (λ b. if b then Some (after_alter change t) else None) (ap (allows change) listed ∙ allowed))

altered_listed : (change : SchemaChange) (t : Tables) (schema : Catalog) → catalog_of t ≡ schema → catalog_of (after_alter change t) ≡ altered change schema
altered_listed change t schema listed = catalog-after change t ∙ ap (altered change) listed

pub keeps_create : (t : Tables) (schema : Catalog) (numbers : List ℕ) (def : TableDef) → IsOfSchema t schema numbers → allows (CreateTable def) schema ≡ true
    → IsOfSchema (after_alter (CreateTable def) t) (altered (CreateTable def) schema) (insert_key ◌==◌ numbers def.number)
keeps_create t schema numbers def is allowed = record {
  listed = altered_listed (CreateTable def) t schema is.listed;
  numbered = rw fresh (ap (λ ns. ns ++ def.number ∷ []) is.numbered ∙ sym (map-append (λ (l : Listing). l.def.number) schema.tables (record { def = def; indexes = [] } ∷ [])));
  ok = altered_ok (CreateTable def) t schema is.listed is.ok allowed;
}
  where
    catalog : IsCatalog schema
    catalog = subst IsCatalog is.listed is.ok.catalog

    next : def.number ≡ schema.next
    next = eqb-true def.number schema.next (and_parts (def.number == schema.next) (is_none (listing_named schema def.name)) (and_parts ((def.number == schema.next) && is_none (listing_named schema def.name)) (is_definition (is_full schema) def) allowed).0).0

    fresh : list_any (λ n. def.number == n) numbers ≡ false
    fresh =
        ap₂ (λ m ns. list_any (λ n. m == n) ns) next is.numbered
        ∙ fresh_number 0 (numbers_of schema.tables) schema.next (and_parts (nat_le 1 schema.next) (ascend 0 (numbers_of schema.tables) schema.next) catalog.order).1

up : (t : Tables) → IsTables t → ascend 0 (map number_of t.tables) t.next ≡ true
up t ok = ap (λ ns. ascend 0 ns t.next) (sym (numbers_listed t.tables)) ∙ (and_parts (nat_le 1 t.next) (ascend 0 (numbers_of (map listing_of t.tables)) t.next) ok.catalog.order).1

pub drop_in : (t : Tables) (table i : ℕ) (x : Table) → IsTables t → slice_get t.tables i ≡ Some x → table ≡ x.def.number → record t { tables = remove t.tables i } ≡ after_alter (DropTable table) t
drop_in t table i x ok at is = ap (λ xs. record t { tables = xs }) (remove-filter number_of table 0 t.tables t.next i x (up t ok) at is)

pub keeps_drop : (t : Tables) (schema : Catalog) (numbers : List ℕ) (table i : ℕ) (x : Table) → IsOfSchema t schema numbers → allows (DropTable table) schema ≡ true → slice_get t.tables i ≡ Some x
    → table ≡ x.def.number → IsOfSchema (after_alter (DropTable table) t) (altered (DropTable table) schema) (remove numbers i)
keeps_drop t schema numbers table i x is allowed at same = record {
  listed = altered_listed (DropTable table) t schema is.listed;
  numbered =
      ap (λ ns. remove ns i) (numbers_direct t schema numbers is) ∙ sym (map-remove number_of t.tables i)
      ∙ ap (λ u. map number_of u.tables) (drop_in t table i x is.ok at same) ∙ sym (numbers_listed (after_alter (DropTable table) t).tables)
      ∙ ap (λ c. numbers_of c.tables) (altered_listed (DropTable table) t schema is.listed);
  ok = altered_ok (DropTable table) t schema is.listed is.ok allowed;
}

abbrev with_one : IndexDef → Table → Table
with_one index x = record x { indexes = x.indexes ++ index ∷ [] }

one_index : (index : IndexDef) (x : Table) → (if index.table == x.def.number then with_one index x else x) ≡ tables.indexed index x
one_index index x = by (index.table == x.def.number) refl
  where
    by : (b : Bool) → (index.table == x.def.number) ≡ b → (if b then with_one index x else x) ≡ tables.indexed index x
    by true e = rw e refl
    by false e = rw e refl

all_indexed : (index : IndexDef) (xs : List Table) → map (λ x. if index.table == x.def.number then with_one index x else x) xs ≡ map (tables.indexed index) xs
all_indexed index [] = refl
all_indexed index (x ∷ xs) = ap₂ (λ y ys. y ∷ ys) (one_index index x) (all_indexed index xs)

pub index_in : (t : Tables) (index : IndexDef) (i : ℕ) (x : Table) → IsTables t → slice_get t.tables i ≡ Some x → index.table ≡ x.def.number
    → record t { tables = set t.tables i (record x { indexes = x.indexes ++ index ∷ [] }) } ≡ after_alter (CreateIndex index) t
index_in t index i x ok at is =
    ap (λ xs. record t { tables = xs }) (set-map number_of index.table (with_one index) 0 t.tables t.next i x (up t ok) at is ∙ all_indexed index t.tables)

pub keeps_index : (t : Tables) (schema : Catalog) (numbers : List ℕ) (index : IndexDef) (i : ℕ) (x : Table) → IsOfSchema t schema numbers → allows (CreateIndex index) schema ≡ true → slice_get t.tables i ≡ Some x
    → index.table ≡ x.def.number → IsOfSchema (after_alter (CreateIndex index) t) (altered (CreateIndex index) schema) numbers
keeps_index t schema numbers index i x is allowed at same = record {
  listed = altered_listed (CreateIndex index) t schema is.listed;
  numbered =
      numbers_direct t schema numbers is ∙ sym (map-set_same number_of t.tables i x (record x { indexes = x.indexes ++ index ∷ [] }) at refl)
      ∙ ap (λ u. map number_of u.tables) (index_in t index i x is.ok at same) ∙ sym (numbers_listed (after_alter (CreateIndex index) t).tables)
      ∙ ap (λ c. numbers_of c.tables) (altered_listed (CreateIndex index) t schema is.listed);
  ok = altered_ok (CreateIndex index) t schema is.listed is.ok allowed;
}

-- ---- look-ups

pub found_at : (t : Tables) (schema : Catalog) (numbers : List ℕ) (n : ℕ) (o : Option ℕ) → IsOfSchema t schema numbers → o ≡ position (nat_eq n) numbers → option_and_then (slice_get t.tables) o ≡ table_at t n
found_at t schema numbers n o is at = table_by_number t n numbers o (is.numbered ∙ ap (λ c. numbers_of c.tables) (sym is.listed)) at

-- a number more, where the numbers are distinct
pub one_number : (defs : List TableDef) (i : ℕ) (def : TableDef) (keys : List ℕ) → repeats ◌==◌ (map (λ (d : TableDef). d.number) defs) ≡ false → i < length defs → def ≡ get_or defs i def
    → keys ≡ map (λ (d : TableDef). d.number) (take i defs) → insert_key ◌==◌ keys def.number ≡ map (λ (d : TableDef). d.number) (take (i + 1) defs)
one_number defs i def keys distinct within is so_far =
    let here : get_or (map (λ (d : TableDef). d.number) defs) i def.number ≡ def.number = get_or-map (λ (d : TableDef). d.number) defs i def def.number within ∙ ap (λ (x : TableDef). x.number) (sym is) in
    let long : i < length (map (λ (d : TableDef). d.number) defs) = (let e = length-map defs (λ (d : TableDef). d.number) in omega arith) in
    let fresh : list_any (λ n. def.number == n) keys ≡ false =
    ap₂ (λ m ns. list_any (λ n. m == n) ns) (sym here) (so_far ∙ sym (take-map (λ (d : TableDef). d.number) i defs)) ∙ fresh_item ◌==◌ (map (λ (d : TableDef). d.number) defs) i def.number long distinct in
    rw fresh (ap (λ ns. ns ++ def.number ∷ []) so_far ∙ sym (map-append (λ (d : TableDef). d.number) (take i defs) (def ∷ [])) ∙ ap (map (λ (d : TableDef). d.number)) (ap (λ d. take i defs ++ d ∷ []) is ∙ sym (take_more defs i def within)))

-- the table that stands at the place of its number
pub record Standing (t : Tables) (n i : ℕ) : Type 0 where
  pub item : Table
  pub at : slice_get t.tables i ≡ Some item
  pub is : n ≡ item.def.number
  pub found : table_at t n ≡ Some item

pub standing_at : (t : Tables) (schema : Catalog) (numbers : List ℕ) (n i : ℕ) → IsOfSchema t schema numbers → position (nat_eq n) numbers ≡ Some i → Standing t n i
standing_at t schema numbers n i is at =
    let here = at_number number_of n numbers t.tables i (numbers_direct t schema numbers is) at in
    record { item = here.item; at = here.at; is = here.is; found = sym (found_at t schema numbers n (Some i) is (sym at)) ∙ here.at }

pub moved : (t u : Tables) (schema other : Catalog) (numbers more : List ℕ) → t ≡ u → schema ≡ other → numbers ≡ more → IsOfSchema u other more → IsOfSchema t schema numbers
moved t u schema other numbers more tables schemas ns is =
    subst (λ z. IsOfSchema z schema numbers) (sym tables) (subst (λ z. IsOfSchema u z numbers) (sym schemas) (subst (λ z. IsOfSchema u other z) (sym ns) is))

pub allowed_here : (t self : Tables) (schema : Catalog) (numbers : List ℕ) (change other : SchemaChange) → IsOfSchema t schema numbers → t ≡ self → other ≡ change → allows other (catalog_of self) ≡ true → allows change schema ≡ true
allowed_here t self schema numbers change other is view same allowed = ap₂ allows (sym same) (sym (ap catalog_of (sym view) ∙ is.listed)) ∙ allowed

-- ---- a change of a row

module _ (t self : Tables) (schema : Catalog) (numbers : List ℕ) (change : Change) (i : ℕ) (z new : Table) (is : IsOfSchema t schema numbers) (view : t ≡ self)
    (at : position (nat_eq (changed_table change)) numbers ≡ Some i) (item : z ≡ get_or t.tables i z) where
  s : Standing t (changed_table change) i
  s = standing_at t schema numbers (changed_table change) i is at

  same : z ≡ s.item
  same = item ∙ get_or_from_slice_get t.tables i s.item z s.at

  made : new ≡ unwrap_or (table_after change z) z → record t { tables = set t.tables i new } ≡ unwrap_or (apply_change change t) t
  made h = ap (λ y. record t { tables = set t.tables i y }) (h ∙ ap (λ y. unwrap_or (table_after change y) y) same) ∙ change_in t change i s.item is.ok s.found s.at

  stays : new ≡ z → record t { tables = set t.tables i new } ≡ t
  stays h = ap (λ y. record t { tables = set t.tables i y }) (h ∙ same) ∙ ap (λ xs. record t { tables = xs }) (set_back t.tables i s.item s.at)

  pub kept_either : {A E : Type 0} (r : Result A E) → OnOk r (new ≡ unwrap_or (table_after change z) z) → OnErr r (new ≡ z) → IsOfSchema (record t { tables = set t.tables i new }) schema numbers
  kept_either (Ok a) h k = subst (λ u. IsOfSchema u schema numbers) (sym (made h)) (keeps_change t schema numbers change is)
  kept_either (Err e) h k = subst (λ u. IsOfSchema u schema numbers) (sym (stays k)) is

  pub after_either : {A E : Type 0} (r : Result A E) → OnOk r (new ≡ unwrap_or (table_after change z) z) → OnOk r (record t { tables = set t.tables i new } ≡ unwrap_or (apply_change change self) self)
  after_either (Ok a) h = made h ∙ ap (λ u. unwrap_or (apply_change change u) u) view
  after_either (Err e) h = h

  pub applied_either : {E : Type 0} (r : Result Bool E) → IfOk r (λ b. b ≡ is_some (table_after change z)) → IfOk r (λ b. b ≡ is_some (apply_change change self))
  applied_either (Ok b) h = h ∙ ap (λ y. is_some (table_after change y)) same ∙ change_if t change s.item s.found ∙ ap (λ u. is_some (apply_change change u)) view
  applied_either (Err e) h = h

  pub stood_either : {E : Type 0} (row : Row) (r : Result (Option Row) E) → IfOk r (λ stood. stood ≡ standing_key (Some z) row) → IfOk r (λ stood. stood ≡ standing_key (table_at self (changed_table change)) row)
  stood_either row (Ok stood) h =
      h ∙ ap (λ y. standing_key (Some y) row) same ∙ ap (λ o. standing_key o row) (sym s.found) ∙ ap (λ u. standing_key (table_at u (changed_table change)) row) view
  stood_either row (Err e) h = h

  pub fits_here : (row : Row) → is_fitting (table_at self (changed_table change)) row ≡ true → fits z.def row ≡ true
  fits_here row h = ap (λ y. fits y.def row) same ∙ ap (λ o. is_fitting o row) (sym s.found) ∙ ap (λ u. is_fitting (table_at u (changed_table change)) row) view ∙ h

pub none_here : (t self : Tables) (schema : Catalog) (numbers : List ℕ) (change : Change) → IsOfSchema t schema numbers → t ≡ self → position (nat_eq (changed_table change)) numbers ≡ None → apply_change change self ≡ None
none_here t self schema numbers change is view gone =
    ap (apply_change change) (sym view) ∙ change_none t change (sym (found_at t schema numbers (changed_table change) None is (sym gone)))

pub none_fits : (t self : Tables) (schema : Catalog) (numbers : List ℕ) (n : ℕ) (row : Row) → IsOfSchema t schema numbers → t ≡ self → position (nat_eq n) numbers ≡ None → is_fitting (table_at self n) row ≡ true → ⊥
none_fits t self schema numbers n row is view gone fit =
    let no : false ≡ true = ap (λ o. is_fitting o row) (found_at t schema numbers n None is (sym gone)) ∙ ap (λ u. is_fitting (table_at u n) row) view ∙ fit in cc

-- ---- a table that doesn't stand

not_listed : (t : Tables) (schema : Catalog) (numbers : List ℕ) (n : ℕ) → IsOfSchema t schema numbers → position (nat_eq n) numbers ≡ None → listing_at schema n ≡ None
not_listed t schema numbers n is gone =
    ap (λ c. listing_at c n) (sym is.listed) ∙ listed_table t n ∙ ap (option_map listing_of) (sym (found_at t schema numbers n None is (sym gone)))

pub no_drop : (t : Tables) (schema : Catalog) (numbers : List ℕ) (n : ℕ) → IsOfSchema t schema numbers → position (nat_eq n) numbers ≡ None → allows (DropTable n) schema ≡ true → ⊥
no_drop t schema numbers n is gone allowed = let no : false ≡ true = sym (ap is_some (not_listed t schema numbers n is gone)) ∙ allowed in cc

pub no_index : (t : Tables) (schema : Catalog) (numbers : List ℕ) (index : IndexDef) → IsOfSchema t schema numbers → position (nat_eq index.table) numbers ≡ None → allows (CreateIndex index) schema ≡ true → ⊥
no_index t schema numbers index is gone allowed =
    let no : false ≡ true = sym (ap (λ o. allows_index_of index o && not (has_index_named schema index.name)) (not_listed t schema numbers index.table is gone)) ∙ allowed in cc

-- ---- a schema's tables

pub of_schema : (c : Catalog) → IsCatalog c → IsOfSchema (empty_tables c) c (map (λ (def : TableDef). def.number) (defs_of c))
of_schema c is = record { listed = empty_listed c; numbered = numbers_of_defs c.tables; ok = empty_ok c is }

pub defs_once : (c : Catalog) → IsCatalog c → repeats ◌==◌ (map (λ (def : TableDef). def.number) (defs_of c)) ≡ false
defs_once c is = ap (repeats ◌==◌) (numbers_of_defs c.tables) ∙ each_once 0 (numbers_of c.tables) c.next (and_parts (nat_le 1 c.next) (ascend 0 (numbers_of c.tables) c.next) is.order).1
