-- What an act makes of the last table.
use Rattle.std.proofs.Common.{◌≡◌, ℕ, suc, ◌+◌, ◌==◌, ◌<◌, ◌≤◌, ◌&&◌, true, false, not, cond, if◌then◌else◌, List, [], ◌∷◌, ◌++◌, map, max, length, is_none, Option, Some, None, nat_le, refl, sym, ap, ap₂, subst, ◌∙◌, append_assoc, append-nil, arith}
use Rattle.std.specs.List.{find, fold, list_all, list_any}
use Rattle.std.specs.Option.{option_map, option_and_then}
use Rattle.std.specs.Str.{bytes_eq}
use Rattle.std.proofs.lemmas.Bool.{and_parts, and_from, or_parts, or_from, eq-eqb, lt-leb}
use Rattle.std.proofs.lemmas.List.{map-append}
use Rattle.std.proofs.lemmas.List.Sums.{fold-append}
use Rattle.wat_list.specs.Rising.{rising}
use Rattle.wat_value.specs.declared.definition.TableDef.{TableDef}
use Rattle.wat_value.specs.declared.definition.IndexDef.{IndexDef}
use Rattle.wat_value.specs.declared.change.SchemaChange.TheVariants.{CreateTable, CreateIndex}
use Rattle.wat_value.specs.Fits.{fits}
use Rattle.wat_schema.specs.Catalog.{Listing, Name, has_index_named, has_name, has_number, listing_at, listing_named, repeats}
use Rattle.wat_schema.specs.Definitions.{allows_index, allows_index_here, allows_index_of, allows_table, bad_index, is_definition, is_full, next_index}
use Rattle.wat_schema.specs.Stored.{are_indexes, index_names, is_index}
use Rattle.wat_schema.specs.Tables.{Row, Table, Tables, after_alter, after_insert, by_key, catalog_of, indexed, listing_of, table_at, with_table}
use Rattle.wat_schema.proofs.Again.{length-map_of, length_before, list_any-names, next_of, same_rules}
use Rattle.wat_schema.proofs.Distinct.{find_here, find_none, fresh_before}
use Rattle.wat_schema.proofs.Order.{list_any-map}
use Rattle.wat_written.specs.Written.{create_index, create_table}
use Rattle.wat_dump.specs.Dump.{index_made, row_made, table_made}
use Rattle.wat_dump_law.proofs.Plain.{row_statement}
use Rattle.wat_dump_law.proofs.Rows.{inserted_last}
use Rattle.wat_dump_law.proofs.Steps.{Goes, goes_both, goes_none, goes_one}

-- tables with this one behind them
abbrev pub last : List Table → Table → ℕ → Tables
last done x next = record { tables = done ++ x ∷ []; next = next }

-- none of them has the number
abbrev pub none_has : ℕ → List Table → Type 0
none_has n done = list_any (λ z. n == z.def.number) done ≡ false

-- the names of their indexes
abbrev pub names_in : List Table → List Name
names_in xs = index_names (map listing_of xs)

abbrev name_of : IndexDef → Name
name_of index = index.name

module _ (done : List Table) (x : Table) (next : ℕ) (none : none_has x.def.number done) where
  found : table_at (last done x next) x.def.number ≡ Some x
  found = find_here (λ z. x.def.number == z.def.number) done x [] none (eq-eqb x.def.number x.def.number refl)

  listed : listing_at (catalog_of (last done x next)) x.def.number ≡ Some (listing_of x)
  listed =
      ap (find (has_number x.def.number)) (map-append listing_of done (x ∷ []))
      ∙ find_here (has_number x.def.number) (map listing_of done) (listing_of x) [] (list_any-map (has_number x.def.number) listing_of done ∙ none) (eq-eqb x.def.number x.def.number refl)

-- ---- rows

replaced : (n : ℕ) (done : List Table) (x y : Table) → none_has n done → n ≡ x.def.number → map (λ other. if n == other.def.number then y else other) (done ++ x ∷ []) ≡ done ++ y ∷ []
replaced n [] x y none is = rw (eq-eqb n x.def.number is) refl
replaced n (z ∷ done) x y none is =
    let parts = or_parts (n == z.def.number) (list_any (λ z. n == z.def.number) done) none in
    rw parts.0 (ap (λ (zs : List Table). z ∷ zs) (replaced n done x y parts.1 is))

row_goes : (done : List Table) (x : Table) (next : ℕ) (row : Row) (todo : List Row) → none_has x.def.number done → fits x.def row ≡ true → rising (by_key x.def) (x.rows ++ row ∷ todo) ≡ true
    → Goes (last done x next) (row_made x.def row ∷ []) (row_statement x.def row ∷ []) (last done (record x { rows = x.rows ++ row ∷ [] }) next)
row_goes done x next row todo none fit order =
    let t = last done x next in
    let y : Table = record x { rows = x.rows ++ row ∷ [] } in
    let n = x.def.number in
    goes_one t (last done y next) (row_made x.def row) (row_statement x.def row)
    (ap (λ (o : Option Table). option_and_then (λ z. option_map (with_table n t) (after_insert row z)) o) (found done x next none)
    ∙ ap (option_map (with_table n t)) (inserted_last x row todo fit order)
    ∙ ap (λ (tables : List Table). Some (record { tables = tables; next = next })) (replaced n done x y none refl))
    (ap (λ (o : Option Listing). option_and_then (λ def. Some (row_statement def row)) (option_map (λ t. t.def) o)) (listed done x next none))

pub rows_go : (done : List Table) (x : Table) (next : ℕ) (todo : List Row) → none_has x.def.number done → list_all (fits x.def) todo ≡ true → rising (by_key x.def) (x.rows ++ todo) ≡ true
    → Goes (last done x next) (map (row_made x.def) todo) (map (row_statement x.def) todo) (last done (record x { rows = x.rows ++ todo }) next)
rows_go done x next [] none fit order =
    subst (λ (rows : List Row). Goes (last done x next) [] [] (last done (record x { rows = rows }) next)) (sym (append-nil x.rows)) (goes_none (last done x next))
rows_go done x next (row ∷ todo) none fit order =
    let parts = and_parts (fits x.def row) (list_all (fits x.def) todo) fit in
    let y : Table = record x { rows = x.rows ++ row ∷ [] } in
    let joined : (x.rows ++ row ∷ []) ++ todo ≡ x.rows ++ row ∷ todo = append_assoc x.rows (row ∷ []) todo in
    let rest = rows_go done y next todo none parts.1 (ap (rising (by_key x.def)) joined ∙ order) in
    subst (λ (rows : List Row). Goes (last done x next) (map (row_made x.def) (row ∷ todo)) (map (row_statement x.def) (row ∷ todo)) (last done (record x { rows = rows }) next)) joined
    (goes_both (last done x next) (last done y next) (last done (record x { rows = (x.rows ++ row ∷ []) ++ todo }) next) (row_made x.def row ∷ []) (map (row_made x.def) todo)
    (row_statement x.def row ∷ []) (map (row_statement x.def) todo) (row_goes done x next row todo none parts.0 order) rest)

-- ---- indexes

index_stays : (index : IndexDef) (done : List Table) → none_has index.table done → map (indexed index) done ≡ done
index_stays index [] none = refl
index_stays index (z ∷ done) none =
    let parts = or_parts (index.table == z.def.number) (list_any (λ z. index.table == z.def.number) done) none in
    rw parts.0 (ap (λ (zs : List Table). z ∷ zs) (index_stays index done parts.1))

index_comes : (index : IndexDef) (x : Table) → index.table ≡ x.def.number → indexed index x ≡ record x { indexes = x.indexes ++ index ∷ [] }
index_comes index x is = rw (eq-eqb index.table x.def.number is) refl

names_last : (done : List Table) (x : Table) → names_in (done ++ x ∷ []) ≡ names_in done ++ map name_of x.indexes
names_last [] x = append-nil (map name_of x.indexes)
names_last (z ∷ done) x = ap (λ (ns : List Name). map name_of z.indexes ++ ns) (names_last done x) ∙ sym (append_assoc (map name_of z.indexes) (names_in done) (map name_of x.indexes))

next_more : (x : Table) (index : IndexDef) (number : ℕ) → next_index (listing_of x) ≡ number → index.number ≡ number → next_index (listing_of (record x { indexes = x.indexes ++ index ∷ [] })) ≡ suc number
next_more x index number next is =
    let pushed : next_index (listing_of (record x { indexes = x.indexes ++ index ∷ [] })) ≡ suc (max (fold max 0 (map (λ i. i.number) x.indexes)) index.number) =
    ap (λ ns. suc (fold max 0 ns)) (map-append (λ i. i.number) x.indexes (index ∷ [])) ∙ ap suc (fold-append max 0 (map (λ i. i.number) x.indexes) (index.number ∷ [])) in
    let larger : max (fold max 0 (map (λ i. i.number) x.indexes)) index.number ≡ number = omega arith in
    pushed ∙ ap suc larger

index_goes : (done : List Table) (x : Table) (next number : ℕ) (index : IndexDef) → none_has x.def.number done → next_index (listing_of x) ≡ number → index.number ≡ number → index.table ≡ x.def.number
    → is_index x.def index ≡ true → length x.indexes < 8 → list_any (bytes_eq index.name) (names_in done ++ map name_of x.indexes) ≡ false
    → Goes (last done x next) (index_made index ∷ []) (create_index index x.def ∷ []) (last done (record x { indexes = x.indexes ++ index ∷ [] }) next)
index_goes done x next number index none counts is table good few fresh =
    let t = last done x next in
    let c = catalog_of t in
    let y : Table = record x { indexes = x.indexes ++ index ∷ [] } in
    let at : listing_at c index.table ≡ Some (listing_of x) = ap (listing_at c) table ∙ listed done x next none in
    let right : is_none (bad_index (listing_of x) index.columns) ≡ true = ap is_none (same_rules x.def x.indexes index.columns few) ∙ good in
    let here : allows_index_here index (listing_of x) ≡ true =
    and_from (index.number == next_index (listing_of x)) (is_none (bad_index (listing_of x) index.columns)) (eq-eqb index.number (next_index (listing_of x)) (is ∙ sym counts)) right in
    let free : has_index_named c index.name ≡ false =
    list_any-names index.name (map listing_of (done ++ x ∷ [])) ∙ ap (list_any (bytes_eq index.name)) (names_last done x) ∙ fresh in
    let may : allows_index c index ≡ true =
    and_from (allows_index_of index (listing_at c index.table)) (not (has_index_named c index.name)) (ap (allows_index_of index) at ∙ here) (ap not free) in
    let all : map (indexed index) (done ++ x ∷ []) ≡ done ++ y ∷ [] =
    map-append (indexed index) done (x ∷ [])
    ∙ ap₂ (λ (a : List Table) (b : Table). a ++ b ∷ []) (index_stays index done (subst (λ (n : ℕ). none_has n done) (sym table) none)) (index_comes index x table) in
    goes_one t (last done y next) (index_made index) (create_index index x.def)
    (ap (λ b. cond b (Some (after_alter (CreateIndex index) t)) None) may ∙ ap (λ (tables : List Table). Some (record { tables = tables; next = next })) all)
    (ap (λ (o : Option Listing). option_map (create_index index) (option_map (λ t. t.def) o)) at)

pub indexes_go : (done : List Table) (x : Table) (next number : ℕ) (todo : List IndexDef) (names : List Name) → none_has x.def.number done → next_index (listing_of x) ≡ number
    → are_indexes x.def number todo ≡ true → length (x.indexes ++ todo) ≤ 8 → repeats bytes_eq ((names_in done ++ map name_of x.indexes) ++ (map name_of todo ++ names)) ≡ false
    → Goes (last done x next) (map index_made todo) (map (λ index. create_index index x.def) todo) (last done (record x { indexes = x.indexes ++ todo }) next)
indexes_go done x next number [] names none counts good few once =
    subst (λ (indexes : List IndexDef). Goes (last done x next) [] [] (last done (record x { indexes = indexes }) next)) (sym (append-nil x.indexes)) (goes_none (last done x next))
indexes_go done x next number (index ∷ todo) names none counts good few once =
    let is = next_of x.def number index todo good in
    let y : Table = record x { indexes = x.indexes ++ index ∷ [] } in
    let shorter = length_before x.indexes index todo in
    let fresh = fresh_before bytes_eq (names_in done ++ map name_of x.indexes) index.name (map name_of todo ++ names) once in
    let joined : (x.indexes ++ index ∷ []) ++ todo ≡ x.indexes ++ index ∷ todo = append_assoc x.indexes (index ∷ []) todo in
    let named : (names_in done ++ map name_of (x.indexes ++ index ∷ [])) ++ (map name_of todo ++ names) ≡ (names_in done ++ map name_of x.indexes) ++ (index.name ∷ (map name_of todo ++ names)) =
    ap (λ (ns : List Name). (names_in done ++ ns) ++ (map name_of todo ++ names)) (map-append name_of x.indexes (index ∷ []))
    ∙ ap (λ (ns : List Name). ns ++ (map name_of todo ++ names)) (sym (append_assoc (names_in done) (map name_of x.indexes) (index.name ∷ [])))
    ∙ append_assoc (names_in done ++ map name_of x.indexes) (index.name ∷ []) (map name_of todo ++ names) in
    let one = index_goes done x next number index none counts is.number_is is.table_is is.good (omega arith) fresh in
    let rest =
    indexes_go done y next (suc number) todo names none (next_more x index number counts is.number_is) is.rest (subst (λ (l : List IndexDef). length l ≤ 8) (sym joined) few) (ap (repeats bytes_eq) named ∙ once) in
    subst (λ (indexes : List IndexDef). Goes (last done x next) (map index_made (index ∷ todo)) (map (λ i. create_index i x.def) (index ∷ todo)) (last done (record x { indexes = indexes }) next)) joined
    (goes_both (last done x next) (last done y next) (last done (record x { indexes = (x.indexes ++ index ∷ []) ++ todo }) next) (index_made index ∷ []) (map index_made todo)
    (create_index index x.def ∷ []) (map (λ i. create_index i x.def) todo) one rest)

-- ---- the table

pub table_goes : (done : List Table) (def : TableDef) → list_any (bytes_eq def.name) (map (λ z. z.def.name) done) ≡ false → length done < 1000 → def.number ≤ 1000 → is_definition false def ≡ true
    → Goes (record { tables = done; next = def.number }) (table_made def ∷ []) (create_table def ∷ []) (last done (record { def = def; indexes = []; rows = [] }) (def.number + 1))
table_goes done def other few small good =
    let t : Tables = record { tables = done; next = def.number } in
    let c = catalog_of t in
    let none : list_any (has_name def.name) (map listing_of done) ≡ false =
    list_any-map (has_name def.name) listing_of done ∙ sym (list_any-map (bytes_eq def.name) (λ z. z.def.name) done) ∙ other in
    let free : is_none (listing_named c def.name) ≡ true = find_none (has_name def.name) (map listing_of done) none in
    let long = length-map_of listing_of done in
    let room : is_full c ≡ false =
    or_from (nat_le 1000 (length (map listing_of done))) (nat_le 4294967295 def.number) (lt-leb 1000 (length (map listing_of done)) (omega arith)) (lt-leb 4294967295 def.number (omega arith)) in
    let right : is_definition (is_full c) def ≡ true = subst (λ full. is_definition full def ≡ true) (sym room) good in
    let may : allows_table c def ≡ true =
    and_from (def.number == def.number && is_none (listing_named c def.name)) (is_definition (is_full c) def)
    (and_from (def.number == def.number) (is_none (listing_named c def.name)) (eq-eqb def.number def.number refl) free) right in
    goes_one t (last done (record { def = def; indexes = []; rows = [] }) (def.number + 1)) (table_made def) (create_table def)
    (ap (λ b. cond b (Some (after_alter (CreateTable def) t)) None) may) refl
