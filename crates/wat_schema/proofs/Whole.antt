-- A catalog stays one as tables and indexes come and go.
use Rattle.std.proofs.Common.{◌≡◌, ℕ, ◌+◌, ◌≤◌, true, false, ◌&&◌, ◌||◌, not, List, [], ◌∷◌, ◌++◌, map, filter, length, Option, Some, None, is_none, nat_le, suc, max, ◌==◌, refl, sym, ap, ap₂, subst, ◌∙◌, arith}
use Rattle.std.specs.Cmp.{both_ways}
use Rattle.std.specs.List.{fold, flat_map, list_all, list_any}
use Rattle.std.specs.Str.{bytes_eq}
use Rattle.std.proofs.lemmas.Bool.{and_parts, and_from, or_parts, or_from, eq-eqb, eqb-true, ne_eqb, le-leb, leb-true}
use Rattle.std.proofs.lemmas.Grind.{flat_map-append}
use Rattle.std.proofs.lemmas.List.{map-append, append-nil, append_assoc, length_push}
use Rattle.std.proofs.lemmas.List.Concat.{flat_map_single}
use Rattle.std.proofs.lemmas.List.Folds.{list_any-append, list_all-append}
use Rattle.std.proofs.lemmas.Slice.Eq.{bytes_eq-Decides}
use Rattle.wat_value.specs.declared.definition.TableDef.{TableDef}
use Rattle.wat_value.specs.declared.definition.IndexDef.{IndexDef}
use Rattle.wat_value.specs.declared.change.SchemaChange.{SchemaChange}
use Rattle.wat_value.specs.declared.change.SchemaChange.TheVariants.{CreateTable, DropTable, CreateIndex}
use Rattle.wat_schema.specs.Catalog.{Name, Catalog, Listing, empty_catalog, ascend, in_order, numbers_of, names_of, has_name, has_number, listing_at, repeats}
use Rattle.wat_schema.specs.Definitions.{allows, allows_index, allows_table, altered, bad_index, is_definition, with_index}
use Rattle.wat_schema.specs.Stored.{IsCatalog, are_indexes, index_names, is_index, is_whole}
use Rattle.wat_schema.proofs.Again.{good_of, same_rules, changed_here, names_of_one, list_any-names}
use Rattle.wat_schema.proofs.Distinct.{found_at, ascend_distinct, distinct_filter, distinct_insert, distinct_push, fresh_after, list_all-filter, filter_shorter}
use Rattle.wat_schema.proofs.Keeping.{indexed, unindexed, with_tables, may_table, MayIndex, may_index, no_index, free_index}
use Rattle.wat_schema.proofs.Order.{ascend-next, ascend-filter, list_any-found, list_any-map}

pub empty_whole : IsCatalog empty_catalog
empty_whole = record { order = refl; next = omega arith; few = omega arith; tables = refl; names = refl; indexes = refl }

-- ---- a table comes

pub with_table : (c : Catalog) (def : TableDef) → IsCatalog c → allows_table c def ≡ true → IsCatalog (altered (CreateTable def) c)
with_table c def is allowed =
    let may = may_table c def allowed in
    let room = may.room in
    let few = may.few in
    let order = and_parts (nat_le 1 c.next) (ascend 0 (numbers_of c.tables) c.next) is.order in
    let some = leb-true 1 c.next order.0 in
    let long = length_push c.tables (unindexed def) in
    let fresh : list_any (bytes_eq def.name) (names_of c.tables) ≡ false =
    list_any-map (bytes_eq def.name) (λ t. t.def.name) c.tables ∙ list_any-found (has_name def.name) c.tables may.free in
    let names : index_names (c.tables ++ unindexed def ∷ []) ≡ index_names c.tables =
    flat_map-append (λ t. map (λ i. i.name) t.indexes) c.tables (unindexed def ∷ []) ∙ append-nil (index_names c.tables) in
    record {
      order = and_from (nat_le 1 (c.next + 1)) (ascend 0 (numbers_of (c.tables ++ unindexed def ∷ [])) (c.next + 1)) (le-leb 1 (c.next + 1) (omega arith))
          (rw (map-append (λ t. t.def.number) c.tables (unindexed def ∷ []), may.number) (ascend-next 0 (numbers_of c.tables) c.next (omega arith) order.1));
      next = omega arith;
      few = omega arith;
      tables = list_all-append is_whole c.tables (unindexed def ∷ [])
          ∙ and_from (list_all is_whole c.tables) (is_whole (unindexed def) && true) is.tables (rw may.good refl);
      names = ap (repeats bytes_eq) (map-append (λ t. t.def.name) c.tables (unindexed def ∷ [])) ∙ distinct_push bytes_eq (names_of c.tables) def.name is.names fresh;
      indexes = ap (repeats bytes_eq) names ∙ is.indexes;
    }

-- ---- a table goes

pub without_table : (c : Catalog) (table : ℕ) → IsCatalog c → IsCatalog (altered (DropTable table) c)
without_table c table is =
    let stays = λ (t : Listing). not (has_number table t) in
    let order = and_parts (nat_le 1 c.next) (ascend 0 (numbers_of c.tables) c.next) is.order in
    let shorter = filter_shorter stays stays c.tables in
    let few = is.few in
    let names : repeats bytes_eq (flat_map (λ t. t.def.name ∷ []) c.tables) ≡ false = ap (repeats bytes_eq) (flat_map_single (λ t. t.def.name) c.tables) ∙ is.names in
    record {
      order = and_from (nat_le 1 c.next) (ascend 0 (numbers_of (filter stays c.tables)) c.next) order.0 (ascend-filter (λ t. t.def.number) stays 0 c.tables c.next order.1);
      next = is.next;
      few = omega arith;
      tables = list_all-filter stays is_whole c.tables is.tables;
      names = sym (ap (repeats bytes_eq) (flat_map_single (λ t. t.def.name) (filter stays c.tables))) ∙ distinct_filter bytes_eq (λ t. t.def.name ∷ []) stays c.tables names;
      indexes = distinct_filter bytes_eq (λ t. map (λ i. i.name) t.indexes) stays c.tables is.indexes;
    }

-- ---- an index comes

greatest_of : (def : TableDef) (a : ℕ) (indexes : List IndexDef) → are_indexes def (suc a) indexes ≡ true → fold max a (map (λ i. i.number) indexes) ≡ a + length indexes
greatest_of def a [] h = omega arith
greatest_of def a (index ∷ indexes) h =
    let outer = and_parts (index.number == suc a && index.table == def.number && is_index def index) (are_indexes def (suc (suc a)) indexes) h in
    let inner = and_parts (index.number == suc a && index.table == def.number) (is_index def index) outer.0 in
    let first = and_parts (index.number == suc a) (index.table == def.number) inner.0 in
    let is : index.number ≡ suc a = eqb-true index.number (suc a) first.0 in
    let larger : max a index.number ≡ suc a = omega arith in
    ap (λ m. fold max m (map (λ i. i.number) indexes)) larger ∙ greatest_of def (suc a) indexes outer.1 ∙ omega arith

indexes_push : (def : TableDef) (n : ℕ) (indexes : List IndexDef) (index : IndexDef) → are_indexes def n indexes ≡ true → index.number ≡ n + length indexes → index.table ≡ def.number
    → is_index def index ≡ true → are_indexes def n (indexes ++ index ∷ []) ≡ true
indexes_push def n [] index h number table good =
    let is : index.number ≡ n = number ∙ omega arith in
    rw (eq-eqb index.number n is, eq-eqb index.table def.number table, good) refl
indexes_push def n (i ∷ indexes) index h number table good =
    let outer = and_parts (i.number == n && i.table == def.number && is_index def i) (are_indexes def (suc n) indexes) h in
    let is : index.number ≡ suc n + length indexes = number ∙ omega arith in
    and_from (i.number == n && i.table == def.number && is_index def i) (are_indexes def (suc n) (indexes ++ index ∷ [])) outer.0
    (indexes_push def (suc n) indexes index outer.1 is table good)

whole_more : (t : Listing) (index : IndexDef) → is_whole t ≡ true → MayIndex t index → index.table ≡ t.def.number → is_whole (indexed t index) ≡ true
whole_more t index whole may table =
    let good = good_of t whole in
    let few = may.few in
    let long = length_push t.indexes index in
    let number : index.number ≡ 1 + length t.indexes = may.next ∙ ap suc (greatest_of t.def 0 t.indexes good.indexes) ∙ omega arith in
    let right : is_index t.def index ≡ true = ap is_none (sym (same_rules t.def t.indexes index.columns few)) ∙ may.right in
    and_from (is_definition false t.def && nat_le (length (t.indexes ++ index ∷ [])) 8) (are_indexes t.def 1 (t.indexes ++ index ∷ []))
    (and_from (is_definition false t.def) (nat_le (length (t.indexes ++ index ∷ [])) 8) good.definition (le-leb (length (t.indexes ++ index ∷ [])) 8 (omega arith)))
    (indexes_push t.def 1 t.indexes index good.indexes number table right)

bytes_eq-swap : (a b : Name) → bytes_eq a b ≡ bytes_eq b a
bytes_eq-swap a b =
    both_ways (bytes_eq a b) (bytes_eq b a) (λ h. (bytes_eq-Decides b a).1 (sym ((bytes_eq-Decides a b).0 h))) (λ h. (bytes_eq-Decides a b).1 (sym ((bytes_eq-Decides b a).0 h)))

swapped : (name : Name) (names : List Name) → list_any (λ other. bytes_eq other name) names ≡ list_any (bytes_eq name) names
swapped name [] = refl
swapped name (other ∷ names) = ap₂ (λ a b. a || b) (bytes_eq-swap other name) (swapped name names)

number_later : (n : ℕ) (tables : List Listing) → list_any (λ m. m == n) (numbers_of tables) ≡ false → list_any (has_number n) tables ≡ false
number_later n [] h = refl
number_later n (t ∷ tables) h =
    let parts = or_parts (t.def.number == n) (list_any (λ m. m == n) (numbers_of tables)) h in
    or_from (n == t.def.number) (list_any (has_number n) tables)
    (ne_eqb n t.def.number (λ e. let same : (t.def.number == n) ≡ true = eq-eqb t.def.number n (sym e) in let no : true ≡ false = sym same ∙ parts.0 in cc))
    (number_later n tables parts.1)

pub record Changed (c : Catalog) (index : IndexDef) : Type 0 where
  pub t : Listing
  pub before : List Listing
  pub after : List Listing
  pub is : c.tables ≡ before ++ t ∷ after
  pub made : map (with_index index) c.tables ≡ before ++ indexed t index ∷ after
  pub may : MayIndex t index
  pub table : index.table ≡ t.def.number

pub changed_of : (c : Catalog) (index : IndexDef) → in_order c ≡ true → allows_index c index ≡ true → Changed c index
changed_of c index order allowed = by (listing_at c index.table) refl
  where
    by : (o : Option Listing) → listing_at c index.table ≡ o → Changed c index
    by None none = absurd (no_index c index allowed (sym none))
    by (Some t) some =
        let found = found_at (has_number index.table) c.tables t some in
        let table : index.table ≡ t.def.number = eqb-true index.table t.def.number found.here in
        let parts = and_parts (nat_le 1 c.next) (ascend 0 (numbers_of c.tables) c.next) order in
        let distinct : repeats ◌==◌ (numbers_of found.before ++ t.def.number ∷ numbers_of found.after) ≡ false =
        sym (ap (repeats ◌==◌) (ap numbers_of found.is ∙ map-append (λ t. t.def.number) found.before (t ∷ found.after))) ∙ ascend_distinct 0 (numbers_of c.tables) c.next parts.1 in
        let later : list_any (has_number index.table) found.after ≡ false =
        subst (λ n. list_any (has_number n) found.after ≡ false) (sym table)
        (number_later t.def.number found.after (fresh_after ◌==◌ (numbers_of found.before) t.def.number (numbers_of found.after) distinct)) in
        record {
          t = t;
          before = found.before;
          after = found.after;
          is = found.is;
          made = ap (map (with_index index)) found.is ∙ changed_here index found.before t found.after found.earlier found.here later;
          may = may_index c index t allowed (sym some);
          table = table;
        }

same_length : (before : List Listing) (t : Listing) (after : List Listing) (index : IndexDef) → length (before ++ indexed t index ∷ after) ≡ length (before ++ t ∷ after)
same_length [] t after index = refl
same_length (x ∷ before) t after index = ap suc (same_length before t after index)

module _ {Y : Type 0} (f : Listing → Y) where
  pub same_map : (before : List Listing) (t : Listing) (after : List Listing) (index : IndexDef) → f (indexed t index) ≡ f t → map f (before ++ indexed t index ∷ after) ≡ map f (before ++ t ∷ after)
  same_map [] t after index same = ap (λ y. y ∷ map f after) same
  same_map (x ∷ before) t after index same = ap (λ ys. f x ∷ ys) (same_map before t after index same)

pub with_one_index : (c : Catalog) (index : IndexDef) → IsCatalog c → allows_index c index ≡ true → IsCatalog (altered (CreateIndex index) c)
with_one_index c index is allowed =
    let at = changed_of c index is.order allowed in
    let tables = at.before ++ at.t ∷ at.after in
    let changed = at.before ++ indexed at.t index ∷ at.after in
    let numbers : numbers_of changed ≡ numbers_of tables = same_map (λ t. t.def.number) at.before at.t at.after index refl in
    let names : names_of changed ≡ names_of tables = same_map (λ t. t.def.name) at.before at.t at.after index refl in
    let long = same_length at.before at.t at.after index in
    let was_few : length tables ≤ 1000 = subst (λ ts. length ts ≤ 1000) at.is is.few in
    let whole = and_parts (list_all is_whole at.before) (is_whole at.t && list_all is_whole at.after)
    (sym (list_all-append is_whole at.before (at.t ∷ at.after)) ∙ sym (ap (list_all is_whole) at.is) ∙ is.tables) in
    let here = and_parts (is_whole at.t) (list_all is_whole at.after) whole.1 in
    let front = index_names at.before ++ map (λ i. i.name) at.t.indexes in
    let distinct : repeats bytes_eq (front ++ index_names at.after) ≡ false =
    ap (repeats bytes_eq) (append_assoc (index_names at.before) (map (λ i. i.name) at.t.indexes) (index_names at.after) ∙ sym (names_of_one at.before at.t at.after) ∙ sym (ap index_names at.is)) ∙ is.indexes in
    let fresh = or_parts (list_any (bytes_eq index.name) front) (list_any (bytes_eq index.name) (index_names at.after))
    (sym (list_any-append (bytes_eq index.name) front (index_names at.after))
    ∙ ap (list_any (bytes_eq index.name)) (append_assoc (index_names at.before) (map (λ i. i.name) at.t.indexes) (index_names at.after) ∙ sym (names_of_one at.before at.t at.after) ∙ sym (ap index_names at.is))
    ∙ sym (list_any-names index.name c.tables) ∙ free_index c index allowed) in
    let named : index_names changed ≡ front ++ index.name ∷ index_names at.after =
    names_of_one at.before (indexed at.t index) at.after
    ∙ ap (λ ns. index_names at.before ++ (ns ++ index_names at.after)) (map-append (λ i. i.name) at.t.indexes (index ∷ []))
    ∙ ap (λ ns. index_names at.before ++ ns) (append_assoc (map (λ i. i.name) at.t.indexes) (index.name ∷ []) (index_names at.after))
    ∙ sym (append_assoc (index_names at.before) (map (λ i. i.name) at.t.indexes) (index.name ∷ index_names at.after)) in
    let made : IsCatalog (with_tables c.next changed) =
    record {
      order = ap (λ ns. nat_le 1 c.next && ascend 0 ns c.next) (numbers ∙ sym (ap numbers_of at.is)) ∙ is.order;
      next = is.next;
      few = omega arith;
      tables = list_all-append is_whole at.before (indexed at.t index ∷ at.after)
          ∙ and_from (list_all is_whole at.before) (is_whole (indexed at.t index) && list_all is_whole at.after) whole.0
          (and_from (is_whole (indexed at.t index)) (list_all is_whole at.after) (whole_more at.t index here.0 at.may at.table) here.1);
      names = ap (repeats bytes_eq) (names ∙ sym (ap names_of at.is)) ∙ is.names;
      indexes = ap (repeats bytes_eq) named
          ∙ distinct_insert bytes_eq front index.name (index_names at.after) distinct fresh.0 (swapped index.name (index_names at.after) ∙ fresh.1);
    } in
    subst (λ ts. IsCatalog (with_tables c.next ts)) (sym at.made) made

pub stays_whole : (change : SchemaChange) (c : Catalog) → IsCatalog c → allows change c ≡ true → IsCatalog (altered change c)
stays_whole (CreateTable def) c is allowed = with_table c def is allowed
stays_whole (DropTable table) c is allowed = without_table c table is
stays_whole (CreateIndex index) c is allowed = with_one_index c index is allowed
