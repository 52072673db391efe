-- A catalog is made again of its definitions.
use Rattle.std.proofs.Common.{◌≡◌, ℕ, ◌+◌, ◌<◌, ◌≤◌, true, false, ◌&&◌, ◌||◌, not, List, [], ◌∷◌, ◌++◌, map, length, Some, is_none, nat_le, nat_lt, suc, max, ◌==◌, refl, sym, ap, ap₂, subst, ◌∙◌, arith}
use Rattle.std.specs.List.{fold, flat_map, list_all, list_any}
use Rattle.std.specs.Option.{option_and_then}
use Rattle.std.specs.Str.{bytes_eq}
use Rattle.std.proofs.lemmas.Bool.{and_parts, and_from, or_parts, or_from, eq-eqb, eqb-true, ne_eqb, le-leb, lt-leb, leb-true}
use Rattle.std.proofs.lemmas.List.{map-append, append-nil, append_assoc}
use Rattle.std.proofs.lemmas.List.Folds.{list_any-append}
use Rattle.std.proofs.lemmas.List.Sums.{fold-append}
use Rattle.std.proofs.lemmas.Grind.{flat_map-append}
use Rattle.wat_value.specs.declared.definition.TableDef.{TableDef}
use Rattle.wat_value.specs.declared.definition.IndexDef.{IndexDef}
use Rattle.wat_value.specs.declared.change.SchemaChange.TheVariants.{CreateTable, CreateIndex}
use Rattle.wat_schema.specs.Catalog.{Name, Catalog, Listing, ascend, numbers_of, has_name, has_number, has_index, has_index_named, listing_at, listing_named, repeats}
use Rattle.wat_value.specs.Widths.{width_at}
use Rattle.wat_schema.specs.Definitions.{allows_index, allows_index_here, allows_index_of, allows_table, altered, bad_index, is_bad_key, is_definition, is_full, may_be_null, next_index, smallest_broken, with_index}
use Rattle.wat_schema.specs.Making.{catalog_from, followed_by, in_table_order, made_from, with_indexes_of, with_tables_of}
use Rattle.wat_schema.specs.Stored.{IsCatalog, are_indexes, defs_of, index_names, indexes_of, is_index, is_whole}
use Rattle.wat_schema.proofs.Distinct.{fresh_before, fresh_after, find_none, find_here, ascend_distinct}
use Rattle.wat_schema.proofs.Keeping.{indexed, unindexed, with_tables}
use Rattle.wat_schema.proofs.Order.{begins, list_any-map}

-- ---- the tables

record TablesMade (defs more : List TableDef) (start high : ℕ) : Type 0 where
  next : ℕ
  made : with_tables_of more (with_tables start (map unindexed defs)) ≡ Some (with_tables next (map unindexed (defs ++ more)))
  below : next ≤ high

pub length_before : {X : Type 0} (xs : List X) (x : X) (ys : List X) → length xs < length (xs ++ x ∷ ys)
length_before [] x ys = omega arith
length_before (y ∷ xs) x ys = let rest = length_before xs x ys in omega arith

pub length-map_of : {X Y : Type 0} (f : X → Y) (xs : List X) → length (map f xs) ≡ length xs
length-map_of f [] = refl
length-map_of f (x ∷ xs) = ap suc (length-map_of f xs)

tables_made : (defs more : List TableDef) (low high : ℕ) → low < high → high ≤ 4294967295 → ascend low (map (λ def. def.number) more) high ≡ true
    → repeats bytes_eq (map (λ def. def.name) (defs ++ more)) ≡ false → length (defs ++ more) ≤ 1000 → list_all (is_definition false) more ≡ true
    → TablesMade defs more (low + 1) high
tables_made defs [] low high less top order names few good =
    record { next = low + 1; made = ap (λ ds. Some (with_tables (low + 1) (map unindexed ds))) (sym (append-nil defs)); below = omega arith }
tables_made defs (def ∷ more) low high less top order names few good =
    let b = begins low def.number (map (λ def. def.number) more) high order in
    let parts = and_parts (is_definition false def) (list_all (is_definition false) more) good in
    let joined : (defs ++ def ∷ []) ++ more ≡ defs ++ def ∷ more = append_assoc defs (def ∷ []) more in
    let rest =
    tables_made (defs ++ def ∷ []) more def.number high b.below top b.rest
    (subst (λ ds. repeats bytes_eq (map (λ def. def.name) ds) ≡ false) (sym joined) names) (subst (λ ds. length ds ≤ 1000) (sym joined) few) parts.1 in
    let c = with_tables def.number (map unindexed defs) in
    let called : repeats bytes_eq (map (λ def. def.name) defs ++ def.name ∷ map (λ def. def.name) more) ≡ false =
    sym (ap (repeats bytes_eq) (map-append (λ def. def.name) defs (def ∷ more))) ∙ names in
    let other : list_any (has_name def.name) (map unindexed defs) ≡ false =
    list_any-map (has_name def.name) unindexed defs ∙ sym (list_any-map (λ name. bytes_eq def.name name) (λ def. def.name) defs)
    ∙ fresh_before bytes_eq (map (λ def. def.name) defs) def.name (map (λ def. def.name) more) called in
    let free : is_none (listing_named c def.name) ≡ true = find_none (has_name def.name) (map unindexed defs) other in
    let shorter = length_before defs def more in
    let long = length-map_of unindexed defs in
    let room : is_full c ≡ false =
    or_from (nat_le 1000 (length (map unindexed defs))) (nat_le 4294967295 def.number) (lt-leb 1000 (length (map unindexed defs)) (omega arith))
    (let below = b.below in lt-leb 4294967295 def.number (omega arith)) in
    let right : is_definition (is_full c) def ≡ true = subst (λ full. is_definition full def ≡ true) (sym room) parts.0 in
    let above = b.above in
    let may : (nat_le (low + 1) def.number && allows_table c def) ≡ true =
    and_from (nat_le (low + 1) def.number) (allows_table c def) (le-leb (low + 1) def.number (omega arith))
    (and_from (def.number == def.number && is_none (listing_named c def.name)) (is_definition (is_full c) def)
    (and_from (def.number == def.number) (is_none (listing_named c def.name)) (eq-eqb def.number def.number refl) free) right) in
    let one : altered (CreateTable def) c ≡ with_tables (def.number + 1) (map unindexed (defs ++ def ∷ [])) =
    ap (with_tables (def.number + 1)) (sym (map-append unindexed defs (def ∷ []))) in
    record {
      next = rest.next;
      made = rw may (ap (with_tables_of more) one ∙ rest.made ∙ ap (λ ds. Some (with_tables rest.next (map unindexed ds))) joined);
      below = rest.below;
    }

-- ---- the indexes

-- the bound on indexes is not broken below 8
pub same_rules : (def : TableDef) (done : List IndexDef) (numbers : List ℕ) → length done < 8
    → bad_index (record { def = def; indexes = done }) numbers ≡ bad_index (record { def = def; indexes = [] }) numbers
same_rules def done numbers few =
    ap (λ b. smallest_broken (is_bad_key def.columns numbers ∷ may_be_null def.columns numbers ∷ (length numbers == 0 || nat_lt 16 (length numbers)) ∷ nat_lt 900 (width_at def.columns numbers + width_at def.columns def.key) ∷ b ∷ []))
    (lt-leb 8 (length done) few)

next_more : (t : Listing) (index : IndexDef) (number : ℕ) → next_index t ≡ number → index.number ≡ number → next_index (indexed t index) ≡ suc number
next_more t index number next is =
    let pushed : next_index (indexed t index) ≡ suc (max (fold max 0 (map (λ i. i.number) t.indexes)) index.number) =
    ap (λ ns. suc (fold max 0 ns)) (map-append (λ i. i.number) t.indexes (index ∷ [])) ∙ ap suc (fold-append max 0 (map (λ i. i.number) t.indexes) (index.number ∷ [])) in
    let larger : max (fold max 0 (map (λ i. i.number) t.indexes)) index.number ≡ number = omega arith in
    pushed ∙ ap suc larger

-- tables that do not have the number stay
unchanged : (index : IndexDef) (tables : List Listing) → list_any (has_number index.table) tables ≡ false → map (with_index index) tables ≡ tables
unchanged index [] none = refl
unchanged index (t ∷ tables) none =
    let parts = or_parts (has_number index.table t) (list_any (has_number index.table) tables) none in
    rw (parts.0, unchanged index tables parts.1) refl

pub changed_here : (index : IndexDef) (before : List Listing) (t : Listing) (after : List Listing) → list_any (has_number index.table) before ≡ false → has_number index.table t ≡ true
    → list_any (has_number index.table) after ≡ false → map (with_index index) (before ++ t ∷ after) ≡ before ++ indexed t index ∷ after
changed_here index before t after none here later =
    map-append (with_index index) before (t ∷ after)
    ∙ ap₂ (λ a b. a ++ b) (unchanged index before none) (rw (here, unchanged index after later) refl)

pub list_any-names : (name : Name) (tables : List Listing) → list_any (has_index name) tables ≡ list_any (bytes_eq name) (index_names tables)
list_any-names name [] = refl
list_any-names name (t ∷ tables) =
    ap₂ (λ a b. a || b) (sym (list_any-map (bytes_eq name) (λ index. index.name) t.indexes)) (list_any-names name tables)
    ∙ sym (list_any-append (bytes_eq name) (map (λ index. index.name) t.indexes) (index_names tables))

no_names : (name : Name) (defs : List TableDef) → list_any (has_index name) (map unindexed defs) ≡ false
no_names name [] = refl
no_names name (def ∷ defs) = no_names name defs

-- where the indexes of a table are made
record IsPlace (before : List Listing) (def : TableDef) (done : List IndexDef) (after : List TableDef) (number : ℕ) : Type 0 where
  earlier : list_any (has_number def.number) before ≡ false
  later : list_any (has_number def.number) (map unindexed after) ≡ false
  next : next_index (record { def = def; indexes = done }) ≡ number

made_here : (before : List Listing) (def : TableDef) (done : List IndexDef) (after : List TableDef) (number m : ℕ) (index : IndexDef) → IsPlace before def done after number
    → index.number ≡ number → index.table ≡ def.number → is_index def index ≡ true → length done < 8
    → list_any (bytes_eq index.name) (index_names before ++ map (λ i. i.name) done) ≡ false
    → allows_index (with_tables m (before ++ record { def = def; indexes = done } ∷ map unindexed after)) index ≡ true
made_here before def done after number m index place is table good few fresh =
    let t : Listing = record { def = def; indexes = done } in
    let tables = before ++ t ∷ map unindexed after in
    let here : has_number index.table t ≡ true = eq-eqb index.table def.number table in
    let found : listing_at (with_tables m tables) index.table ≡ Some t =
    find_here (has_number index.table) before t (map unindexed after) (subst (λ n. list_any (has_number n) before ≡ false) (sym table) place.earlier) here in
    let right : is_none (bad_index t index.columns) ≡ true = ap is_none (same_rules def done index.columns few) ∙ good in
    let may : allows_index_here index t ≡ true =
    and_from (index.number == next_index t) (is_none (bad_index t index.columns)) (eq-eqb index.number (next_index t) (is ∙ sym place.next)) right in
    let names = or_parts (list_any (bytes_eq index.name) (index_names before)) (list_any (bytes_eq index.name) (map (λ i. i.name) done))
    (sym (list_any-append (bytes_eq index.name) (index_names before) (map (λ i. i.name) done)) ∙ fresh) in
    let free : has_index_named (with_tables m tables) index.name ≡ false =
    list_any-append (has_index index.name) before (t ∷ map unindexed after)
    ∙ or_from (list_any (has_index index.name) before) (has_index index.name t || list_any (has_index index.name) (map unindexed after)) (list_any-names index.name before ∙ names.0)
    (or_from (has_index index.name t) (list_any (has_index index.name) (map unindexed after)) (sym (list_any-map (bytes_eq index.name) (λ i. i.name) done) ∙ names.1) (no_names index.name after)) in
    and_from (allows_index_of index (listing_at (with_tables m tables) index.table)) (not (has_index_named (with_tables m tables) index.name))
    (ap (allows_index_of index) found ∙ may) (ap not free)

pub record IsNext (def : TableDef) (number : ℕ) (index : IndexDef) (todo : List IndexDef) : Type 0 where
  pub number_is : index.number ≡ number
  pub table_is : index.table ≡ def.number
  pub good : is_index def index ≡ true
  pub rest : are_indexes def (suc number) todo ≡ true

pub next_of : (def : TableDef) (number : ℕ) (index : IndexDef) (todo : List IndexDef) → are_indexes def number (index ∷ todo) ≡ true → IsNext def number index todo
next_of def number index todo h =
    let outer = and_parts (index.number == number && index.table == def.number && is_index def index) (are_indexes def (suc number) todo) h in
    let inner = and_parts (index.number == number && index.table == def.number) (is_index def index) outer.0 in
    let first = and_parts (index.number == number) (index.table == def.number) inner.0 in
    record { number_is = eqb-true index.number number first.0; table_is = eqb-true index.table def.number first.1; good = inner.1; rest = outer.1 }

indexes_made_here : (before : List Listing) (def : TableDef) (done todo : List IndexDef) (after : List TableDef) (names : List Name) (more : List IndexDef) (number m : ℕ)
    → IsPlace before def done after number → are_indexes def number todo ≡ true → length (done ++ todo) ≤ 8
    → repeats bytes_eq ((index_names before ++ map (λ i. i.name) done) ++ (map (λ i. i.name) todo ++ names)) ≡ false
    → with_indexes_of (todo ++ more) (with_tables m (before ++ record { def = def; indexes = done } ∷ map unindexed after))
    ≡ with_indexes_of more (with_tables m (before ++ record { def = def; indexes = done ++ todo } ∷ map unindexed after))
indexes_made_here before def done [] after names more number m place good few distinct =
    ap (λ is. with_indexes_of more (with_tables m (before ++ record { def = def; indexes = is } ∷ map unindexed after))) (sym (append-nil done))
indexes_made_here before def done (index ∷ todo) after names more number m place good few distinct =
    let is = next_of def number index todo good in
    let t : Listing = record { def = def; indexes = done } in
    let shorter = length_before done index todo in
    let fresh = fresh_before bytes_eq (index_names before ++ map (λ i. i.name) done) index.name (map (λ i. i.name) todo ++ names) distinct in
    let may = made_here before def done after number m index place is.number_is is.table_is is.good (omega arith) fresh in
    let joined : (done ++ index ∷ []) ++ todo ≡ done ++ index ∷ todo = append_assoc done (index ∷ []) todo in
    let made : altered (CreateIndex index) (with_tables m (before ++ t ∷ map unindexed after)) ≡ with_tables m (before ++ indexed t index ∷ map unindexed after) =
    ap (with_tables m)
    (changed_here index before t (map unindexed after) (subst (λ n. list_any (has_number n) before ≡ false) (sym is.table_is) place.earlier) (eq-eqb index.table def.number is.table_is)
    (subst (λ n. list_any (has_number n) (map unindexed after) ≡ false) (sym is.table_is) place.later)) in
    let named : (index_names before ++ map (λ i. i.name) (done ++ index ∷ [])) ++ (map (λ i. i.name) todo ++ names)
    ≡ (index_names before ++ map (λ i. i.name) done) ++ (index.name ∷ (map (λ i. i.name) todo ++ names)) =
    ap (λ ns. (index_names before ++ ns) ++ (map (λ i. i.name) todo ++ names)) (map-append (λ i. i.name) done (index ∷ []))
    ∙ ap (λ ns. ns ++ (map (λ i. i.name) todo ++ names)) (sym (append_assoc (index_names before) (map (λ i. i.name) done) (index.name ∷ [])))
    ∙ append_assoc (index_names before ++ map (λ i. i.name) done) (index.name ∷ []) (map (λ i. i.name) todo ++ names) in
    let place_after : IsPlace before def (done ++ index ∷ []) after (suc number) =
    record { earlier = place.earlier; later = place.later; next = next_more t index number place.next is.number_is } in
    let rest =
    indexes_made_here before def (done ++ index ∷ []) todo after names more (suc number) m place_after is.rest (subst (λ l. length l ≤ 8) (sym joined) few)
    (ap (repeats bytes_eq) named ∙ distinct) in
    rw may
    (ap (with_indexes_of (todo ++ more)) made ∙ rest
    ∙ ap (λ is. with_indexes_of more (with_tables m (before ++ record { def = def; indexes = is } ∷ map unindexed after))) joined)

pub names_of_one : (before : List Listing) (t : Listing) (after : List Listing) → index_names (before ++ t ∷ after) ≡ index_names before ++ (map (λ i. i.name) t.indexes ++ index_names after)
names_of_one before t after = flat_map-append (λ t. map (λ i. i.name) t.indexes) before (t ∷ after)

pub record IsGood (t : Listing) : Type 0 where
  pub definition : is_definition false t.def ≡ true
  pub few : length t.indexes ≤ 8
  pub indexes : are_indexes t.def 1 t.indexes ≡ true

pub good_of : (t : Listing) → is_whole t ≡ true → IsGood t
good_of t h =
    let outer = and_parts (is_definition false t.def && nat_le (length t.indexes) 8) (are_indexes t.def 1 t.indexes) h in
    let inner = and_parts (is_definition false t.def) (nat_le (length t.indexes) 8) outer.0 in
    record { definition = inner.0; few = leb-true (length t.indexes) 8 inner.1; indexes = outer.1 }

number_of_none : (n : ℕ) (tables : List Listing) → list_any (λ m. m == n) (numbers_of tables) ≡ false → list_any (has_number n) (map unindexed (map (λ t. t.def) tables)) ≡ false
number_of_none n [] h = refl
number_of_none n (t ∷ tables) h =
    let parts = or_parts (t.def.number == n) (list_any (λ m. m == n) (numbers_of tables)) h in
    or_from (n == t.def.number) (list_any (has_number n) (map unindexed (map (λ t. t.def) tables)))
    (ne_eqb n t.def.number (λ e. let same : (t.def.number == n) ≡ true = eq-eqb t.def.number n (sym e) in let no : true ≡ false = sym same ∙ parts.0 in cc))
    (number_of_none n tables parts.1)

indexes_made : (before tables : List Listing) (m : ℕ) → list_all is_whole tables ≡ true → repeats ◌==◌ (numbers_of (before ++ tables)) ≡ false → repeats bytes_eq (index_names (before ++ tables)) ≡ false
    → with_indexes_of (flat_map (λ t. t.indexes) tables) (with_tables m (before ++ map unindexed (map (λ t. t.def) tables))) ≡ Some (with_tables m (before ++ tables))
indexes_made before [] m whole numbers names = refl
indexes_made before (t ∷ tables) m whole numbers names =
    let parts = and_parts (is_whole t) (list_all is_whole tables) whole in
    let good = good_of t parts.0 in
    let numbered : repeats ◌==◌ (numbers_of before ++ t.def.number ∷ numbers_of tables) ≡ false = sym (ap (repeats ◌==◌) (map-append (λ t. t.def.number) before (t ∷ tables))) ∙ numbers in
    let place : IsPlace before t.def [] (map (λ t. t.def) tables) 1 =
    record {
      earlier = sym (list_any-map (λ n. t.def.number == n) (λ t. t.def.number) before) ∙ fresh_before ◌==◌ (numbers_of before) t.def.number (numbers_of tables) numbered;
      later = number_of_none t.def.number tables (fresh_after ◌==◌ (numbers_of before) t.def.number (numbers_of tables) numbered);
      next = refl;
    } in
    let named : repeats bytes_eq ((index_names before ++ []) ++ (map (λ i. i.name) t.indexes ++ index_names tables)) ≡ false =
    ap (λ ns. repeats bytes_eq (ns ++ (map (λ i. i.name) t.indexes ++ index_names tables))) (append-nil (index_names before)) ∙ sym (ap (repeats bytes_eq) (names_of_one before t tables)) ∙ names in
    let here =
    indexes_made_here before t.def [] t.indexes (map (λ t. t.def) tables) (index_names tables) (flat_map (λ t. t.indexes) tables) 1 m place good.indexes good.few named in
    let joined : (before ++ t ∷ []) ++ tables ≡ before ++ t ∷ tables = append_assoc before (t ∷ []) tables in
    let rest =
    indexes_made (before ++ t ∷ []) tables m parts.1 (subst (λ ts. repeats ◌==◌ (numbers_of ts) ≡ false) (sym joined) numbers) (subst (λ ts. repeats bytes_eq (index_names ts) ≡ false) (sym joined) names) in
    here
    ∙ ap (λ ts. with_indexes_of (flat_map (λ t. t.indexes) tables) (with_tables m ts)) (sym (append_assoc before (t ∷ []) (map unindexed (map (λ t. t.def) tables))))
    ∙ rest ∙ ap (λ ts. Some (with_tables m ts)) joined

-- ---- the order of the indexes

of_one_table : (def : TableDef) (indexes more : List IndexDef) (number low : ℕ) → low ≤ def.number → are_indexes def number indexes ≡ true
    → ((l : ℕ) → l ≤ def.number → in_table_order l more ≡ true) → in_table_order low (indexes ++ more) ≡ true
of_one_table def [] more number low less good rest = rest low less
of_one_table def (index ∷ indexes) more number low less good rest =
    let is = next_of def number index indexes good in
    let table : index.table ≡ def.number = is.table_is in
    and_from (nat_le low index.table) (in_table_order index.table (indexes ++ more)) (le-leb low index.table (omega arith))
    (of_one_table def indexes more (suc number) index.table (omega arith) is.rest rest)

in_order_made : (tables : List Listing) (bound high low : ℕ) → ascend bound (numbers_of tables) high ≡ true → list_all is_whole tables ≡ true → low ≤ bound
    → in_table_order low (flat_map (λ t. t.indexes) tables) ≡ true
in_order_made [] bound high low order whole less = refl
in_order_made (t ∷ tables) bound high low order whole less =
    let b = begins bound t.def.number (numbers_of tables) high order in
    let above = b.above in
    let parts = and_parts (is_whole t) (list_all is_whole tables) whole in
    of_one_table t.def t.indexes (flat_map (λ t. t.indexes) tables) 1 low (omega arith) (good_of t parts.0).indexes
    (λ l small. in_order_made tables t.def.number high l b.rest parts.1 small)

-- ---- all of it

definitions_good : (tables : List Listing) → list_all is_whole tables ≡ true → list_all (is_definition false) (map (λ t. t.def) tables) ≡ true
definitions_good [] whole = refl
definitions_good (t ∷ tables) whole =
    let parts = and_parts (is_whole t) (list_all is_whole tables) whole in
    and_from (is_definition false t.def) (list_all (is_definition false) (map (λ t. t.def) tables)) (good_of t parts.0).definition (definitions_good tables parts.1)

map-twice : {X Y Z : Type 0} (g : Y → Z) (f : X → Y) (xs : List X) → map g (map f xs) ≡ map (λ x. g (f x)) xs
map-twice g f [] = refl
map-twice g f (x ∷ xs) = ap (λ ys. g (f x) ∷ ys) (map-twice g f xs)

pub made_again : (c : Catalog) → IsCatalog c → catalog_from (defs_of c) (indexes_of c) c.next ≡ Some c
made_again c is =
    let order = and_parts (nat_le 1 c.next) (ascend 0 (numbers_of c.tables) c.next) is.order in
    let some = leb-true 1 c.next order.0 in
    let long = length-map_of (λ t. t.def) c.tables in
    let few = is.few in
    let tables =
    tables_made [] (defs_of c) 0 c.next (omega arith) is.next (rw (map-twice (λ def. def.number) (λ t. t.def) c.tables) order.1)
    (rw (map-twice (λ def. def.name) (λ t. t.def) c.tables) is.names) (omega arith) (definitions_good c.tables is.tables) in
    let indexes = indexes_made [] c.tables tables.next is.tables (ascend_distinct 0 (numbers_of c.tables) c.next order.1) is.indexes in
    let below : nat_le tables.next c.next ≡ true = le-leb tables.next c.next tables.below in
    let made : made_from (defs_of c) (indexes_of c) c.next ≡ Some c =
    ap (λ made. option_and_then (followed_by c.next) (option_and_then (with_indexes_of (indexes_of c)) made)) tables.made
    ∙ ap (option_and_then (followed_by c.next)) indexes ∙ (rw below refl) in
    rw (in_order_made c.tables 0 c.next 0 order.1 is.tables (omega arith)) made
