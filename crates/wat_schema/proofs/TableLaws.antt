-- The laws of acts on tables.
use Rattle.std.proofs.Common.{◌≡◌, ℕ, ◌+◌, ◌≤◌, ◌==◌, Bool, true, false, not, cond, ◌&&◌, if◌then◌else◌, is_none, is_some, List, [], ◌∷◌, ◌++◌, map, filter, Option, Some, None, nat_le, refl, sym, ap, ap₂, subst, ◌∙◌, inl, inr, arith}
use Rattle.std.specs.declared.cmp.Ordering.{Ordering}
use Rattle.std.specs.declared.cmp.Ordering.TheVariants.{Less, Equal, Greater}
use Rattle.std.specs.Ordering.{is_eq}
use Rattle.std.specs.Cmp.{IsTotalOrder, on_total}
use Rattle.std.specs.List.{find, list_any, list_all}
use Rattle.std.specs.Option.{option_map, option_and_then}
use Rattle.std.proofs.lemmas.Bool.{and_parts, and_from, not-true, eq-eqb, eqb-true, ne_eqb, leb-true, le-leb, cases_Bool}
use Rattle.std.proofs.lemmas.List.{map-append}
use Rattle.wat_value.specs.declared.value.Value.{Value}
use Rattle.wat_value.specs.declared.definition.TableDef.{TableDef}
use Rattle.wat_value.specs.declared.definition.IndexDef.{IndexDef}
use Rattle.wat_value.specs.declared.change.Change.{Change}
use Rattle.wat_value.specs.declared.change.Change.TheVariants.{Insert, Update, Delete}
use Rattle.wat_value.specs.declared.change.SchemaChange.{SchemaChange}
use Rattle.wat_value.specs.declared.change.SchemaChange.TheVariants.{CreateTable, DropTable, CreateIndex}
use Rattle.wat_value.specs.declared.change.Act.{Act}
use Rattle.wat_value.specs.declared.change.Act.TheVariants.{OnRow, OnSchema}
use Rattle.wat_value.specs.Order.{key_cmp}
use Rattle.wat_value.specs.OrderLaws.{key_cmp_total, key_cmp_level, key_cmp_refl}
use Rattle.wat_value.specs.Fits.{fits, key_of}
use Rattle.wat_schema.specs.Catalog.{Catalog, Listing, ascend, in_order, numbers_of, has_number}
use Rattle.wat_schema.specs.Definitions.{allows, altered, with_index}
use Rattle.wat_list.specs.Rising.{rising}
use Rattle.wat_schema.specs.Tables.{Table, Tables, Row, row_eq, by_key, has_row, has_key, row_with, with_row, is_table, are_tables, listing_of, catalog_of, table_at, with_table, on_table, after_insert, after_update, after_delete, apply_change, inverse, indexed, after_alter, apply}
use Rattle.wat_schema.proofs.Distinct.{find_none}
use Rattle.wat_schema.proofs.Keeping.{may_table}
use Rattle.wat_schema.proofs.Order.{ascend-next, ascend-filter, begins, list_any-found}
use Rattle.wat_schema.proofs.Placed.{Changed, changed, Good, good_found, found_placed, numbers_placed, all_placed, replaced}
use Rattle.wat_schema.proofs.RowOrder as rows

-- ---- rows

pub itself : (row : Row) → row_eq row row ≡ true
itself row = ap is_eq (key_cmp_refl row)

equal_from : (o : Ordering) → is_eq o ≡ true → o ≡ Equal
equal_from Less h = cc
equal_from Equal h = refl
equal_from Greater h = cc

pub equal : (a b : Row) → row_eq a b ≡ true → a ≡ b
equal a b h = key_cmp_level a b (equal_from (key_cmp a b) h)

pub total : (def : TableDef) → IsTotalOrder (by_key def)
total def = on_total (key_of def) key_cmp_total

pub level : (def : TableDef) (row : Row) → by_key def row row ≡ Equal
level def row = key_cmp_refl (key_of def row)

-- ---- one table

none_is : {X : Type 0} (o : Option X) → is_some o ≡ false → is_none o ≡ true
none_is None h = refl
none_is (Some x) h = cc

some_is : {X : Type 0} (o : Option X) → is_none o ≡ true → is_some o ≡ false
some_is None h = refl
some_is (Some x) h = cc

-- no row has the key, asked in two ways
pub none_with : (x : Table) (key : List Value) → has_key x key ≡ false → list_any (λ row. row_eq (key_of x.def row) key) x.rows ≡ false
none_with x key h = list_any-found (λ row. row_eq (key_of x.def row) key) x.rows (none_is (row_with x key) h)

pub with_none : (x : Table) (key : List Value) → list_any (λ row. row_eq (key_of x.def row) key) x.rows ≡ false → has_key x key ≡ false
with_none x key h = some_is (row_with x key) (find_none (λ row. row_eq (key_of x.def row) key) x.rows h)

pub taken : {X : Type 0} (b : Bool) (a y : X) → cond b (Some a) None ≡ Some y → (b ≡ true) × (a ≡ y)
taken true a y h = (refl, cc)
taken false a y h = cc

pub record Back (back : Table → Option Table) (x y : Table) : Type 0 where
  pub returns : back y ≡ Some x
  pub kept : is_table y ≡ true
  pub def : y.def ≡ x.def

pub insert_back : (row : Row) (x y : Table) → is_table x ≡ true → after_insert row x ≡ Some y → Back (after_delete row) x y
insert_back row x y ok h = subst (Back (after_delete row) x) got.1 (record { returns = returns; kept = kept; def = refl })
  where
    cmp : Row → Row → Ordering
    cmp = by_key x.def

    got : ((fits x.def row && not (has_key x (key_of x.def row))) ≡ true) × (record x { rows = with_row x.def row x.rows } ≡ y)
    got = taken (fits x.def row && not (has_key x (key_of x.def row))) (record x { rows = with_row x.def row x.rows }) y h

    asked : (fits x.def row ≡ true) × (not (has_key x (key_of x.def row)) ≡ true)
    asked = and_parts (fits x.def row) (not (has_key x (key_of x.def row))) got.0

    free : list_any (λ other. row_eq (key_of x.def other) (key_of x.def row)) x.rows ≡ false
    free = none_with x (key_of x.def row) (not-true (has_key x (key_of x.def row)) asked.1)

    stands : (list_all (fits x.def) x.rows ≡ true) × (rising (by_key x.def) x.rows ≡ true)
    stands = and_parts (list_all (fits x.def) x.rows) (rising (by_key x.def) x.rows) ok

    has : list_any (row_eq row) (with_row x.def row x.rows) ≡ true
    has = rows.has-put (by_key x.def) row_eq (total x.def) itself equal (level x.def) row x.rows

    gone : filter (λ other. not (row_eq other row)) (with_row x.def row x.rows) ≡ x.rows
    gone = rows.remove-put (by_key x.def) row_eq (total x.def) itself equal (level x.def) row x.rows stands.1 free

    returns : after_delete row (record x { rows = with_row x.def row x.rows }) ≡ Some x
    returns = rw has (ap (λ rs. Some (record x { rows = rs })) gone)

    kept : is_table (record x { rows = with_row x.def row x.rows }) ≡ true
    kept =
        and_from (list_all (fits x.def) (with_row x.def row x.rows)) (rising (by_key x.def) (with_row x.def row x.rows))
        (rows.list_all-put (by_key x.def) row_eq (total x.def) itself equal (level x.def) (fits x.def) row x.rows stands.0 asked.0)
        (rows.rising-put (by_key x.def) row_eq (total x.def) itself equal (level x.def) row x.rows stands.1 free)

pub delete_back : (row : Row) (x y : Table) → is_table x ≡ true → after_delete row x ≡ Some y → Back (after_insert row) x y
delete_back row x y ok h = subst (Back (after_insert row) x) got.1 (record { returns = returns; kept = kept; def = refl })
  where
    got : (has_row x row ≡ true) × (record x { rows = filter (λ other. not (row_eq other row)) x.rows } ≡ y)
    got = taken (has_row x row) (record x { rows = filter (λ other. not (row_eq other row)) x.rows }) y h

    stands : (list_all (fits x.def) x.rows ≡ true) × (rising (by_key x.def) x.rows ≡ true)
    stands = and_parts (list_all (fits x.def) x.rows) (rising (by_key x.def) x.rows) ok

    fit : fits x.def row ≡ true
    fit = rows.among (by_key x.def) row_eq (total x.def) itself equal (level x.def) (fits x.def) row x.rows stands.0 got.0

    free : has_key (record x { rows = filter (λ other. not (row_eq other row)) x.rows }) (key_of x.def row) ≡ false
    free =
        with_none (record x { rows = filter (λ other. not (row_eq other row)) x.rows }) (key_of x.def row)
        (rows.gone-remove (by_key x.def) row_eq (total x.def) itself equal (level x.def) row x.rows stands.1 got.0)

    again : with_row x.def row (filter (λ other. not (row_eq other row)) x.rows) ≡ x.rows
    again = rows.put-remove (by_key x.def) row_eq (total x.def) itself equal (level x.def) row x.rows stands.1 got.0

    returns : after_insert row (record x { rows = filter (λ other. not (row_eq other row)) x.rows }) ≡ Some x
    returns = rw (fit, free) (ap (λ rs. Some (record x { rows = rs })) again)

    kept : is_table (record x { rows = filter (λ other. not (row_eq other row)) x.rows }) ≡ true
    kept =
        and_from (list_all (fits x.def) (filter (λ other. not (row_eq other row)) x.rows)) (rising (by_key x.def) (filter (λ other. not (row_eq other row)) x.rows))
        (rows.list_all-filter (fits x.def) (λ other. not (row_eq other row)) x.rows stands.0)
        (rows.rising-filter (by_key x.def) row_eq (total x.def) itself equal (level x.def) (λ other. not (row_eq other row)) x.rows stands.1)

pub update_back : (before after : Row) (x y : Table) → is_table x ≡ true → after_update before after x ≡ Some y → Back (after_update after before) x y
update_back before after x y ok h = subst (Back (after_update after before) x) got.1 (record { returns = returns; kept = kept; def = refl })
  where
    got : ((has_row x before && row_eq (key_of x.def before) (key_of x.def after) && fits x.def after) ≡ true) × (record x { rows = map (λ row. if row_eq row before then after else row) x.rows } ≡ y)
    got = taken (has_row x before && row_eq (key_of x.def before) (key_of x.def after) && fits x.def after) (record x { rows = map (λ row. if row_eq row before then after else row) x.rows }) y h

    asked : ((has_row x before && row_eq (key_of x.def before) (key_of x.def after)) ≡ true) × (fits x.def after ≡ true)
    asked = and_parts (has_row x before && row_eq (key_of x.def before) (key_of x.def after)) (fits x.def after) got.0

    has : (has_row x before ≡ true) × (row_eq (key_of x.def before) (key_of x.def after) ≡ true)
    has = and_parts (has_row x before) (row_eq (key_of x.def before) (key_of x.def after)) asked.0

    one_key : key_of x.def before ≡ key_of x.def after
    one_key = equal (key_of x.def before) (key_of x.def after) has.1

    key : (row : Row) → by_key x.def after row ≡ by_key x.def before row
    key row = ap (λ k. key_cmp k (key_of x.def row)) (sym one_key)

    stands : (list_all (fits x.def) x.rows ≡ true) × (rising (by_key x.def) x.rows ≡ true)
    stands = and_parts (list_all (fits x.def) x.rows) (rising (by_key x.def) x.rows) ok

    fit : fits x.def before ≡ true
    fit = rows.among (by_key x.def) row_eq (total x.def) itself equal (level x.def) (fits x.def) before x.rows stands.0 has.0

    there : list_any (row_eq after) (map (λ row. if row_eq row before then after else row) x.rows) ≡ true
    there = rows.has-change (by_key x.def) row_eq (total x.def) itself equal (level x.def) before after key x.rows has.0

    same_key : row_eq (key_of x.def after) (key_of x.def before) ≡ true
    same_key = ap (λ k. row_eq k (key_of x.def before)) (sym one_key) ∙ itself (key_of x.def before)

    again : map (λ row. if row_eq row after then before else row) (map (λ row. if row_eq row before then after else row) x.rows) ≡ x.rows
    again = rows.back-change (by_key x.def) row_eq (total x.def) itself equal (level x.def) before after key x.rows stands.1 has.0

    returns : after_update after before (record x { rows = map (λ row. if row_eq row before then after else row) x.rows }) ≡ Some x
    returns = rw (there, same_key, fit) (ap (λ rs. Some (record x { rows = rs })) again)

    kept : is_table (record x { rows = map (λ row. if row_eq row before then after else row) x.rows }) ≡ true
    kept =
        and_from (list_all (fits x.def) (map (λ row. if row_eq row before then after else row) x.rows)) (rising (by_key x.def) (map (λ row. if row_eq row before then after else row) x.rows))
        (rows.list_all-change (by_key x.def) row_eq (total x.def) itself equal (level x.def) before after key (fits x.def) asked.1 x.rows stands.0)
        (rows.rising-change (by_key x.def) row_eq (total x.def) itself equal (level x.def) before after key x.rows stands.1)

-- ---- all tables

record Undone (n : ℕ) (back : Table → Option Table) (before after : Tables) : Type 0 where
  returns : on_table n back after ≡ Some before
  kept : are_tables after ≡ true

undone : (n : ℕ) (change back : Table → Option Table) → ((x y : Table) → is_table x ≡ true → change x ≡ Some y → Back back x y)
    → (before after : Tables) → are_tables before ≡ true → on_table n change before ≡ Some after → Undone n back before after
undone n change back one before after ok h = subst (Undone n back before) c.is (record { returns = returns; kept = kept })
  where
    c : Changed n change before after
    c = changed n change before after h

    parts : (in_order (catalog_of before) ≡ true) × (list_all is_table before.tables ≡ true)
    parts = and_parts (in_order (catalog_of before)) (list_all is_table before.tables) ok

    order : (nat_le 1 before.next ≡ true) × (ascend 0 (numbers_of (map listing_of before.tables)) before.next ≡ true)
    order = and_parts (nat_le 1 before.next) (ascend 0 (numbers_of (map listing_of before.tables)) before.next) parts.0

    there : Good n c.from
    there = good_found n c.from before.tables parts.1 c.found

    b : Back back c.from c.to
    b = one c.from c.to there.ok c.made

    named : n ≡ c.to.def.number
    named = there.named ∙ ap (λ d. d.number) (sym b.def)

    again : with_table n (with_table n before c.to) c.from ≡ before
    again = ap (λ ts. record before { tables = ts }) (replaced n c.from c.to 0 before.next before.tables named order.1 c.found)

    returns : on_table n back (with_table n before c.to) ≡ Some before
    returns =
        ap (option_and_then (λ x. option_map (with_table n (with_table n before c.to)) (back x))) (found_placed n c.to c.from before.tables named c.found)
        ∙ ap (option_map (with_table n (with_table n before c.to))) b.returns ∙ ap Some again

    kept : are_tables (with_table n before c.to) ≡ true
    kept =
        and_from (in_order (catalog_of (with_table n before c.to))) (list_all is_table (with_table n before c.to).tables)
        (ap (λ ns. nat_le 1 before.next && ascend 0 ns before.next) (numbers_placed n c.to named before.tables) ∙ parts.0)
        (all_placed n c.to b.kept before.tables parts.1)

-- ---- the laws

pub inverse_gives_back : (change : Change) (before after : Tables) → are_tables before ≡ true → apply_change change before ≡ Some after → apply_change (inverse change) after ≡ Some before
inverse_gives_back (Insert table row) before after ok h = (undone table (after_insert row) (after_delete row) (insert_back row) before after ok h).returns
inverse_gives_back (Update table old new) before after ok h = (undone table (after_update old new) (after_update new old) (update_back old new) before after ok h).returns
inverse_gives_back (Delete table row) before after ok h = (undone table (after_delete row) (after_insert row) (delete_back row) before after ok h).returns

pub change_keeps : (change : Change) (before after : Tables) → are_tables before ≡ true → apply_change change before ≡ Some after → are_tables after ≡ true
change_keeps (Insert table row) before after ok h = (undone table (after_insert row) (after_delete row) (insert_back row) before after ok h).kept
change_keeps (Update table old new) before after ok h = (undone table (after_update old new) (after_update new old) (update_back old new) before after ok h).kept
change_keeps (Delete table row) before after ok h = (undone table (after_delete row) (after_insert row) (delete_back row) before after ok h).kept

-- ---- schema changes

map-filter : (n : ℕ) (xs : List Table) → map listing_of (filter (λ x. not (n == x.def.number)) xs) ≡ filter (λ t. not (n == t.def.number)) (map listing_of xs)
map-filter n [] = refl
map-filter n (x ∷ xs) = elim (n == x.def.number) as (λ v. map listing_of (cond (not v) (x ∷ filter (λ x. not (n == x.def.number)) xs) (filter (λ x. not (n == x.def.number)) xs)) ≡ cond (not v) (listing_of x ∷ filter (λ t. not (n == t.def.number)) (map listing_of xs)) (filter (λ t. not (n == t.def.number)) (map listing_of xs))) [
  | true ↦ map-filter n xs
  | false ↦ ap (λ rest. listing_of x ∷ rest) (map-filter n xs)
]

map-indexed : (index : IndexDef) (xs : List Table) → map listing_of (map (indexed index) xs) ≡ map (with_index index) (map listing_of xs)
map-indexed index [] = refl
map-indexed index (x ∷ xs) = ap₂ (λ a rest. a ∷ rest) (one (index.table == x.def.number) refl) (map-indexed index xs)
  where
    one : (b : Bool) → (index.table == x.def.number) ≡ b → listing_of (indexed index x) ≡ with_index index (listing_of x)
    one true e = rw e refl
    one false e = rw e refl

-- the schema of the tables changes as a schema does
pub catalog-after : (change : SchemaChange) (t : Tables) → catalog_of (after_alter change t) ≡ altered change (catalog_of t)
catalog-after (CreateTable def) t =
    ap (λ ts. record { tables = ts; next = t.next + 1 }) (map-append listing_of t.tables (record { def = def; indexes = []; rows = [] } ∷ []))
catalog-after (DropTable table) t = ap (λ ts. record { tables = ts; next = t.next }) (map-filter table t.tables)
catalog-after (CreateIndex index) t = ap (λ ts. record { tables = ts; next = t.next }) (map-indexed index t.tables)

numbers_indexed : (index : IndexDef) (xs : List Listing) → numbers_of (map (with_index index) xs) ≡ numbers_of xs
numbers_indexed index [] = refl
numbers_indexed index (x ∷ xs) = ap₂ (λ a rest. a ∷ rest) (one (index.table == x.def.number) refl) (numbers_indexed index xs)
  where
    one : (b : Bool) → (index.table == x.def.number) ≡ b → (with_index index x).def.number ≡ x.def.number
    one true e = rw e refl
    one false e = rw e refl

order_after : (change : SchemaChange) (c : Catalog) → in_order c ≡ true → allows change c ≡ true → in_order (altered change c) ≡ true
order_after (CreateTable def) c h allowed =
    let parts = and_parts (nat_le 1 c.next) (ascend 0 (numbers_of c.tables) c.next) h in
    let some = leb-true 1 c.next parts.0 in
    let may = may_table c def allowed in
    and_from (nat_le 1 (c.next + 1)) (ascend 0 (numbers_of (c.tables ++ record { def = def; indexes = [] } ∷ [])) (c.next + 1)) (le-leb 1 (c.next + 1) (omega arith))
    (rw (map-append (λ t. t.def.number) c.tables (record { def = def; indexes = [] } ∷ []), may.number) (ascend-next 0 (numbers_of c.tables) c.next (omega arith) parts.1))
order_after (DropTable table) c h allowed =
    let parts = and_parts (nat_le 1 c.next) (ascend 0 (numbers_of c.tables) c.next) h in
    and_from (nat_le 1 c.next) (ascend 0 (numbers_of (filter (λ t. not (has_number table t)) c.tables)) c.next) parts.0
    (ascend-filter (λ t. t.def.number) (λ t. not (has_number table t)) 0 c.tables c.next parts.1)
order_after (CreateIndex index) c h allowed = ap (λ ns. nat_le 1 c.next && ascend 0 ns c.next) (numbers_indexed index c.tables) ∙ h

tables_after : (change : SchemaChange) (t : Tables) → list_all is_table t.tables ≡ true → list_all is_table (after_alter change t).tables ≡ true
tables_after (CreateTable def) t h = rows.list_all-append is_table t.tables (record { def = def; indexes = []; rows = [] } ∷ []) h refl
tables_after (DropTable table) t h = rows.list_all-filter is_table (λ x. not (table == x.def.number)) t.tables h
tables_after (CreateIndex index) t h = rows.list_all-map is_table (indexed index) (λ x ok. ok) t.tables h

pub schema_change_keeps : (change : SchemaChange) (t : Tables) → are_tables t ≡ true → allows change (catalog_of t) ≡ true → are_tables (after_alter change t) ≡ true
schema_change_keeps change t ok allowed =
    let parts = and_parts (in_order (catalog_of t)) (list_all is_table t.tables) ok in
    and_from (in_order (catalog_of (after_alter change t))) (list_all is_table (after_alter change t).tables)
    (ap in_order (catalog-after change t) ∙ order_after change (catalog_of t) parts.0 allowed) (tables_after change t parts.1)

pub act_keeps : (act : Act) (before after : Tables) → are_tables before ≡ true → apply act before ≡ Some after → are_tables after ≡ true
act_keeps (OnRow change) before after ok h = change_keeps change before after ok h
act_keeps (OnSchema change) before after ok h =
    let got = taken (allows change (catalog_of before)) (after_alter change before) after h in
    ap are_tables (sym got.1) ∙ schema_change_keeps change before ok got.0
