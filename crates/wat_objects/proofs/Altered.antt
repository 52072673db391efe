-- What a change of the schema makes of what the objects hold.
use Rattle.std.proofs.Common.{◌≡◌, ◌≢◌, ℕ, ◌+◌, ◌<◌, ◌≤◌, ◌==◌, ◌&&◌, ◌||◌, ◌⊎◌, inl, inr, not, Bool, true, false, if◌then◌else◌, List, [], ◌∷◌, ◌++◌, map, Option, Some, None, refl, sym, ◌∙◌, ap, ap₂, subst, arith}
use Rattle.std.specs.Prelude.{cond, IsSome, ◌↔◌}
use Rattle.std.specs.List.{find, filter, list_any}
use Rattle.std.specs.Option.{option_map, option_and_then, option_or}
use Rattle.std.proofs.lemmas.Bool.{cases_Bool, eqb-true, or_left, or_right}
use Rattle.std.proofs.lemmas.List.Folds.{find-append, list_any-append}
use Rattle.wat_list.specs.Has.{Has}
use Rattle.wat_book.specs.Book.{Book, Owners, Section, section, Worked}
use Rattle.wat_book.specs.Chains.{HoldsPayload, HoldsBriefly}
use Rattle.wat_book.proofs.Working.{same_section}
use Rattle.wat_pages.specs.declared.header.Header.{Header}
use Rattle.wat_pages.specs.declared.pages.Pages.{Pages}
use Rattle.wat_pages.specs.Pages.{header_of}
use Rattle.wat_value.specs.declared.definition.TableDef.{TableDef}
use Rattle.wat_value.specs.declared.definition.IndexDef.{IndexDef}
use Rattle.wat_value.specs.declared.change.SchemaChange.{SchemaChange}
use Rattle.wat_value.specs.declared.change.SchemaChange.TheVariants.{CreateTable, DropTable, CreateIndex}
use Rattle.wat_value.specs.declared.change.Act.TheVariants.{OnSchema}
use Rattle.wat_value.specs.Fits.{key_of}
use Rattle.wat_value.specs.Order.{key_eq}
use Rattle.wat_rows.specs.Rows.{Row, Defs, RowMap, Sets}
use Rattle.wat_rows.specs.Pages.{of_rows}
use Rattle.wat_rows.proofs.Lists.{key_itself}
use Rattle.wat_directory.specs.Known as directory
use Rattle.wat_heap.specs.Heaps.{directory_of, IsHeld}
use Rattle.wat_heap.specs.declared.heap.Heap.{Heap}
use Rattle.wat_schema.specs.Catalog.{Catalog, Listing, def_at, listing_at, has_number}
use Rattle.wat_schema.specs.Definitions.{allows, altered, with_index}
use Rattle.wat_schema.specs.Tables.{IsTables, Table, Tables, after_alter, catalog_of, listing_of, row_at, row_with, table_at, indexed}
use Rattle.wat_schema.proofs.Keyed.{find_kept, find_gone}
use Rattle.wat_schema.proofs.Database.{acts_hold}
use Rattle.wat_schema.proofs.TableLaws.{catalog-after}
use Rattle.wat_spelled.specs.Schema.{SpellsSchema}
use Rattle.wat_replay.specs.State.{State, Lists}
use Rattle.wat_held.specs.Held.{in_catalog, in_rollback, AreKnown}
use Rattle.wat_objects.specs.declared.objects.Objects.{Objects}
use Rattle.wat_objects.specs.Objects.{pages_of, heap_of, schema_of, catalog_page_of, lists_of, HoldsSchemaChain, HoldsChain, HoldsOn}
use Rattle.wat_objects.specs.Altering.{HoldsParts, without, without_keys, rows_left}
use Rattle.wat_objects.proofs.Holding.{known_after}
use Rattle.wat_objects.proofs.Renaming.{held_again}

pub parts_of : (book : Book) (x : Objects) (s : State) → HoldsOn book x s → HoldsParts book x (catalog_of s.tables) (def_at (catalog_of s.tables)) (row_at s.tables)
parts_of book x s h = record { owners = h.owners; free = h.free; owned = h.owned; are_known = h.are_known; catalog = h.catalog; rollback = h.rollback; stand = h.rows }

-- the rows that the heap holds
pub parts_held : (book : Book) (x : Objects) (c : Catalog) (defs : Defs) (rows : RowMap) → (h : HoldsParts book x c defs rows) → IsHeld (directory_of (heap_of x)) book h.owners h.free defs rows
parts_held book x c defs rows h = record { owned = h.owned; holds = h.stand }

-- the same on the same pages
pub same_parts : (book : Book) (x y : Objects) (c : Catalog) (defs : Defs) (rows : RowMap) → HoldsParts book x c defs rows → pages_of y ≡ pages_of x → heap_of y ≡ heap_of x → catalog_page_of y ≡ catalog_page_of x → HoldsParts book y c defs rows
same_parts book x y c defs rows h pages heap catalog = record {
  owners = h.owners;
  free = h.free;
  owned = h.owned;
  are_known = h.are_known;
  catalog = subst (λ n. HoldsSchemaChain (section book h.owners in_catalog) n c) (sym catalog) h.catalog;
  rollback = subst (λ (p : Pages). HoldsChain (section book h.owners in_rollback) (header_of p).rollback) (sym pages) h.rollback;
  stand = subst (λ (z : Heap). directory.Holds (directory_of z) (section book h.owners of_rows) defs rows) (sym heap) h.stand;
}

-- The heap has worked: these are the rows now.
pub parts_worked : (old new : Book) (x y : Objects) (c : Catalog) (defs : Defs) (rows after : RowMap) → (h : HoldsParts old x c defs rows)
    → Worked of_rows old h.owners new (λ mine. directory.Holds (directory_of (heap_of y)) mine defs after) → catalog_page_of y ≡ catalog_page_of x → header_of (pages_of y) ≡ header_of (pages_of x) → HoldsParts new y c defs after
parts_worked old new x y c defs rows after h w catalog head =
    let catalogs = same_section of_rows in_catalog old new h.owners w.next (omega arith) (omega arith) w.works in
    let rollbacks = same_section of_rows in_rollback old new h.owners w.next (omega arith) (omega arith) w.works in
    record {
      owners = w.next;
      free = w.free;
      owned = w.owned;
      are_known = known_after of_rows old new h.owners w.next (omega arith) (omega arith) h.are_known w.works;
      catalog = subst (λ (p : Section). HoldsSchemaChain p (catalog_page_of y) c) (sym catalogs) (subst (λ n. HoldsSchemaChain (section old h.owners in_catalog) n c) (sym catalog) h.catalog);
      rollback = subst (λ (p : Section). HoldsChain p (header_of (pages_of y)).rollback) (sym rollbacks) (subst (λ (z : Header). HoldsChain (section old h.owners in_rollback) z.rollback) (sym head) h.rollback);
      stand = w.holds;
    }

-- The schema's chain was written.
pub schema_worked : (old new : Book) (x y : Objects) (c written : Catalog) (payload : List ℕ) (defs : Defs) (rows : RowMap) → (h : HoldsParts old x c defs rows) → SpellsSchema payload written
    → Worked in_catalog old h.owners new (λ mine. HoldsBriefly mine (catalog_page_of y) payload) → heap_of y ≡ heap_of x → header_of (pages_of y) ≡ header_of (pages_of x) → HoldsParts new y written defs rows
schema_worked old new x y c written payload defs rows h spells w heap head =
    let rollbacks = same_section in_catalog in_rollback old new h.owners w.next (omega arith) (omega arith) w.works in
    let sections = same_section in_catalog of_rows old new h.owners w.next (omega arith) (omega arith) w.works in
    record {
      owners = w.next;
      free = w.free;
      owned = w.owned;
      are_known = known_after in_catalog old new h.owners w.next (omega arith) (omega arith) h.are_known w.works;
      catalog = record { payload = payload; chain = w.holds.holds; spells = spells };
      rollback = subst (λ (p : Section). HoldsChain p (header_of (pages_of y)).rollback) (sym rollbacks) (subst (λ (z : Header). HoldsChain (section old h.owners in_rollback) z.rollback) (sym head) h.rollback);
      stand = subst (λ (p : Section). directory.Holds (directory_of (heap_of y)) p defs rows) (sym sections) (subst (λ (z : Heap). directory.Holds (directory_of z) (section old h.owners of_rows) defs rows) (sym heap) h.stand);
    }

-- ---- rows that go

-- one row more goes
pub one_gone : (table : ℕ) (keys : List Row) (key : Row) (rows : RowMap) → Sets (without_keys table keys rows) table key None (without_keys table (keys ++ key ∷ []) rows)
one_gone table keys key rows number k =
    ap (λ b. if (table == number) && b then None else rows number k) (list_any-append (λ one. key_eq one k) keys (key ∷ [])) ∙ by (table == number) (list_any (λ one. key_eq one k) keys) (key_eq key k) (rows number k)
  where
    by : (a b c : Bool) (r : Option Row) → (if a && (b || (c || false)) then None else r) ≡ (if a && c then None else (if a && b then None else r))
    by true true true r = refl
    by true true false r = refl
    by true false true r = refl
    by true false false r = refl
    by false b c r = refl

no_keys : (table : ℕ) (rows : RowMap) (number : ℕ) (key : Row) → without_keys table [] rows number key ≡ rows number key
no_keys table rows number key = by (table == number)
  where
    by : (a : Bool) → (if a && false then None else rows number key) ≡ rows number key
    by true = refl
    by false = refl

-- rows that are told by another function
pub rows_again : (book : Book) (x : Objects) (c : Catalog) (defs : Defs) (rows after : RowMap) → HoldsParts book x c defs rows → ((table : ℕ) (key : Row) → after table key ≡ rows table key) → HoldsParts book x c defs after
rows_again book x c defs rows after h same = record {
  owners = h.owners;
  free = h.free;
  owned = h.owned;
  are_known = h.are_known;
  catalog = h.catalog;
  rollback = h.rollback;
  stand = held_again (directory_of (heap_of x)) (section book h.owners of_rows) defs defs rows after h.stand same (λ table key row is. refl);
}

pub none_gone : (book : Book) (x : Objects) (c : Catalog) (defs : Defs) (table : ℕ) (rows : RowMap) → HoldsParts book x c defs rows → HoldsParts book x c defs (without_keys table [] rows)
none_gone book x c defs table rows h = rows_again book x c defs rows (without_keys table [] rows) h (no_keys table rows)

has_any : (key : Row) (keys : List Row) → Has key keys → list_any (λ one. key_eq one key) keys ≡ true
has_any key [] none = elim none [ ]
has_any key (k ∷ ks) (inl same) = or_left (key_eq k key) (list_any (λ one. key_eq one key) ks) (ap (λ z. key_eq z key) same ∙ key_itself key)
has_any key (k ∷ ks) (inr there) = or_right (key_eq k key) (list_any (λ one. key_eq one key) ks) (has_any key ks there)

-- where all keys of a table go, its rows do
pub all_gone : (table : ℕ) (keys : List Row) (rows : RowMap) → ((key : Row) → Has key keys ↔ IsSome (rows table key)) → (number : ℕ) (key : Row) → without table rows number key ≡ without_keys table keys rows number key
all_gone table keys rows all number key = by (table == number) refl (list_any (λ one. key_eq one key) keys) refl
  where
    none : (o : Option Row) → rows number key ≡ o → table ≡ number → list_any (λ one. key_eq one key) keys ≡ false → None ≡ o
    none None e same apart = refl
    none (Some row) e same apart =
        let some : IsSome (rows table key) = subst (λ n. IsSome (rows n key)) (sym same) (subst IsSome (sym e) refl) in
        absurd (let bad : true ≡ false = sym (has_any key keys ((all key).1 some)) ∙ apart in cc)

    by : (a : Bool) → (table == number) ≡ a → (b : Bool) → list_any (λ one. key_eq one key) keys ≡ b → (if a then None else rows number key) ≡ (if a && b then None else rows number key)
    by false e b f = refl
    by true e true f = refl
    by true e false f = none (rows number key) refl (eqb-true table number e) f

-- ---- the tables after a change of the schema

with_none : (o : Option Table) (y : Table) (b : Bool) (key : Row) → y.rows ≡ [] → option_and_then (λ z. row_with z key) (option_or o (cond b (Some y) None)) ≡ option_and_then (λ z. row_with z key) o
with_none (Some z) y b key none = refl
with_none None y true key none = ap (find (λ row. key_eq (key_of y.def row) key)) none
with_none None y false key none = refl

-- what is told of the table with a number is told of the one with an index more, where the index matters not
at_indexed : {A : Type 0} (index : IndexDef) (number : ℕ) (f : Option Table → A) → ((x : Table) → f (Some (indexed index x)) ≡ f (Some x)) → (xs : List Table)
    → f (find (λ x. number == x.def.number) (map (indexed index) xs)) ≡ f (find (λ x. number == x.def.number) xs)
at_indexed index number f same [] = refl
at_indexed index number f same (x ∷ xs) = by (at_indexed index number f same xs) (number == x.def.number)
  where
    by : f (find (λ x. number == x.def.number) (map (indexed index) xs)) ≡ f (find (λ x. number == x.def.number) xs) → (b : Bool) → f (cond b (Some (indexed index x)) (find (λ y. number == y.def.number) (map (indexed index) xs))) ≡ f (cond b (Some x) (find (λ y. number == y.def.number) xs))
    by again true = same x
    by again false = again

goes_by_number : (table number n : ℕ) → (table == number) ≡ true → (number == n) ≡ true → not (table == n) ≡ false
goes_by_number table number n e h = ap (λ m. not (table == m)) (sym (eqb-true number n h)) ∙ ap not e

stays_by_number : (table number n : ℕ) → (table == number) ≡ false → (number == n) ≡ true → not (table == n) ≡ true
stays_by_number table number n e h = ap (λ m. not (table == m)) (sym (eqb-true number n h)) ∙ ap not e

pub rows_after : (change : SchemaChange) (t : Tables) (number : ℕ) (key : Row) → row_at (after_alter change t) number key ≡ rows_left change (row_at t) number key
rows_after (CreateTable def) t number key =
    let one : Table = record { def = def; indexes = []; rows = [] } in
    ap (option_and_then (λ x. row_with x key)) (find-append (λ (x : Table). number == x.def.number) t.tables (one ∷ [])) ∙ with_none (table_at t number) one (number == def.number) key refl
rows_after (DropTable table) t number key = by (table == number) refl
  where
    by : (b : Bool) → (table == number) ≡ b → option_and_then (λ x. row_with x key) (find (λ x. number == x.def.number) (filter (λ x. not (table == x.def.number)) t.tables)) ≡ (if b then None else row_at t number key)
    by true e = ap (option_and_then (λ x. row_with x key)) (find_gone (λ (x : Table). number == x.def.number) (λ x. not (table == x.def.number)) (λ x h. goes_by_number table number x.def.number e h) t.tables)
    by false e = ap (option_and_then (λ x. row_with x key)) (find_kept (λ (x : Table). number == x.def.number) (λ x. not (table == x.def.number)) (λ x h. stays_by_number table number x.def.number e h) t.tables)
rows_after (CreateIndex index) t number key = at_indexed index number (option_and_then (λ x. row_with x key)) (λ x. refl) t.tables

-- a table's definition is told by the tables
def_by : (number : ℕ) (xs : List Table) → option_map (λ (l : Listing). l.def) (find (has_number number) (map listing_of xs)) ≡ option_map (λ (x : Table). x.def) (find (λ x. number == x.def.number) xs)
def_by number [] = refl
def_by number (x ∷ xs) = by (def_by number xs) (number == x.def.number)
  where
    by : option_map (λ (l : Listing). l.def) (find (has_number number) (map listing_of xs)) ≡ option_map (λ (x : Table). x.def) (find (λ x. number == x.def.number) xs) → (b : Bool) → option_map (λ (l : Listing). l.def) (cond b (Some (listing_of x)) (find (has_number number) (map listing_of xs))) ≡ option_map (λ (x : Table). x.def) (cond b (Some x) (find (λ y. number == y.def.number) xs))
    by again true = refl
    by again false = again

-- a table of which a row is left has its definition
pub defs_after : (change : SchemaChange) (t : Tables) (number : ℕ) (key row : Row) → rows_left change (row_at t) number key ≡ Some row → def_at (catalog_of (after_alter change t)) number ≡ def_at (catalog_of t) number
defs_after change t number key row is = def_by number (after_alter change t).tables ∙ among change is ∙ sym (def_by number t.tables)
  where
    among : (change : SchemaChange) → rows_left change (row_at t) number key ≡ Some row → option_map (λ (x : Table). x.def) (table_at (after_alter change t) number) ≡ option_map (λ (x : Table). x.def) (table_at t number)
    among (CreateTable def) is =
        ap (option_map (λ (x : Table). x.def)) (find-append (λ (x : Table). number == x.def.number) t.tables (record { def = def; indexes = []; rows = [] } ∷ [])) ∙ by (table_at t number) is
      where
        by : (o : Option Table) → option_and_then (λ x. row_with x key) o ≡ Some row → option_map (λ (x : Table). x.def) (option_or o (find (λ x. number == x.def.number) (record { def = def; indexes = []; rows = [] } ∷ []))) ≡ option_map (λ (x : Table). x.def) o
        by None e = absurd (let no : None ≡ Some row = e in cc)
        by (Some x) e = refl
    among (DropTable table) is = by (table == number) refl is
      where
        by : (b : Bool) → (table == number) ≡ b → (if b then None else row_at t number key) ≡ Some row → option_map (λ (x : Table). x.def) (find (λ x. number == x.def.number) (filter (λ x. not (table == x.def.number)) t.tables)) ≡ option_map (λ (x : Table). x.def) (table_at t number)
        by true e there = absurd (let no : None ≡ Some row = there in cc)
        by false e there = ap (option_map (λ (x : Table). x.def)) (find_kept (λ (x : Table). number == x.def.number) (λ x. not (table == x.def.number)) (λ x h. stays_by_number table number x.def.number e h) t.tables)
    among (CreateIndex index) is = at_indexed index number (option_map (λ (x : Table). x.def)) (λ x. refl) t.tables

-- The schema stands in memory and on its chain, and the rows that the change leaves are all that stand.
pub altered_to : (book : Book) (x : Objects) (change : SchemaChange) (s : State) → IsTables s.tables → allows change (catalog_of s.tables) ≡ true → HoldsParts book x (altered change (catalog_of s.tables)) (def_at (catalog_of s.tables)) (rows_left change (row_at s.tables))
    → schema_of x ≡ altered change (catalog_of s.tables) → lists_of x ≡ s.lists → HoldsOn book x (record { tables = after_alter change s.tables; lists = s.lists })
altered_to book x change s is allowed h schema lists =
    let same = catalog-after change s.tables in
    record {
      owners = h.owners;
      free = h.free;
      owned = h.owned;
      are_known = h.are_known;
      schema = schema ∙ sym same;
      catalog = subst (HoldsSchemaChain (section book h.owners in_catalog) (catalog_page_of x)) (sym same) h.catalog;
      rollback = h.rollback;
      rows = held_again (directory_of (heap_of x)) (section book h.owners of_rows) (def_at (catalog_of s.tables)) (def_at (catalog_of (after_alter change s.tables))) (rows_left change (row_at s.tables)) (row_at (after_alter change s.tables)) h.stand
          (rows_after change s.tables) (defs_after change s.tables);
      lists = lists;
      tables = acts_hold (OnSchema change) s.tables (after_alter change s.tables) is (ap (λ b. cond b (Some (after_alter change s.tables)) None) allowed);
    }
