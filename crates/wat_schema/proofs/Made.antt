-- What is made of stored definitions is stored as they are.
use Rattle.std.proofs.Common.{◌≡◌, ℕ, ◌<◌, ◌≤◌, Bool, true, false, ◌&&◌, ◌||◌, inl, inr, cond, List, [], ◌∷◌, ◌++◌, map, Option, Some, None, nat_le, refl, sym, ap, ap₂, subst, ◌∙◌, arith}
use Rattle.std.specs.List.{flat_map, list_all}
use Rattle.std.specs.Option.{option_and_then}
use Rattle.std.proofs.lemmas.Bool.{and_parts, and_from, or_left, or_right, or_cases, leb-true, le-leb}
use Rattle.std.proofs.lemmas.Grind.{flat_map-append}
use Rattle.std.proofs.lemmas.List.{map-append, append-nil, append_assoc}
use Rattle.std.proofs.lemmas.List.Folds.{list_all-append}
use Rattle.wat_value.specs.declared.definition.TableDef.{TableDef}
use Rattle.wat_value.specs.declared.definition.IndexDef.{IndexDef}
use Rattle.wat_value.specs.declared.change.SchemaChange.TheVariants.{CreateTable, CreateIndex}
use Rattle.wat_schema.specs.Catalog.{Catalog, Listing, empty_catalog, ascend, numbers_of}
use Rattle.wat_schema.specs.Definitions.{allows_index, allows_table, altered}
use Rattle.wat_schema.specs.Making.{catalog_from, followed_by, in_table_order, made_from, numbered_from, with_indexes_of, with_tables_of}
use Rattle.wat_schema.specs.Stored.{IsCatalog, IsStored, defs_of, indexes_of}
use Rattle.wat_schema.proofs.Again.{made_again}
use Rattle.wat_schema.proofs.Keeping.{indexed, unindexed, may_table}
use Rattle.wat_schema.proofs.Order.{begins, higher}
use Rattle.wat_schema.proofs.Whole.{changed_of, empty_whole, same_map, with_table, with_one_index}

-- ---- the tables

abbrev is_nil : {X : Type 0} → List X → Bool
is_nil [] = true
is_nil (x ∷ xs) = false

nil_of : {X : Type 0} (xs : List X) → is_nil xs ≡ true → xs ≡ []
nil_of [] h = refl
nil_of (x ∷ xs) h = absurd (let no : false ≡ true = h in cc)

abbrev bare : Listing → Bool
bare t = is_nil t.indexes

-- the next number goes up
pub numbered_whole : (c : Catalog) (next : ℕ) → IsCatalog c → c.next ≤ next → next ≤ 4294967295 → IsCatalog (numbered_from next c)
numbered_whole c next is more top =
    let order = and_parts (nat_le 1 c.next) (ascend 0 (numbers_of c.tables) c.next) is.order in
    let some = leb-true 1 c.next order.0 in
    record {
      order = and_from (nat_le 1 next) (ascend 0 (numbers_of c.tables) next) (le-leb 1 next (omega arith)) (higher 0 (numbers_of c.tables) c.next next more order.1);
      next = top;
      few = is.few;
      tables = is.tables;
      names = is.names;
      indexes = is.indexes;
    }

record TablesRead (c : Catalog) (more : List TableDef) (new : Catalog) : Type 0 where
  catalog : IsCatalog new
  defs : defs_of new ≡ defs_of c ++ more
  empty : list_all bare new.tables ≡ true

tables_read : (more : List TableDef) (c new : Catalog) → IsCatalog c → list_all bare c.tables ≡ true → with_tables_of more c ≡ Some new → TablesRead c more new
tables_read [] c new is empty made =
    let same : c ≡ new = cc in
    subst (λ new. TablesRead c [] new) same (record { catalog = is; defs = sym (append-nil (defs_of c)); empty = empty })
tables_read (def ∷ more) c new is empty made = by (nat_le c.next def.number && allows_table (numbered_from def.number c) def) refl (λ one. tables_read more one new)
  where
    by : (b : Bool) → (nat_le c.next def.number && allows_table (numbered_from def.number c) def) ≡ b
        → ((one : Catalog) → IsCatalog one → list_all bare one.tables ≡ true → with_tables_of more one ≡ Some new → TablesRead one more new) → TablesRead c (def ∷ more) new
    by true may read =
        let parts = and_parts (nat_le c.next def.number) (allows_table (numbered_from def.number c) def) may in
        let room = (may_table (numbered_from def.number c) def parts.1).room in
        let from = numbered_whole c def.number is (leb-true c.next def.number parts.0) (omega arith) in
        let one = altered (CreateTable def) (numbered_from def.number c) in
        let goes : with_tables_of more one ≡ Some new = sym (ap (λ v. cond v (with_tables_of more one) None) may) ∙ made in
        let rest =
        read one (with_table (numbered_from def.number c) def from parts.1)
        (list_all-append bare c.tables (unindexed def ∷ []) ∙ and_from (list_all bare c.tables) (bare (unindexed def) && true) empty refl) goes in
        record {
          catalog = rest.catalog;
          defs = rest.defs ∙ ap (λ ds. ds ++ more) (map-append (λ t. t.def) c.tables (unindexed def ∷ [])) ∙ append_assoc (defs_of c) (def ∷ []) more;
          empty = rest.empty;
        }
    by false not_may read = let no : None ≡ Some new = sym (ap (λ v. cond v (with_tables_of more (altered (CreateTable def) (numbered_from def.number c))) None) not_may) ∙ made in cc

-- ---- the indexes

-- the tables above this number have no indexes yet
abbrev quiet : ℕ → Listing → Bool
quiet low t = nat_le t.def.number low || bare t

quiet_first : (tables : List Listing) → list_all bare tables ≡ true → list_all (quiet 0) tables ≡ true
quiet_first [] h = refl
quiet_first (t ∷ tables) h =
    let parts = and_parts (bare t) (list_all bare tables) h in
    and_from (quiet 0 t) (list_all (quiet 0) tables) (or_right (nat_le t.def.number 0) (bare t) parts.0) (quiet_first tables parts.1)

quiet_one : (low high : ℕ) (t : Listing) → low ≤ high → quiet low t ≡ true → quiet high t ≡ true
quiet_one low high t less h = elim (or_cases (nat_le t.def.number low) (bare t) h) [
  | inl small ↦ let small = leb-true t.def.number low small in or_left (nat_le t.def.number high) (bare t) (le-leb t.def.number high (omega arith))
  | inr empty ↦ or_right (nat_le t.def.number high) (bare t) empty
]

quiet_up : (low high : ℕ) (tables : List Listing) → low ≤ high → list_all (quiet low) tables ≡ true → list_all (quiet high) tables ≡ true
quiet_up low high [] less h = refl
quiet_up low high (t ∷ tables) less h =
    let parts = and_parts (quiet low t) (list_all (quiet low) tables) h in
    and_from (quiet high t) (list_all (quiet high) tables) (quiet_one low high t less parts.0) (quiet_up low high tables less parts.1)

bare_above : (low : ℕ) (t : Listing) → low < t.def.number → quiet low t ≡ true → t.indexes ≡ []
bare_above low t above h = elim (or_cases (nat_le t.def.number low) (bare t) h) [
  | inl small ↦ absurd (let small = leb-true t.def.number low small in omega arith)
  | inr empty ↦ nil_of t.indexes empty
]

none_above : (low bound high : ℕ) (tables : List Listing) → low ≤ bound → ascend bound (numbers_of tables) high ≡ true → list_all (quiet low) tables ≡ true → flat_map (λ t. t.indexes) tables ≡ []
none_above low bound high [] less order h = refl
none_above low bound high (t ∷ tables) less order h =
    let b = begins bound t.def.number (numbers_of tables) high order in
    let above = b.above in
    let parts = and_parts (quiet low t) (list_all (quiet low) tables) h in
    ap₂ (λ a b. a ++ b) (bare_above low t (omega arith) parts.0) (none_above low t.def.number high tables (omega arith) b.rest parts.1)

ascend_rest : (before : List Listing) (t : Listing) (after : List Listing) (low high : ℕ) → ascend low (numbers_of (before ++ t ∷ after)) high ≡ true → ascend t.def.number (numbers_of after) high ≡ true
ascend_rest [] t after low high h = (begins low t.def.number (numbers_of after) high h).rest
ascend_rest (x ∷ before) t after low high h = ascend_rest before t after x.def.number high (begins low x.def.number (numbers_of (before ++ t ∷ after)) high h).rest

record IndexesRead (c : Catalog) (more : List IndexDef) (new : Catalog) : Type 0 where
  catalog : IsCatalog new
  defs : defs_of new ≡ defs_of c
  indexes : indexes_of new ≡ indexes_of c ++ more

record OneRead (c : Catalog) (index : IndexDef) : Type 0 where
  defs : defs_of (altered (CreateIndex index) c) ≡ defs_of c
  indexes : indexes_of (altered (CreateIndex index) c) ≡ indexes_of c ++ index ∷ []
  quieter : list_all (quiet index.table) (altered (CreateIndex index) c).tables ≡ true

one_read : (c : Catalog) (index : IndexDef) (low : ℕ) → IsCatalog c → list_all (quiet low) c.tables ≡ true → low ≤ index.table → allows_index c index ≡ true → OneRead c index
one_read c index low is silent less allowed =
    let at = changed_of c index is.order allowed in
    let order = and_parts (nat_le 1 c.next) (ascend 0 (numbers_of c.tables) c.next) is.order in
    let up = quiet_up low index.table c.tables less silent in
    let parts = and_parts (list_all (quiet index.table) at.before) (quiet index.table at.t && list_all (quiet index.table) at.after)
    (sym (list_all-append (quiet index.table) at.before (at.t ∷ at.after)) ∙ sym (ap (list_all (quiet index.table)) at.is) ∙ up) in
    let later = and_parts (quiet index.table at.t) (list_all (quiet index.table) at.after) parts.1 in
    let table : index.table ≡ at.t.def.number = at.table in
    let rising : ascend at.t.def.number (numbers_of at.after) c.next ≡ true =
    ascend_rest at.before at.t at.after 0 c.next (ap (λ ts. ascend 0 (numbers_of ts) c.next) (sym at.is) ∙ order.1) in
    let none : flat_map (λ t. t.indexes) at.after ≡ [] = none_above index.table at.t.def.number c.next at.after (omega arith) rising later.1 in
    let front = flat_map (λ t. t.indexes) at.before in
    let was : indexes_of c ≡ front ++ at.t.indexes =
    ap (flat_map (λ t. t.indexes)) at.is ∙ flat_map-append (λ t. t.indexes) at.before (at.t ∷ at.after) ∙ ap (λ is. front ++ (at.t.indexes ++ is)) none ∙ ap (λ is. front ++ is) (append-nil at.t.indexes) in
    let becomes : indexes_of (altered (CreateIndex index) c) ≡ front ++ (at.t.indexes ++ index ∷ []) =
    ap (flat_map (λ t. t.indexes)) at.made ∙ flat_map-append (λ t. t.indexes) at.before (indexed at.t index ∷ at.after)
    ∙ ap (λ is. front ++ ((at.t.indexes ++ index ∷ []) ++ is)) none ∙ ap (λ is. front ++ is) (append-nil (at.t.indexes ++ index ∷ [])) in
    record {
      defs = ap (map (λ t. t.def)) at.made ∙ same_map (λ t. t.def) at.before at.t at.after index refl ∙ sym (ap (map (λ t. t.def)) at.is);
      indexes = becomes ∙ sym (append_assoc front at.t.indexes (index ∷ [])) ∙ ap (λ is. is ++ index ∷ []) (sym was);
      quieter = ap (list_all (quiet index.table)) at.made ∙ list_all-append (quiet index.table) at.before (indexed at.t index ∷ at.after)
          ∙ and_from (list_all (quiet index.table) at.before) (quiet index.table (indexed at.t index) && list_all (quiet index.table) at.after) parts.0
          (and_from (quiet index.table (indexed at.t index)) (list_all (quiet index.table) at.after)
          (or_left (nat_le at.t.def.number index.table) (bare (indexed at.t index)) (le-leb at.t.def.number index.table (omega arith))) later.1);
    }

indexes_read : (more : List IndexDef) (low : ℕ) (c new : Catalog) → IsCatalog c → list_all (quiet low) c.tables ≡ true → in_table_order low more ≡ true → with_indexes_of more c ≡ Some new → IndexesRead c more new
indexes_read [] low c new is silent order made =
    let same : c ≡ new = cc in
    subst (λ new. IndexesRead c [] new) same (record { catalog = is; defs = refl; indexes = sym (append-nil (indexes_of c)) })
indexes_read (index ∷ more) low c new is silent order made = by (allows_index c index) refl (λ one. indexes_read more index.table one new)
  where
    by : (b : Bool) → allows_index c index ≡ b
        → ((one : Catalog) → IsCatalog one → list_all (quiet index.table) one.tables ≡ true → in_table_order index.table more ≡ true → with_indexes_of more one ≡ Some new → IndexesRead one more new)
        → IndexesRead c (index ∷ more) new
    by true may read_on =
        let parts = and_parts (nat_le low index.table) (in_table_order index.table more) order in
        let one = altered (CreateIndex index) c in
        let goes : with_indexes_of more one ≡ Some new = sym (ap (λ v. cond v (with_indexes_of more one) None) may) ∙ made in
        let first = one_read c index low is silent (leb-true low index.table parts.0) may in
        let rest = read_on one (with_one_index c index is may) first.quieter parts.1 goes in
        record {
          catalog = rest.catalog;
          defs = rest.defs ∙ first.defs;
          indexes = rest.indexes ∙ ap (λ is. is ++ more) first.indexes ∙ append_assoc (indexes_of c) (index ∷ []) more;
        }
    by false not_may read_on = let no : None ≡ Some new = sym (ap (λ v. cond v (with_indexes_of more (altered (CreateIndex index) c)) None) not_may) ∙ made in cc

-- ---- all of it

bare_indexes : (tables : List Listing) → list_all bare tables ≡ true → flat_map (λ t. t.indexes) tables ≡ []
bare_indexes [] h = refl
bare_indexes (t ∷ tables) h =
    let parts = and_parts (bare t) (list_all bare tables) h in
    ap₂ (λ a b. a ++ b) (nil_of t.indexes parts.0) (bare_indexes tables parts.1)

pub read_back : (defs : List TableDef) (indexes : List IndexDef) (next : ℕ) (c : Catalog) → next ≤ 4294967295 → catalog_from defs indexes next ≡ Some c → IsStored c defs indexes next
read_back defs indexes next c top made = by_order (in_table_order 0 indexes) refl
  where
    last : (a b : Catalog) → in_table_order 0 indexes ≡ true → with_tables_of defs empty_catalog ≡ Some a → with_indexes_of indexes a ≡ Some b → followed_by next b ≡ Some c → IsStored c defs indexes next
    last a b order first second third = by_next (nat_le b.next next) refl
      where
        by_next : (v : Bool) → nat_le b.next next ≡ v → IsStored c defs indexes next
        by_next true small =
            let tables = tables_read defs empty_catalog a empty_whole refl first in
            let read = indexes_read indexes 0 a b tables.catalog (quiet_first a.tables tables.empty) order second in
            let reached : Some (numbered_from next b) ≡ Some c = sym (ap (λ v. cond v (Some (numbered_from next b)) None) small) ∙ third in
            let same : numbered_from next b ≡ c = cc in
            subst (λ c. IsStored c defs indexes next) same
            (record {
              catalog = numbered_whole b next read.catalog (leb-true b.next next small) top;
              tables = read.defs ∙ tables.defs;
              indexed = read.indexes ∙ ap (λ is. is ++ indexes) (bare_indexes a.tables tables.empty);
              numbered = refl;
            })
        by_next false large = let no : None ≡ Some c = sym (ap (λ v. cond v (Some (numbered_from next b)) None) large) ∙ third in cc

    by_indexes : (a : Catalog) (o : Option Catalog) → in_table_order 0 indexes ≡ true → with_tables_of defs empty_catalog ≡ Some a → with_indexes_of indexes a ≡ o
        → option_and_then (followed_by next) o ≡ Some c → IsStored c defs indexes next
    by_indexes a None order first second third = let no : None ≡ Some c = third in cc
    by_indexes a (Some b) order first second third = last a b order first second third

    by_tables : (o : Option Catalog) → in_table_order 0 indexes ≡ true → with_tables_of defs empty_catalog ≡ o
        → option_and_then (followed_by next) (option_and_then (with_indexes_of indexes) o) ≡ Some c → IsStored c defs indexes next
    by_tables None order first rest = let no : None ≡ Some c = rest in cc
    by_tables (Some a) order first rest = by_indexes a (with_indexes_of indexes a) order first refl rest

    by_order : (v : Bool) → in_table_order 0 indexes ≡ v → IsStored c defs indexes next
    by_order true order = by_tables (with_tables_of defs empty_catalog) order refl (sym (ap (λ v. cond v (made_from defs indexes next) None) order) ∙ made)
    by_order false not_order = let no : None ≡ Some c = sym (ap (λ v. cond v (made_from defs indexes next) None) not_order) ∙ made in cc

pub made_again_of : (defs : List TableDef) (indexes : List IndexDef) (next : ℕ) (c : Catalog) → IsStored c defs indexes next → catalog_from defs indexes next ≡ Some c
made_again_of defs indexes next c is =
    ap₂ (λ ds js. catalog_from ds js next) (sym is.tables) (sym is.indexed) ∙ ap (λ n. catalog_from (defs_of c) (indexes_of c) n) (sym is.numbered) ∙ made_again c is.catalog

pub stored_once : (defs : List TableDef) (indexes : List IndexDef) (next : ℕ) (a b : Catalog) → IsStored a defs indexes next → IsStored b defs indexes next → a ≡ b
stored_once defs indexes next a b first second =
    let same : Some a ≡ Some b = sym (made_again_of defs indexes next a first) ∙ made_again_of defs indexes next b second in
    cc
