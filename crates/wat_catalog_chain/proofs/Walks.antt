-- What is written of a schema, and what a payload that was read says.
use Rattle.std.proofs.Common.{◌≡◌, ◌≢◌, ℕ, suc, ◌≤◌, ◌==◌, ◌&&◌, ◌||◌, not, nat_le, nat_lt, Bool, true, false, List, [], ◌∷◌, ◌++◌, length, map, take, drop, refl, sym, ◌∙◌, ap, subst, arith, append_assoc, length-append, is_none}
use Rattle.std.specs.List.{flat_map, list_all, AllByRecursion}
use Rattle.std.proofs.lemmas.Bool.{and_parts, and_from, or_parts, ltb-false, leb-true, eqb-true}
use Rattle.std.proofs.lemmas.List.{append-nil, take_at, drop_at}
use Rattle.wat_value.specs.declared.definition.TableDef.{TableDef}
use Rattle.wat_value.specs.declared.definition.IndexDef.{IndexDef}
use Rattle.wat_log_record.specs.Encoding.{number_bytes, IsNumber, IsWritableTable, IsWritableIndex}
use Rattle.wat_log_record.specs.Reading.{Begins, BeginsNone}
use Rattle.wat_log_record.proofs.Parts.{items_cancel}
use Rattle.wat_log_record.proofs.Cancelling.{numbers}
use Rattle.wat_schema.specs.Catalog.{Catalog, Listing, ascend, numbers_of}
use Rattle.wat_schema.specs.Definitions.{bad_definition, index_rules, is_definition, may_be_null, table_rules}
use Rattle.wat_schema.specs.Stored.{are_indexes, is_index, is_whole, IsCatalog, IsStored, defs_of, indexes_of}
use Rattle.wat_schema.proofs.Keeping.{none_broken}
use Rattle.wat_schema.proofs.Order.{begins}
use Rattle.wat_catalog_chain.specs.Definitions.{are_numbered, leading, listing, listing_bytes, catalog_bytes, IsSpelledListing, IsEncodableListing, AreListings, BeginsListings, IsWritableListing, SpellsSchema, SpellsNoSchema, SpellsBadSchema, SpellsDefinitions}
use Rattle.wat_catalog_chain.proofs.Once.{AreNumbered, leads, tables_once}
use Rattle.wat_catalog_chain.proofs.Parts.{listings_cancel}

-- ---- what is written

writable_table : (def : TableDef) → is_definition false def ≡ true → IsWritableTable def
writable_table def good =
    let kept = (and_parts (not (may_be_null def.columns def.key)) (is_none (bad_definition false def.columns (def.key ∷ []))) good).1 in
    let sizes = or_parts (nat_lt 64 (length def.columns)) (nat_lt 16 (length (def.key ++ [])))
    (none_broken (table_rules false def.columns (def.key ∷ [])) 1 3 (nat_lt 64 (length def.columns) || nat_lt 16 (length (def.key ++ []))) kept refl) in
    let columns = ltb-false 64 (length def.columns) sizes.0 in
    let key = ltb-false 16 (length (def.key ++ [])) sizes.1 in
    record { columns = omega (arith, columns); key = omega (arith, key, ap length (append-nil def.key)) }

-- what the rules say of indexes that count on
record Ruled (def : TableDef) (number : ℕ) (index : IndexDef) (indexes : List IndexDef) : Type 0 where
  here : (index.number == number) ≡ true
  table : (index.table == def.number) ≡ true
  right : is_index def index ≡ true
  rest : are_indexes def (suc number) indexes ≡ true

ruled : (def : TableDef) (number : ℕ) (index : IndexDef) (indexes : List IndexDef) → are_indexes def number (index ∷ indexes) ≡ true → Ruled def number index indexes
ruled def number index indexes h =
    let a = and_parts (index.number == number && index.table == def.number && is_index def index) (are_indexes def (suc number) indexes) h in
    let b = and_parts (index.number == number && index.table == def.number) (is_index def index) a.0 in
    let d = and_parts (index.number == number) (index.table == def.number) b.0 in
    record { here = d.0; table = d.1; right = b.1; rest = a.1 }

writable_indexes : (def : TableDef) (number : ℕ) (indexes : List IndexDef) → 1 ≤ number → are_indexes def number indexes ≡ true → AllByRecursion IsWritableIndex indexes
writable_indexes def number [] h all = tt
writable_indexes def number (index ∷ indexes) h all =
    let r = ruled def number index indexes all in
    let at = eqb-true index.number number r.here in
    let few = ltb-false 16 (length index.columns) (or_parts (length index.columns == 0) (nat_lt 16 (length index.columns))
    (none_broken (index_rules (record { def = def; indexes = [] }) index.columns) 1 2 ((length index.columns == 0) || nat_lt 16 (length index.columns)) r.right refl)).1 in
    (record { number = omega (arith, at, h); columns = omega (arith, few) }, writable_indexes def (suc number) indexes (omega (arith, h)) r.rest)

numbered_indexes : (def : TableDef) (number : ℕ) (indexes : List IndexDef) → are_indexes def number indexes ≡ true → are_numbered def number indexes ≡ true
numbered_indexes def number [] all = refl
numbered_indexes def number (index ∷ indexes) all =
    let r = ruled def number index indexes all in
    and_from (index.number == number && index.table == def.number) (are_numbered def (suc number) indexes) (and_from (index.number == number) (index.table == def.number) r.here r.table) (numbered_indexes def (suc number) indexes r.rest)

record IsGood (t : Listing) : Type 0 where
  definition : is_definition false t.def ≡ true
  few : length t.indexes ≤ 8
  indexes : are_indexes t.def 1 t.indexes ≡ true

good : (t : Listing) → is_whole t ≡ true → IsGood t
good t whole =
    let a = and_parts (is_definition false t.def && nat_le (length t.indexes) 8) (are_indexes t.def 1 t.indexes) whole in
    let b = and_parts (is_definition false t.def) (nat_le (length t.indexes) 8) a.0 in
    record { definition = b.0; few = leb-true (length t.indexes) 8 b.1; indexes = a.1 }

writable : (t : Listing) → is_whole t ≡ true → IsWritableListing t.def t.indexes
writable t whole =
    let g = good t whole in
    let few = g.few in
    record { table = writable_table t.def g.definition; few = omega (arith, few); each = writable_indexes t.def 1 t.indexes (omega arith) g.indexes }

pub all_numbered : (tables : List Listing) → list_all is_whole tables ≡ true → AreNumbered tables
all_numbered [] h = refl
all_numbered (t ∷ ts) h =
    let parts = and_parts (is_whole t) (list_all is_whole ts) h in
    and_from (are_numbered t.def 1 t.indexes) (list_all (λ x. are_numbered x.def 1 x.indexes) ts) (numbered_indexes t.def 1 t.indexes (good t parts.0).indexes) (all_numbered ts parts.1)

-- What was written so far of a schema, and what is left: these definitions and these indexes.
pub record Writes (c : Catalog) (out : List ℕ) (defs : List TableDef) (rest : List IndexDef) : Type 0 where
  pub left : List Listing
  pub low : ℕ
  pub spelled : out ++ flat_map listing_bytes left ≡ catalog_bytes c.tables
  pub defs_are : defs ≡ map (λ t. t.def) left
  pub rest_are : rest ≡ flat_map (λ t. t.indexes) left
  pub whole : list_all is_whole left ≡ true
  pub order : ascend low (numbers_of left) c.next ≡ true
  pub encodable : AllByRecursion IsEncodableListing left → AllByRecursion IsEncodableListing c.tables

length_defs : (tables : List Listing) → length (map (λ t. t.def) tables) ≡ length tables
length_defs [] = refl
length_defs (t ∷ ts) = ap suc (length_defs ts)

pub writes_none : (c : Catalog) (out : List ℕ) (defs : List TableDef) (indexes : List IndexDef) → IsCatalog c → out ≡ number_bytes (length defs) → defs ≡ defs_of c → indexes ≡ indexes_of c → Writes c out defs indexes
writes_none c out defs indexes catalog is are also = record {
  left = c.tables;
  low = 0;
  spelled = ap (λ l. l ++ flat_map listing_bytes c.tables) (is ∙ ap (λ (ds : List TableDef). number_bytes (length ds)) are ∙ ap number_bytes (length_defs c.tables));
  defs_are = are;
  rest_are = also;
  whole = catalog.tables;
  order = (and_parts (nat_le 1 c.next) (ascend 0 (numbers_of c.tables) c.next) catalog.order).1;
  encodable = λ all. all;
}

-- The next table to be written, which takes so many of the indexes.
pub record Next (c : Catalog) (out : List ℕ) (def : TableDef) (more : List TableDef) (rest : List IndexDef) : Type 0 where
  pub own : List IndexDef
  pub behind : List IndexDef
  pub count : leading def.number rest ≡ length own
  pub is : rest ≡ own ++ behind
  pub may : IsWritableListing def own
  pub then : (longer : List ℕ) → longer ≡ out ++ listing_bytes (listing (def, own)) → IsEncodableListing (listing (def, own)) → Writes c longer more behind

pub next_of : (c : Catalog) (out : List ℕ) (def : TableDef) (defs more : List TableDef) (rest : List IndexDef) → Writes c out defs rest → defs ≡ def ∷ more → Next c out def more rest
next_of c out def defs more rest w is = from w.left w.defs_are w.rest_are w.spelled w.whole w.order w.encodable
  where
    from : (left : List Listing) → defs ≡ map (λ t. t.def) left → rest ≡ flat_map (λ t. t.indexes) left → out ++ flat_map listing_bytes left ≡ catalog_bytes c.tables → list_all is_whole left ≡ true → ascend w.low (numbers_of left) c.next ≡ true
        → (AllByRecursion IsEncodableListing left → AllByRecursion IsEncodableListing c.tables) → Next c out def more rest
    from [] none also spelled whole order encodable = let no : def ∷ more ≡ [] = sym is ∙ none in cc
    from (x ∷ xs) are also spelled whole order encodable =
        let split : def ∷ more ≡ x.def ∷ map (λ t. t.def) xs = sym is ∙ are in
        let head : def ≡ x.def = cc in
        let tail : more ≡ map (λ t. t.def) xs = cc in
        let wholes = and_parts (is_whole x) (list_all is_whole xs) whole in
        let b = begins w.low x.def.number (numbers_of xs) c.next order in
        let P : TableDef → Type 0 = λ d. Next c out d more rest in
        subst P (sym head) (record {
          own = x.indexes;
          behind = flat_map (λ t. t.indexes) xs;
          count = ap (leading x.def.number) also ∙ leads w.low c.next x xs order (all_numbered (x ∷ xs) whole);
          is = also;
          may = writable x wholes.0;
          then = λ longer added can. record {
            left = xs;
            low = x.def.number;
            spelled = ap (λ l. l ++ flat_map listing_bytes xs) added ∙ append_assoc out (listing_bytes x) (flat_map listing_bytes xs) ∙ spelled;
            defs_are = tail;
            rest_are = refl;
            whole = wholes.1;
            order = b.rest;
            encodable = λ all. encodable (can, all);
          };
        })

module _ {c : Catalog} {out : List ℕ} {def : TableDef} {more : List TableDef} {rest : List IndexDef} (n : Next c out def more rest) (k : ℕ) (count : k ≡ leading def.number rest) where
  here : length n.own ≡ k
  here = sym (count ∙ n.count)

  front_is : take k rest ≡ n.own
  front_is = ap (take k) n.is ∙ take_at n.own n.behind k here

  back_is : drop k rest ≡ n.behind
  back_is = ap (drop k) n.is ∙ drop_at n.own n.behind k here

  pub within : k ≤ length rest
  within = omega (arith, here, ap length n.is, length-append n.own n.behind)

  pub may_write : (front : List IndexDef) → front ≡ take k rest → IsWritableListing def front
  may_write front is = subst (IsWritableListing def) (sym (is ∙ front_is)) n.may

  pub writes_more : (front back : List IndexDef) (longer : List ℕ) → front ≡ take k rest → back ≡ drop k rest → longer ≡ out ++ listing_bytes (listing (def, front)) → IsEncodableListing (listing (def, front)) → Writes c longer more back
  writes_more front back longer f b added can =
      let same = f ∙ front_is in
      subst (Writes c longer more) (sym (b ∙ back_is))
      (n.then longer (added ∙ ap (λ (xs : List IndexDef). out ++ listing_bytes (listing (def, xs))) same) (subst (λ (xs : List IndexDef). IsEncodableListing (listing (def, xs))) same can))

pub writes_all : (c : Catalog) (out : List ℕ) (defs : List TableDef) (rest : List IndexDef) → IsCatalog c → Writes c out defs rest → defs ≡ [] → SpellsSchema out c
writes_all c out defs rest catalog w none = from w.left w.defs_are w.spelled w.encodable
  where
    from : (left : List Listing) → defs ≡ map (λ t. t.def) left → out ++ flat_map listing_bytes left ≡ catalog_bytes c.tables → (AllByRecursion IsEncodableListing left → AllByRecursion IsEncodableListing c.tables) → SpellsSchema out c
    from [] are spelled encodable =
        let few = catalog.few in
        record { bytes = sym (append-nil out) ∙ spelled; few = omega (arith, few); encodable = encodable tt; order = catalog.order; numbered = all_numbered c.tables catalog.tables }
    from (x ∷ xs) are spelled encodable = let no : [] ≡ x.def ∷ map (λ t. t.def) xs = sym none ∙ are in cc

-- ---- what was read

apart_encodable : (tables : List Listing) → AllByRecursion IsSpelledListing tables → AllByRecursion IsEncodableListing tables
apart_encodable [] all = tt
apart_encodable (t ∷ ts) all = (all.0.encodable, apart_encodable ts all.1)

apart_numbered : (tables : List Listing) → AllByRecursion IsSpelledListing tables → AreNumbered tables
apart_numbered [] all = refl
apart_numbered (t ∷ ts) all = and_from (are_numbered t.def 1 t.indexes) (list_all (λ x. are_numbered x.def 1 x.indexes) ts) all.0.numbered (apart_numbered ts all.1)

together : (tables : List Listing) → AllByRecursion IsEncodableListing tables → AreNumbered tables → AllByRecursion IsSpelledListing tables
together [] can numbered = tt
together (t ∷ ts) can numbered =
    let parts = and_parts (are_numbered t.def 1 t.indexes) (list_all (λ x. are_numbered x.def 1 x.indexes) ts) numbered in
    (record { encodable = can.0; numbered = parts.0 }, together ts can.1 parts.1)

numbers_are : (tables : List Listing) → map (λ def. def.number) (map (λ t. t.def) tables) ≡ numbers_of tables
numbers_are [] = refl
numbers_are (t ∷ ts) = ap (λ ns. t.def.number ∷ ns) (numbers_are ts)

pub spells : (payload r rest : List ℕ) (count next : ℕ) (defs : List TableDef) (indexes : List IndexDef) → Begins number_bytes IsNumber payload count r → BeginsListings count r defs indexes rest → rest ≡ []
    → (nat_le 1 next && ascend 0 (map (λ def. def.number) defs) next) ≡ true → SpellsDefinitions payload next defs indexes
spells payload r rest count next defs indexes a b none order = record {
  schema = record { tables = b.tables; next = next };
  this = record {
    numbered = refl;
    spells = record {
      bytes =
          a.spelled ∙ ap (λ l. number_bytes count ++ l) (b.begins.spelled ∙ ap (λ l. flat_map listing_bytes b.tables ++ l) none ∙ append-nil (flat_map listing_bytes b.tables))
          ∙ ap (λ n. number_bytes n ++ flat_map listing_bytes b.tables) (sym b.begins.can.many);
      few = subst IsNumber (sym b.begins.can.many) a.can;
      encodable = apart_encodable b.tables b.begins.can.each;
      order = ap (λ ns. nat_le 1 next && ascend 0 ns next) (sym (numbers_are b.tables) ∙ ap (map (λ def. def.number)) b.defs_are) ∙ order;
      numbered = apart_numbered b.tables b.begins.can.each;
    };
  };
  tables = b.defs_are;
  indexed = b.indexes_are;
}

pub no_bytes : (bytes : List ℕ) (none : Bool) → none ≡ (length bytes == 0) → none ≡ true → bytes ≡ []
no_bytes [] none is so = refl
no_bytes (b ∷ bytes) none is so = absurd (omega (arith, eqb-true (length (b ∷ bytes)) 0 (sym is ∙ so)))

pub none_without_count : (payload : List ℕ) (next : ℕ) → BeginsNone number_bytes IsNumber payload → SpellsNoSchema payload next
none_without_count payload next none c at s = none (length c.tables) s.few (flat_map listing_bytes c.tables) s.bytes

behind : (payload r : List ℕ) (count : ℕ) (c : Catalog) → Begins number_bytes IsNumber payload count r → SpellsSchema payload c → (count ≡ length c.tables) × (r ≡ flat_map listing_bytes c.tables)
behind payload r count c a s = numbers count (length c.tables) r (flat_map listing_bytes c.tables) a.can s.few (sym a.spelled ∙ s.bytes)

listings_of : (payload r : List ℕ) (count : ℕ) (c : Catalog) → Begins number_bytes IsNumber payload count r → SpellsSchema payload c → AreListings count c.tables
listings_of payload r count c a s = record { many = sym (behind payload r count c a s).0; each = together c.tables s.encodable s.numbered }

pub none_behind : (payload r : List ℕ) (count next : ℕ) → Begins number_bytes IsNumber payload count r → BeginsNone (flat_map listing_bytes) (AreListings count) r → SpellsNoSchema payload next
none_behind payload r count next a none c at s = none c.tables (listings_of payload r count c a s) [] ((behind payload r count c a s).1 ∙ sym (append-nil (flat_map listing_bytes c.tables)))

-- the tables that were read are those that the payload spells
same_tables : (payload r rest : List ℕ) (count : ℕ) (defs : List TableDef) (indexes : List IndexDef) (c : Catalog) → Begins number_bytes IsNumber payload count r → BeginsListings count r defs indexes rest → SpellsSchema payload c
    → (defs ≡ defs_of c) × (rest ≡ [])
same_tables payload r rest count defs indexes c a b s =
    let all = listings_of payload r count c a s in
    let same = items_cancel listing_bytes IsSpelledListing listings_cancel b.tables c.tables rest [] b.begins.can.each all.each (b.begins.can.many ∙ sym all.many)
    (sym b.begins.spelled ∙ (behind payload r count c a s).1 ∙ sym (append-nil (flat_map listing_bytes c.tables))) in
    (sym b.defs_are ∙ ap (map (λ t. t.def)) same.0, same.1)

pub none_longer : (payload r rest : List ℕ) (count next : ℕ) (defs : List TableDef) (indexes : List IndexDef) → Begins number_bytes IsNumber payload count r → BeginsListings count r defs indexes rest → rest ≢ [] → SpellsNoSchema payload next
none_longer payload r rest count next defs indexes a b some c at s = some (same_tables payload r rest count defs indexes c a b s).1

pub none_in_order : (payload r rest : List ℕ) (count next : ℕ) (defs : List TableDef) (indexes : List IndexDef) → Begins number_bytes IsNumber payload count r → BeginsListings count r defs indexes rest
    → (nat_le 1 next && ascend 0 (map (λ def. def.number) defs) next) ≡ false → SpellsNoSchema payload next
none_in_order payload r rest count next defs indexes a b isnt c at s =
    let order : (nat_le 1 next && ascend 0 (numbers_of c.tables) next) ≡ true = ap (λ n. nat_le 1 n && ascend 0 (numbers_of c.tables) n) (sym at) ∙ s.order in
    let same = ap (map (λ def. def.number)) (same_tables payload r rest count defs indexes c a b s).0 ∙ numbers_are c.tables in
    let both : true ≡ false = sym order ∙ ap (λ ns. nat_le 1 next && ascend 0 ns next) (sym same) ∙ isnt in
    cc

-- ---- the schema of a payload

-- A payload spells one schema with a next table number.
pub schema_once : (payload : List ℕ) (a b : Catalog) → a.next ≡ b.next → SpellsSchema payload a → SpellsSchema payload b → a ≡ b
schema_once payload a b next x y =
    let count = numbers (length a.tables) (length b.tables) (flat_map listing_bytes a.tables) (flat_map listing_bytes b.tables) x.few y.few (sym x.bytes ∙ y.bytes) in
    let same = items_cancel listing_bytes IsSpelledListing listings_cancel a.tables b.tables [] [] (together a.tables x.encodable x.numbered) (together b.tables y.encodable y.numbered) count.0
    (append-nil (flat_map listing_bytes a.tables) ∙ count.1 ∙ sym (append-nil (flat_map listing_bytes b.tables))) in
    λ i. record { tables = same.0 i; next = next i }

-- The catalog of the definitions that were read is the schema that the payload spells.
pub same_schema : (payload : List ℕ) (next : ℕ) (defs : List TableDef) (indexes : List IndexDef) (c : Catalog) → (d : SpellsDefinitions payload next defs indexes) → IsStored c defs indexes next → d.schema ≡ c
same_schema payload next defs indexes c d s =
    let a = d.schema in
    let tables = tables_once 0 a.next a.tables c.tables (and_parts (nat_le 1 a.next) (ascend 0 (numbers_of a.tables) a.next) d.this.spells.order).1 d.this.spells.numbered (all_numbered c.tables s.catalog.tables)
    (d.tables ∙ sym s.tables) (d.indexed ∙ sym s.indexed) in
    let at = d.this.numbered ∙ sym s.numbered in
    λ i. record { tables = tables i; next = at i }

pub stored : (payload : List ℕ) (next : ℕ) (defs : List TableDef) (indexes : List IndexDef) → (d : SpellsDefinitions payload next defs indexes) → IsCatalog d.schema → IsStored d.schema defs indexes next
stored payload next defs indexes d catalog = record { catalog = catalog; tables = d.tables; indexed = d.indexed; numbered = d.this.numbered }

-- Where the definitions that were read are stored of no schema, the schema that they spell breaks a rule.
pub breaks : (payload : List ℕ) (number : ℕ) (defs : List TableDef) (indexes : List IndexDef) → (d : SpellsDefinitions payload number defs indexes) → (IsStored d.schema defs indexes number → ⊥) → SpellsBadSchema payload number
breaks payload number defs indexes d none = record { schema = d.schema; numbered = d.this.numbered; spells = d.this.spells; bad = λ catalog. none (stored payload number defs indexes d catalog) }
