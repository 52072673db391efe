-- What bytes that were read so far say of the tables that they can begin with.
use Rattle.std.proofs.Common.{◌≡◌, ℕ, suc, ◌+◌, ◌<◌, true, List, [], ◌∷◌, ◌++◌, length, get_or, map, refl, sym, ◌∙◌, ap, subst, arith, append_assoc, length-append}
use Rattle.std.specs.List.{flat_map, AllByRecursion}
use Rattle.std.proofs.lemmas.Bool.{eq-eqb}
use Rattle.std.proofs.lemmas.List.{append-nil, get_or_at}
use Rattle.wat_value.specs.declared.definition.TableDef.{TableDef}
use Rattle.wat_value.specs.declared.definition.IndexDef.{IndexDef}
use Rattle.wat_log_record.specs.Encoding.{table_bytes, index_bytes, IsEncodableTable, IsEncodableIndex}
use Rattle.wat_log_record.specs.Reading.{Begins, BeginsNone}
use Rattle.wat_log_record.proofs.Parts.{Cancels, items_cancel, stuck, item_more, tag_same}
use Rattle.wat_log_record.proofs.Cancelling.{tables, indexes}
use Rattle.wat_schema.specs.Catalog.{Listing}
use Rattle.wat_catalog_chain.specs.Definitions.{are_numbered, listing, listing_bytes, AreIndexes, IsSpelledListing, IsEncodableListing, AreListings, AddsListing, BeginsListings}
use Rattle.wat_catalog_chain.proofs.Once.{numbered}

-- ---- indexes

-- the next of the indexes in one spelling is the next in another
longer : (xs ys : List IndexDef) (d rest : List ℕ) → AllByRecursion IsEncodableIndex xs → AllByRecursion IsEncodableIndex ys → (def : TableDef) (number : ℕ) → are_numbered def number ys ≡ true → length xs < length ys
    → flat_map index_bytes xs ++ d ≡ flat_map index_bytes ys ++ rest → (index : IndexDef) (behind : List ℕ) → Begins index_bytes IsEncodableIndex d index behind → (index.number ≡ number + length xs) × (index.table ≡ def.number)
longer xs [] d rest px py def number ny more e index behind b = absurd (omega arith)
longer [] (y ∷ ys) d rest px py def number ny more e index behind b =
    let n = numbered def number y ys ny in
    let same = indexes index y behind (flat_map index_bytes ys ++ rest) b.can py.0 (sym b.spelled ∙ e ∙ append_assoc (index_bytes y) (flat_map index_bytes ys) rest) in
    (ap (λ (x : IndexDef). x.number) same.0 ∙ n.here ∙ omega arith, ap (λ (x : IndexDef). x.table) same.0 ∙ n.table)
longer (x ∷ xs) (y ∷ ys) d rest px py def number ny more e index behind b =
    let n = numbered def number y ys ny in
    let same = indexes x y (flat_map index_bytes xs ++ d) (flat_map index_bytes ys ++ rest) px.0 py.0 (sym (append_assoc (index_bytes x) (flat_map index_bytes xs) d) ∙ e ∙ append_assoc (index_bytes y) (flat_map index_bytes ys) rest) in
    let next = longer xs ys d rest px.1 py.1 def (suc number) n.rest (omega arith) same.1 index behind b in
    (next.0 ∙ omega arith, next.1)

numbered_push : (def : TableDef) (number : ℕ) (xs : List IndexDef) (index : IndexDef) → are_numbered def number xs ≡ true → index.number ≡ number + length xs → index.table ≡ def.number → are_numbered def number (xs ++ index ∷ []) ≡ true
numbered_push def number [] index h at table = rw (eq-eqb index.number number (at ∙ omega arith), eq-eqb index.table def.number table) refl
numbered_push def number (x ∷ xs) index h at table =
    let n = numbered def number x xs h in
    let more = numbered_push def (suc number) xs index n.rest (at ∙ omega arith) table in
    rw (eq-eqb x.number number n.here, eq-eqb x.table def.number n.table) more

pub all_push : {X : Type 0} (P : X → Type 0) (xs : List X) (x : X) → AllByRecursion P xs → P x → AllByRecursion P (xs ++ x ∷ [])
all_push P [] x all one = (one, tt)
all_push P (y ∷ ys) x all one = (all.0, all_push P ys x all.1 one)

-- What was read so far of a table's indexes.
pub record ReadsIndexes (def : TableDef) (bytes : List ℕ) (xs : List IndexDef) (d : List ℕ) (many : ℕ) : Type 0 where
  pub spelled : bytes ≡ flat_map index_bytes xs ++ d
  pub are : AreIndexes def many xs

pub no_indexes_read : (def : TableDef) (bytes d : List ℕ) (xs : List IndexDef) → xs ≡ [] → bytes ≡ d → ReadsIndexes def bytes xs d 0
no_indexes_read def bytes d xs none is = subst (λ (l : List IndexDef). ReadsIndexes def bytes l d 0) (sym none) (record { spelled = is; are = record { many = refl; each = tt; numbered = refl } })

pub indexes_more : (def : TableDef) (bytes d rest : List ℕ) (xs ys : List IndexDef) (many : ℕ) (index : IndexDef) → ReadsIndexes def bytes xs d many → Begins index_bytes IsEncodableIndex d index rest
    → index.number ≡ many + 1 → index.table ≡ def.number → ys ≡ xs ++ index ∷ [] → ReadsIndexes def bytes ys rest (many + 1)
indexes_more def bytes d rest xs ys many index r b at table is = subst (λ (l : List IndexDef). ReadsIndexes def bytes l rest (many + 1)) (sym is) (record {
  spelled = item_more index_bytes IsEncodableIndex indexes bytes xs index d rest r.spelled b.spelled;
  are = record {
    many = omega (arith, r.are.many, length-append xs (index ∷ []));
    each = all_push IsEncodableIndex xs index r.are.each b.can;
    numbered = numbered_push def 1 xs index r.are.numbered (omega (arith, at, r.are.many)) table;
  };
})

pub no_index_next : (def : TableDef) (bytes d : List ℕ) (xs : List IndexDef) (many count : ℕ) → ReadsIndexes def bytes xs d many → many < count → BeginsNone index_bytes IsEncodableIndex d → BeginsNone (flat_map index_bytes) (AreIndexes def count) bytes
no_index_next def bytes d xs many count r few none ys all rest e =
    stuck index_bytes IsEncodableIndex indexes xs ys d rest r.are.each all.each (omega (arith, few, all.many, r.are.many)) (sym r.spelled ∙ e) none

pub wrong_index : (def : TableDef) (bytes d behind : List ℕ) (xs : List IndexDef) (many count : ℕ) (index : IndexDef) → ReadsIndexes def bytes xs d many → many < count → Begins index_bytes IsEncodableIndex d index behind
    → (index.number ≡ many + 1 → index.table ≡ def.number → ⊥) → BeginsNone (flat_map index_bytes) (AreIndexes def count) bytes
wrong_index def bytes d behind xs many count index r few b wrong ys all rest e =
    let next = longer xs ys d rest r.are.each all.each def 1 all.numbered (omega (arith, few, all.many, r.are.many)) (sym r.spelled ∙ e) index behind b in
    wrong (omega (arith, next.0, r.are.many)) next.1

-- ---- a table with its indexes

behind_def : (bytes r : List ℕ) (def : TableDef) (x : Listing) (rest : List ℕ) → Begins table_bytes IsEncodableTable bytes def r → IsEncodableListing x → bytes ≡ listing_bytes x ++ rest
    → (def ≡ x.def) × (r ≡ length x.indexes ∷ (flat_map index_bytes x.indexes ++ rest))
behind_def bytes r def x rest a can e =
    tables def x.def r (length x.indexes ∷ (flat_map index_bytes x.indexes ++ rest)) a.can can.def (sym a.spelled ∙ e ∙ append_assoc (table_bytes x.def) (length x.indexes ∷ flat_map index_bytes x.indexes) rest)

pub no_listing_def : (bytes : List ℕ) → BeginsNone table_bytes IsEncodableTable bytes → BeginsNone listing_bytes IsSpelledListing bytes
no_listing_def bytes none x can rest e =
    none x.def can.encodable.def ((length x.indexes ∷ flat_map index_bytes x.indexes) ++ rest) (e ∙ append_assoc (table_bytes x.def) (length x.indexes ∷ flat_map index_bytes x.indexes) rest)

pub no_listing_count : (bytes r : List ℕ) (def : TableDef) → Begins table_bytes IsEncodableTable bytes def r → length r ≡ 0 → BeginsNone listing_bytes IsSpelledListing bytes
no_listing_count bytes r def a none x can rest e = let at = behind_def bytes r def x rest a can.encodable e in omega (arith, none, ap length at.1)

tail_of : (m n : ℕ) (s t : List ℕ) → m ∷ s ≡ n ∷ t → s ≡ t
tail_of m n s t e = cc

-- a number that was read is a byte's
pub byte_behind : (bytes r s : List ℕ) (def : TableDef) (count : ℕ) → Begins table_bytes IsEncodableTable bytes def r → r ≡ count ∷ s → ((i : ℕ) → get_or bytes i 0 < 256) → count < 256
byte_behind bytes r s def count a is small =
    let at : get_or bytes (length (table_bytes def)) 0 ≡ count = ap (λ l. get_or l (length (table_bytes def)) 0) (a.spelled ∙ ap (λ l. table_bytes def ++ l) is) ∙ get_or_at (table_bytes def) count s 0 (length (table_bytes def)) refl in
    subst (λ n. n < 256) at (small (length (table_bytes def)))

pub no_listing_indexes : (bytes r s : List ℕ) (def : TableDef) (count : ℕ) → Begins table_bytes IsEncodableTable bytes def r → r ≡ count ∷ s → BeginsNone (flat_map index_bytes) (AreIndexes def count) s → BeginsNone listing_bytes IsSpelledListing bytes
no_listing_indexes bytes r s def count a is none x can rest e =
    let at = behind_def bytes r def x rest a can.encodable e in
    let many = tag_same count (length x.indexes) s (flat_map index_bytes x.indexes ++ rest) (sym is ∙ at.1) in
    none x.indexes (record { many = sym many; each = can.encodable.indexes; numbered = subst (λ (d : TableDef). are_numbered d 1 x.indexes ≡ true) (sym at.0) can.numbered }) rest
    (tail_of count (length x.indexes) s (flat_map index_bytes x.indexes ++ rest) (sym is ∙ at.1))

pub listing_begins : (bytes r s t : List ℕ) (def : TableDef) (count : ℕ) (xs : List IndexDef) → Begins table_bytes IsEncodableTable bytes def r → r ≡ count ∷ s → count < 256 → Begins (flat_map index_bytes) (AreIndexes def count) s xs t
    → Begins listing_bytes IsSpelledListing bytes (listing (def, xs)) t
listing_begins bytes r s t def count xs a is small b = record {
  spelled =
      a.spelled ∙ ap (λ l. table_bytes def ++ l) (is ∙ ap (λ l. count ∷ l) b.spelled ∙ ap (λ n. n ∷ (flat_map index_bytes xs ++ t)) (sym b.can.many))
      ∙ sym (append_assoc (table_bytes def) (length xs ∷ flat_map index_bytes xs) t);
  can = record { encodable = record { def = a.can; few = subst (λ n. n < 256) (sym b.can.many) small; indexes = b.can.each }; numbered = b.can.numbered };
}

pub listings_cancel : Cancels listing_bytes IsSpelledListing
listings_cancel x y s t px py e =
    let xs = (length x.indexes ∷ flat_map index_bytes x.indexes) in
    let ys = (length y.indexes ∷ flat_map index_bytes y.indexes) in
    let def = tables x.def y.def (xs ++ s) (ys ++ t) px.encodable.def py.encodable.def (sym (append_assoc (table_bytes x.def) xs s) ∙ e ∙ append_assoc (table_bytes y.def) ys t) in
    let many = tag_same (length x.indexes) (length y.indexes) (flat_map index_bytes x.indexes ++ s) (flat_map index_bytes y.indexes ++ t) def.1 in
    let all = items_cancel index_bytes IsEncodableIndex indexes x.indexes y.indexes s t px.encodable.indexes py.encodable.indexes many
    (tail_of (length x.indexes) (length y.indexes) (flat_map index_bytes x.indexes ++ s) (flat_map index_bytes y.indexes ++ t) def.1) in
    ((λ i. record { def = def.0 i; indexes = all.0 i }), all.1)

-- ---- tables

pub no_listings_read : (bytes d : List ℕ) (defs : List TableDef) (xs : List IndexDef) → defs ≡ [] → xs ≡ [] → bytes ≡ d → BeginsListings 0 bytes defs xs d
no_listings_read bytes d defs xs a b is = record { tables = []; begins = record { spelled = is; can = record { many = refl; each = tt } }; defs_are = sym a; indexes_are = sym b }

flat_push : (ts : List Listing) (x : Listing) → flat_map (λ t. t.indexes) (ts ++ x ∷ []) ≡ flat_map (λ t. t.indexes) ts ++ x.indexes
flat_push [] x = append-nil x.indexes
flat_push (t ∷ ts) x = ap (λ l. t.indexes ++ l) (flat_push ts x) ∙ sym (append_assoc t.indexes (flat_map (λ t. t.indexes) ts) x.indexes)

map_push : (ts : List Listing) (x : Listing) → map (λ t. t.def) (ts ++ x ∷ []) ≡ map (λ t. t.def) ts ++ x.def ∷ []
map_push [] x = refl
map_push (t ∷ ts) x = ap (λ l. t.def ∷ l) (map_push ts x)

pub listings_more : (bytes d rest : List ℕ) (defs more_defs : List TableDef) (xs more_xs : List IndexDef) (many : ℕ) → BeginsListings many bytes defs xs d → AddsListing d rest defs more_defs xs more_xs → BeginsListings (many + 1) bytes more_defs more_xs rest
listings_more bytes d rest defs more_defs xs more_xs many r a = record {
  tables = r.tables ++ a.it ∷ [];
  begins = record {
    spelled = item_more listing_bytes IsSpelledListing listings_cancel bytes r.tables a.it d rest r.begins.spelled a.begins.spelled;
    can = record {
      many = omega (arith, r.begins.can.many, length-append r.tables (a.it ∷ []));
      each = all_push IsSpelledListing r.tables a.it r.begins.can.each a.begins.can;
    };
  };
  defs_are = map_push r.tables a.it ∙ ap (λ l. l ++ a.it.def ∷ []) r.defs_are ∙ sym a.defs_are;
  indexes_are = flat_push r.tables a.it ∙ ap (λ l. l ++ a.it.indexes) r.indexes_are ∙ sym a.indexes_are;
}

pub adds : (bytes r s t : List ℕ) (def : TableDef) (count : ℕ) (xs : List IndexDef) (old_defs new_defs : List TableDef) (old_xs new_xs : List IndexDef) → Begins table_bytes IsEncodableTable bytes def r → r ≡ count ∷ s → count < 256
    → Begins (flat_map index_bytes) (AreIndexes def count) s xs t → new_defs ≡ old_defs ++ def ∷ [] → new_xs ≡ old_xs ++ xs → AddsListing bytes t old_defs new_defs old_xs new_xs
adds bytes r s t def count xs old_defs new_defs old_xs new_xs a is small b da ia = record { it = listing (def, xs); begins = listing_begins bytes r s t def count xs a is small b; defs_are = da; indexes_are = ia }

pub no_listing_next : (bytes d : List ℕ) (defs : List TableDef) (xs : List IndexDef) (many count : ℕ) → BeginsListings many bytes defs xs d → many < count → BeginsNone listing_bytes IsSpelledListing d → BeginsNone (flat_map listing_bytes) (AreListings count) bytes
no_listing_next bytes d defs xs many count r few none ys all rest e =
    stuck listing_bytes IsSpelledListing listings_cancel r.tables ys d rest r.begins.can.each all.each (omega (arith, few, all.many, r.begins.can.many)) (sym r.begins.spelled ∙ e) none
