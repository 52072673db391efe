-- Definitions and indexes are those of one list of tables.
use Rattle.std.proofs.Common.{◌≡◌, ◌≢◌, ℕ, suc, ◌<◌, ◌≤◌, ◌==◌, ◌&&◌, true, List, [], ◌∷◌, ◌++◌, length, map, refl, sym, ◌∙◌, ap, arith}
use Rattle.std.specs.List.{flat_map, list_all}
use Rattle.std.proofs.lemmas.Bool.{and_parts, eqb-true, ne_eqb, eq-eqb}
use Rattle.wat_value.specs.declared.definition.TableDef.{TableDef}
use Rattle.wat_value.specs.declared.definition.IndexDef.{IndexDef}
use Rattle.wat_schema.specs.Catalog.{Listing, ascend, numbers_of}
use Rattle.wat_schema.proofs.Order.{begins}
use Rattle.wat_catalog_chain.specs.Definitions.{are_numbered, leading}

-- what the numbers of indexes say of the first
pub record Numbered (def : TableDef) (number : ℕ) (index : IndexDef) (indexes : List IndexDef) : Type 0 where
  pub here : index.number ≡ number
  pub table : index.table ≡ def.number
  pub rest : are_numbered def (suc number) indexes ≡ true

pub numbered : (def : TableDef) (number : ℕ) (index : IndexDef) (indexes : List IndexDef) → are_numbered def number (index ∷ indexes) ≡ true → Numbered def number index indexes
numbered def number index indexes h =
    let outer = and_parts (index.number == number && index.table == def.number) (are_numbered def (suc number) indexes) h in
    let inner = and_parts (index.number == number) (index.table == def.number) outer.0 in
    record { here = eqb-true index.number number inner.0; table = eqb-true index.table def.number inner.1; rest = outer.1 }

leading_here : (table : ℕ) (index : IndexDef) (indexes : List IndexDef) → index.table ≡ table → leading table (index ∷ indexes) ≡ suc (leading table indexes)
leading_here table index indexes is = rw (eq-eqb index.table table is) refl

leading_other : (table : ℕ) (index : IndexDef) (indexes : List IndexDef) → index.table ≢ table → leading table (index ∷ indexes) ≡ 0
leading_other table index indexes other = rw (ne_eqb index.table table other) refl

pub leading_more : (table : ℕ) (index : IndexDef) (indexes : List IndexDef) → index.table ≡ table → leading table (index ∷ indexes) ≡ suc (leading table indexes)
leading_more table index indexes is = leading_here table index indexes is

pub leading_stop : (table : ℕ) (index : IndexDef) (indexes : List IndexDef) → index.table ≢ table → leading table (index ∷ indexes) ≡ 0
leading_stop table index indexes other = leading_other table index indexes other

-- Each table's indexes are numbered.
abbrev pub AreNumbered : List Listing → Type 0
AreNumbered tables = list_all (λ x. are_numbered x.def 1 x.indexes) tables ≡ true

-- an index of a higher table doesn't lead
not_first : (def : TableDef) (number : ℕ) (indexes more : List IndexDef) (table : ℕ) → are_numbered def number indexes ≡ true → table < def.number → leading table more ≡ 0 → leading table (indexes ++ more) ≡ 0
not_first def number [] more table h under none = none
not_first def number (index ∷ indexes) more table h under none =
    let n = numbered def number index indexes h in
    leading_other table index (indexes ++ more) (λ same. omega (arith, under, same, n.table))

-- none of the indexes of higher tables leads
none_leads : (low high : ℕ) (tables : List Listing) → ascend low (numbers_of tables) high ≡ true → AreNumbered tables → (table : ℕ) → table ≤ low → leading table (flat_map (λ t. t.indexes) tables) ≡ 0
none_leads low high [] order all table under = refl
none_leads low high (x ∷ xs) order all table under =
    let parts = and_parts (are_numbered x.def 1 x.indexes) (list_all (λ x. are_numbered x.def 1 x.indexes) xs) all in
    let b = begins low x.def.number (numbers_of xs) high order in
    let above = b.above in
    not_first x.def 1 x.indexes (flat_map (λ t. t.indexes) xs) table parts.0 (omega (arith, above, under)) (none_leads x.def.number high xs b.rest parts.1 table (omega (arith, above, under)))

all_lead : (def : TableDef) (number : ℕ) (indexes more : List IndexDef) → are_numbered def number indexes ≡ true → leading def.number more ≡ 0 → leading def.number (indexes ++ more) ≡ length indexes
all_lead def number [] more h none = none
all_lead def number (index ∷ indexes) more h none =
    let n = numbered def number index indexes h in
    leading_here def.number index (indexes ++ more) n.table ∙ ap suc (all_lead def (suc number) indexes more n.rest none)

-- the indexes of the first table lead, and no others
pub leads : (low high : ℕ) (x : Listing) (xs : List Listing) → ascend low (numbers_of (x ∷ xs)) high ≡ true → AreNumbered (x ∷ xs) → leading x.def.number (flat_map (λ t. t.indexes) (x ∷ xs)) ≡ length x.indexes
leads low high x xs order all =
    let b = begins low x.def.number (numbers_of xs) high order in
    let parts = and_parts (are_numbered x.def 1 x.indexes) (list_all (λ x. are_numbered x.def 1 x.indexes) xs) all in
    all_lead x.def 1 x.indexes (flat_map (λ t. t.indexes) xs) parts.0 (none_leads x.def.number high xs b.rest parts.1 x.def.number (omega arith))

-- lists that go on after the same number of items
same_front : (xs ys s t : List IndexDef) → length xs ≡ length ys → xs ++ s ≡ ys ++ t → (xs ≡ ys) × (s ≡ t)
same_front [] [] s t len e = (refl, e)
same_front [] (y ∷ ys) s t len e = absurd (omega arith)
same_front (x ∷ xs) [] s t len e = absurd (omega arith)
same_front (x ∷ xs) (y ∷ ys) s t len e =
    let head : x ≡ y = cc in
    let tail : xs ++ s ≡ ys ++ t = cc in
    let more = same_front xs ys s t (omega arith) tail in
    ((λ i. head i ∷ more.0 i), more.1)

-- Of two lists of tables in order, with numbered indexes, the definitions and the indexes tell which it is.
pub tables_once : (low high : ℕ) (xs ys : List Listing) → ascend low (numbers_of xs) high ≡ true → AreNumbered xs → AreNumbered ys
    → map (λ t. t.def) xs ≡ map (λ t. t.def) ys → flat_map (λ t. t.indexes) xs ≡ flat_map (λ t. t.indexes) ys → xs ≡ ys
tables_once low high [] [] order nx ny defs indexes = refl
tables_once low high [] (y ∷ ys) order nx ny defs indexes = absurd (omega (arith, ap length defs))
tables_once low high (x ∷ xs) [] order nx ny defs indexes = absurd (omega (arith, ap length defs))
tables_once low high (x ∷ xs) (y ∷ ys) order nx ny defs indexes =
    let head : x.def ≡ y.def = cc in
    let tail : map (λ t. t.def) xs ≡ map (λ t. t.def) ys = cc in
    let b = begins low x.def.number (numbers_of xs) high order in
    let numbers : numbers_of (x ∷ xs) ≡ numbers_of (y ∷ ys) = numbers_from (x ∷ xs) (y ∷ ys) defs in
    let order_y : ascend low (numbers_of (y ∷ ys)) high ≡ true = ap (λ ns. ascend low ns high) (sym numbers) ∙ order in
    let lead_x = leads low high x xs order nx in
    let lead_y = leads low high y ys order_y ny in
    let lead : length x.indexes ≡ length y.indexes = sym lead_x ∙ ap (leading x.def.number) indexes ∙ ap (λ (d : TableDef). leading d.number (flat_map (λ t. t.indexes) (y ∷ ys))) head ∙ lead_y in
    let front = same_front x.indexes y.indexes (flat_map (λ t. t.indexes) xs) (flat_map (λ t. t.indexes) ys) lead indexes in
    let rest = tables_once x.def.number high xs ys b.rest (and_parts (are_numbered x.def 1 x.indexes) (list_all (λ x. are_numbered x.def 1 x.indexes) xs) nx).1
    (and_parts (are_numbered y.def 1 y.indexes) (list_all (λ x. are_numbered x.def 1 x.indexes) ys) ny).1 tail front.1 in
    λ i. record { def = head i; indexes = front.0 i } ∷ rest i
  where
    numbers_from : (xs ys : List Listing) → map (λ t. t.def) xs ≡ map (λ t. t.def) ys → numbers_of xs ≡ numbers_of ys
    numbers_from [] [] e = refl
    numbers_from [] (y ∷ ys) e = absurd (omega (arith, ap length e))
    numbers_from (x ∷ xs) [] e = absurd (omega (arith, ap length e))
    numbers_from (x ∷ xs) (y ∷ ys) e =
        let head : x.def ≡ y.def = cc in
        let tail : map (λ t. t.def) xs ≡ map (λ t. t.def) ys = cc in
        let more = numbers_from xs ys tail in
        λ i. (head i).number ∷ more i
