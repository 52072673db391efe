-- Tables and their columns, found by their names.
use Rattle.std.proofs.Common.{◌≡◌, ℕ, zero, suc, ◌+◌, ◌<◌, Bool, true, false, not, cond, List, [], ◌∷◌, length, Option, Some, None, slice_get, ltb, refl, sym, ap, ◌∙◌, inl, inr, arith}
use Rattle.std.specs.List.{find, list_any, position_or_len}
use Rattle.std.specs.Option.{option_map, option_and_then}
use Rattle.std.specs.Str.{bytes_eq}
use Rattle.std.proofs.lemmas.Bool.{or_parts, cases_Bool, eqb-true, lt-ltb}
use Rattle.wat_value.specs.declared.definition.Column.{Column}
use Rattle.wat_value.specs.declared.definition.TableDef.{TableDef}
use Rattle.wat_schema.specs.Catalog.{Name, Catalog, Listing, def_at, has_name, has_number, listing_at, listing_named, names_of, ordinal, repeats, table_named}
use Rattle.wat_schema.specs.Definitions.{same_name}
use Rattle.wat_schema.specs.Stored.{IsCatalog}
use Rattle.wat_schema.specs.Tables.{Table, Tables, IsTables, catalog_of, table_at}
use Rattle.wat_meaning.specs.Meaning.{table_called}
use Rattle.wat_meaning.proofs.Inserting.{bytes_itself}
use Rattle.wat_meaning.proofs.Passed.{listed_def}

none_at : {X : Type 0} (p : X → Bool) (xs : List X) (j : ℕ) (x : X) → list_any p xs ≡ false → slice_get xs j ≡ Some x → p x ≡ false
none_at p [] j x none at = cc
none_at p (y ∷ ys) zero x none at =
    let is : y ≡ x = cc in
    ap p (sym is) ∙ (or_parts (p y) (list_any p ys) none).0
none_at p (y ∷ ys) (suc j) x none at = none_at p ys j x (or_parts (p y) (list_any p ys) none).1 at

-- ---- columns

pub within : {X : Type 0} (xs : List X) (j : ℕ) (x : X) → slice_get xs j ≡ Some x → j < length xs
within [] j x at = cc
within (y ∷ ys) zero x at = omega arith
within (y ∷ ys) (suc j) x at = let rest = within ys j x at in omega arith

place : (columns : List Column) (j : ℕ) (column : Column) → repeats same_name columns ≡ false → slice_get columns j ≡ Some column
    → position_or_len (λ other. bytes_eq column.name other.name) columns ≡ j
place [] j column once at = cc
place (c ∷ cs) zero column once at =
    let is : c ≡ column = cc in
    let here : bytes_eq column.name c.name ≡ true = ap (λ (z : Column). bytes_eq column.name z.name) is ∙ bytes_itself column.name in
    ap (λ b. cond (not b) (1 + position_or_len (λ other. bytes_eq column.name other.name) cs) 0) here
place (c ∷ cs) (suc j) column once at =
    let p = or_parts (list_any (λ y. same_name y c) cs) (repeats same_name cs) once in
    let other : bytes_eq column.name c.name ≡ false = none_at (λ y. same_name y c) cs j column p.0 at in
    ap (λ b. cond (not b) (1 + position_or_len (λ other. bytes_eq column.name other.name) cs) 0) other ∙ omega (arith, place cs j column p.1 at)

-- a column is found by its name
pub ordinal_is : (def : TableDef) (j : ℕ) (column : Column) → repeats same_name def.columns ≡ false → slice_get def.columns j ≡ Some column → ordinal def column.name ≡ Some j
ordinal_is def j column once at =
    let is = place def.columns j column once at in
    ap (λ i. cond (ltb i (length def.columns)) (Some i) None) is
    ∙ ap (λ b. cond b (Some j) None) (lt-ltb j (length def.columns) (within def.columns j column at))

-- ---- tables

-- what is found has the number
numbered : (n : ℕ) (ts : List Listing) (l : Listing) → find (has_number n) ts ≡ Some l → repeats bytes_eq (names_of ts) ≡ false → find (has_name l.def.name) ts ≡ Some l
numbered n [] l at once = cc
numbered n (t ∷ ts) l at once =
    let p = or_parts (list_any (λ y. bytes_eq y t.def.name) (names_of ts)) (repeats bytes_eq (names_of ts)) once in
    let found : cond (has_number n t) (Some t) (find (has_number n) ts) ≡ Some l = at in
    elim (cases_Bool (has_number n t)) [
      | inl here ↦
          let same : Some t ≡ Some l = rw here at found in
          let is : t ≡ l = cc in
          let it : has_name l.def.name t ≡ true = ap (λ (z : Listing). bytes_eq l.def.name z.def.name) is ∙ bytes_itself l.def.name in
          ap (λ b. cond b (Some t) (find (has_name l.def.name) ts)) it ∙ same
      | inr other ↦
          let rest : find (has_number n) ts ≡ Some l = rw other at found in
          let not_it : has_name l.def.name t ≡ false = fresh n ts l t.def.name rest p.0 in
          ap (λ b. cond b (Some t) (find (has_name l.def.name) ts)) not_it ∙ numbered n ts l rest p.1
    ]
  where
    fresh : (n : ℕ) (ts : List Listing) (l : Listing) (name : Name) → find (has_number n) ts ≡ Some l → list_any (λ y. bytes_eq y name) (names_of ts) ≡ false → bytes_eq l.def.name name ≡ false
    fresh n [] l name at none = cc
    fresh n (t ∷ ts) l name at none =
        let p = or_parts (bytes_eq t.def.name name) (list_any (λ y. bytes_eq y name) (names_of ts)) none in
        let found : cond (has_number n t) (Some t) (find (has_number n) ts) ≡ Some l = at in
        elim (cases_Bool (has_number n t)) [
          | inl here ↦
              let same : Some t ≡ Some l = rw here at found in
              let is : t ≡ l = cc in
              ap (λ (z : Listing). bytes_eq z.def.name name) (sym is) ∙ p.0
          | inr other ↦ fresh n ts l name (rw other at found) p.1
        ]

-- a table that stands is the one of its name
pub named_is : (c : Catalog) (n : ℕ) (l : Listing) → IsCatalog c → listing_at c n ≡ Some l → listing_named c l.def.name ≡ Some l
named_is c n l ok at = numbered n c.tables l at ok.names

number_is : (n : ℕ) (ts : List Listing) (l : Listing) → find (has_number n) ts ≡ Some l → n ≡ l.def.number
number_is n [] l at = cc
number_is n (t ∷ ts) l at =
    let found : cond (has_number n t) (Some t) (find (has_number n) ts) ≡ Some l = at in
    elim (cases_Bool (has_number n t)) [
      | inl here ↦
          let same : Some t ≡ Some l = rw here at found in
          let is : t ≡ l = cc in
          eqb-true n t.def.number here ∙ ap (λ (z : Listing). z.def.number) is
      | inr other ↦ number_is n ts l (rw other at found)
    ]

-- the listing of a definition that stands
pub listing_of_def : (c : Catalog) (n : ℕ) (def : TableDef) → def_at c n ≡ Some def → (l : Listing) × (listing_at c n ≡ Some l) × (l.def ≡ def)
listing_of_def c n def at = by (listing_at c n) refl at
  where
    by : (o : Option Listing) → listing_at c n ≡ o → option_map (λ l. l.def) o ≡ Some def → (l : Listing) × (listing_at c n ≡ Some l) × (l.def ≡ def)
    by None e h = absurd (let no : ◌≡◌ {A = Option TableDef} None (Some def) = h in cc)
    by (Some l) e h = (l, e, (let is : l.def ≡ def = cc in is))

pub table_named_is : (c : Catalog) (n : ℕ) (def : TableDef) → IsCatalog c → def_at c n ≡ Some def → table_named c def.name ≡ Some n
table_named_is c n def ok at =
    let l = listing_of_def c n def at in
    ap (λ (d : TableDef). table_named c d.name) (sym l.2)
    ∙ ap (option_map (λ (t : Listing). t.def.number)) (named_is c n l.0 ok l.1)
    ∙ ap Some (sym (number_is n c.tables l.0 l.1))

-- the table of a definition that stands
pub def_is : (t : Tables) (n : ℕ) (x : Table) → table_at t n ≡ Some x → def_at (catalog_of t) n ≡ Some x.def
def_is t n x at = listed_def n t.tables ∙ ap (option_map (λ (z : Table). z.def)) at

pub called_is : (t : Tables) (n : ℕ) (x : Table) → IsTables t → table_at t n ≡ Some x → table_called t x.def.name ≡ Some x
called_is t n x ok at = ap (option_and_then (table_at t)) (table_named_is (catalog_of t) n x.def ok.catalog (def_is t n x at)) ∙ at
