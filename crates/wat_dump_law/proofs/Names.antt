-- Names are names in what a log has committed, and in the acts that make such tables.
use Rattle.std.proofs.Common.{◌≡◌, ℕ, ◌+◌, ◌&&◌, Bool, true, false, not, if◌then◌else◌, List, [], ◌∷◌, ◌++◌, map, Option, Some, None, refl, sym, ap, ◌∙◌}
use Rattle.std.specs.List.{flat_map, list_all}
use Rattle.std.specs.Option.{option_and_then}
use Rattle.std.proofs.lemmas.Bool.{and_from, and_parts}
use Rattle.std.proofs.lemmas.List.Folds.{list_all-append}
use Rattle.wat_word.specs.Words.{is_name}
use Rattle.wat_value.specs.declared.definition.TableDef.{TableDef}
use Rattle.wat_value.specs.declared.definition.IndexDef.{IndexDef}
use Rattle.wat_value.specs.declared.change.SchemaChange.{SchemaChange}
use Rattle.wat_value.specs.declared.change.SchemaChange.TheVariants as schema
use Rattle.wat_value.specs.declared.change.Act.{Act}
use Rattle.wat_value.specs.declared.change.Act.TheVariants.{OnRow, OnSchema}
use Rattle.wat_schema.specs.Catalog.{Catalog, Listing, has_number}
use Rattle.wat_schema.specs.Definitions.{allows, altered, with_index}
use Rattle.wat_schema.specs.Tables.{Row, Table, Tables, IsTables, after_alter, apply, apply_all, catalog_of, listing_of}
use Rattle.wat_schema.proofs.Changing.{schema_stays}
use Rattle.wat_schema.proofs.Database.{acts_hold, in_their_order}
use Rattle.wat_schema.proofs.Distinct.{list_all-filter}
use Rattle.wat_schema.proofs.TableLaws.{catalog-after}
use Rattle.wat_written_laws.specs.Named.{act_named, has_names}
use Rattle.wat_dump.specs.Dump.{index_made, makings, row_made}
use Rattle.wat_dump_law.specs.Anew.{are_named, is_named, numbered, numbered_from, of_number, with_number}

-- ---- the acts that make tables

indexes_named : (n : ℕ) (indexes : List IndexDef) → list_all (λ index. is_name index.name) indexes ≡ true → list_all act_named (map index_made (map (of_number n) indexes)) ≡ true
indexes_named n [] all = refl
indexes_named n (index ∷ indexes) all =
    let p = and_parts (is_name index.name) (list_all (λ index. is_name index.name) indexes) all in
    and_from (is_name index.name) (list_all act_named (map index_made (map (of_number n) indexes))) p.0 (indexes_named n indexes p.1)

rows_named : (def : TableDef) (rows : List Row) → list_all act_named (map (row_made def) rows) ≡ true
rows_named def [] = refl
rows_named def (row ∷ rows) = rows_named def rows

makings_named : (n : ℕ) (x : Table) → is_named (listing_of x) ≡ true → list_all act_named (makings (numbered n x)) ≡ true
makings_named n x all =
    let p = and_parts (has_names x.def) (list_all (λ index. is_name index.name) x.indexes) all in
    let indexes = map index_made (map (of_number n) x.indexes) in
    let rows = map (row_made (with_number n x.def)) x.rows in
    and_from (has_names x.def) (list_all act_named (indexes ++ rows)) p.0
    (list_all-append act_named indexes rows ∙ and_from (list_all act_named indexes) (list_all act_named rows) (indexes_named n x.indexes p.1) (rows_named (with_number n x.def) x.rows))

pub all_makings_named : (n : ℕ) (xs : List Table) → list_all is_named (map listing_of xs) ≡ true → list_all act_named (flat_map makings (numbered_from n xs)) ≡ true
all_makings_named n [] all = refl
all_makings_named n (x ∷ xs) all =
    let p = and_parts (is_named (listing_of x)) (list_all is_named (map listing_of xs)) all in
    list_all-append act_named (makings (numbered n x)) (flat_map makings (numbered_from (n + 1) xs))
    ∙ and_from (list_all act_named (makings (numbered n x))) (list_all act_named (flat_map makings (numbered_from (n + 1) xs))) (makings_named n x p.0) (all_makings_named (n + 1) xs p.1)

-- ---- the tables that acts make

push_named : (ts : List Listing) (t : Listing) → list_all is_named ts ≡ true → is_named t ≡ true → list_all is_named (ts ++ t ∷ []) ≡ true
push_named [] t all one = and_from (is_named t) true one refl
push_named (x ∷ ts) t all one =
    let p = and_parts (is_named x) (list_all is_named ts) all in
    and_from (is_named x) (list_all is_named (ts ++ t ∷ [])) p.0 (push_named ts t p.1 one)

indexed_named : (index : IndexDef) (ts : List Listing) → is_name index.name ≡ true → list_all is_named ts ≡ true → list_all is_named (map (with_index index) ts) ≡ true
indexed_named index [] word all = refl
indexed_named index (t ∷ ts) word all =
    let p = and_parts (is_named t) (list_all is_named ts) all in
    and_from (is_named (with_index index t)) (list_all is_named (map (with_index index) ts)) (one (has_number index.table t) p.0) (indexed_named index ts word p.1)
  where
    one : (b : Bool) → is_named t ≡ true → is_named (if b then record t { indexes = t.indexes ++ index ∷ [] } else t) ≡ true
    one true h =
        let q = and_parts (has_names t.def) (list_all (λ i. is_name i.name) t.indexes) h in
        and_from (has_names t.def) (list_all (λ i. is_name i.name) (t.indexes ++ index ∷ [])) q.0
        (list_all-append (λ (i : IndexDef). is_name i.name) t.indexes (index ∷ [])
        ∙ and_from (list_all (λ i. is_name i.name) t.indexes) (is_name index.name && true) q.1 (and_from (is_name index.name) true word refl))
    one false h = h

altered_named : (change : SchemaChange) (c : Catalog) → are_named c ≡ true → act_named (OnSchema change) ≡ true → are_named (altered change c) ≡ true
altered_named (schema.CreateTable def) c all word = push_named c.tables (record { def = def; indexes = [] }) all (and_from (has_names def) true word refl)
altered_named (schema.DropTable n) c all word = list_all-filter (λ t. not (has_number n t)) is_named c.tables all
altered_named (schema.CreateIndex index) c all word = indexed_named index c.tables word all

names_kept : (t u : Tables) (act : Act) → IsTables t → apply act t ≡ Some u → are_named (catalog_of t) ≡ true → act_named act ≡ true → are_named (catalog_of u) ≡ true
names_kept t u (OnRow change) ok applies all word = ap are_named (schema_stays change t u (in_their_order t ok) applies) ∙ all
names_kept t u (OnSchema change) ok applies all word = by (allows change (catalog_of t)) applies
  where
    by : (b : Bool) → (if b then Some (after_alter change t) else None) ≡ Some u → are_named (catalog_of u) ≡ true
    by true h =
        let it : after_alter change t ≡ u = cc in
        ap (λ (z : Tables). are_named (catalog_of z)) (sym it) ∙ ap are_named (catalog-after change t) ∙ altered_named change (catalog_of t) all word
    by false h = absurd (let no : ◌≡◌ {A = Option Tables} None (Some u) = h in cc)

-- acts that have names for names leave tables that have
pub all_names_kept : (acts : List Act) (t u : Tables) → IsTables t → are_named (catalog_of t) ≡ true → list_all act_named acts ≡ true → apply_all acts t ≡ Some u → are_named (catalog_of u) ≡ true
all_names_kept [] t u ok all words h = let same : Some t ≡ Some u = h in let it : t ≡ u = cc in ap (λ (z : Tables). are_named (catalog_of z)) (sym it) ∙ all
all_names_kept (act ∷ acts) t u ok all words h = by (apply act t) refl h (λ between one good more. all_names_kept acts between u one good p.1 more)
  where
    p : (act_named act ≡ true) × (list_all act_named acts ≡ true)
    p = and_parts (act_named act) (list_all act_named acts) words

    by : (o : Option Tables) → apply act t ≡ o → option_and_then (apply_all acts) o ≡ Some u
        → ((between : Tables) → IsTables between → are_named (catalog_of between) ≡ true → apply_all acts between ≡ Some u → are_named (catalog_of u) ≡ true) → are_named (catalog_of u) ≡ true
    by None e k rest = absurd (let no : ◌≡◌ {A = Option Tables} None (Some u) = k in cc)
    by (Some between) e k rest = rest between (acts_hold act t between ok e) (names_kept t between act ok e all p.0) k
