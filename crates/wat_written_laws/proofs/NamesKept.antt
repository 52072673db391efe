-- Where names are names, they stay so after an act.
use Rattle.std.proofs.Common.{◌≡◌, Bool, true, false, not, if◌then◌else◌, List, [], ◌∷◌, ◌++◌, map, Option, Some, None, refl, sym, ap, ◌∙◌}
use Rattle.std.specs.List.{list_all}
use Rattle.std.proofs.lemmas.Bool.{and_from, and_parts}
use Rattle.wat_value.specs.declared.definition.IndexDef.{IndexDef}
use Rattle.wat_value.specs.declared.change.SchemaChange.{SchemaChange}
use Rattle.wat_value.specs.declared.change.SchemaChange.TheVariants as schema
use Rattle.wat_value.specs.declared.change.Act.{Act}
use Rattle.wat_value.specs.declared.change.Act.TheVariants.{OnRow, OnSchema}
use Rattle.wat_schema.specs.Catalog.{Catalog, Listing, has_number}
use Rattle.wat_schema.specs.Definitions.{allows, altered, with_index}
use Rattle.wat_schema.specs.Tables.{Tables, IsTables, after_alter, apply, catalog_of}
use Rattle.wat_schema.proofs.Changing.{schema_stays}
use Rattle.wat_schema.proofs.Database.{in_their_order}
use Rattle.wat_schema.proofs.Distinct.{list_all-filter}
use Rattle.wat_schema.proofs.TableLaws.{catalog-after}
use Rattle.wat_written_laws.specs.Named.{act_named, all_named, has_names}

abbrev named : Listing → Bool
named t = has_names t.def

push_named : (ts : List Listing) (t : Listing) → list_all named ts ≡ true → named t ≡ true → list_all named (ts ++ t ∷ []) ≡ true
push_named [] t all one = and_from (named t) true one refl
push_named (x ∷ ts) t all one =
    let p = and_parts (named x) (list_all named ts) all in
    and_from (named x) (list_all named (ts ++ t ∷ [])) p.0 (push_named ts t p.1 one)

indexed_named : (index : IndexDef) (ts : List Listing) → list_all named ts ≡ true → list_all named (map (with_index index) ts) ≡ true
indexed_named index [] all = refl
indexed_named index (t ∷ ts) all =
    let p = and_parts (named t) (list_all named ts) all in
    and_from (named (with_index index t)) (list_all named (map (with_index index) ts)) (one (has_number index.table t) ∙ p.0) (indexed_named index ts p.1)
  where
    one : (b : Bool) → named (if b then record t { indexes = t.indexes ++ index ∷ [] } else t) ≡ named t
    one true = refl
    one false = refl

altered_named : (change : SchemaChange) (c : Catalog) → all_named c ≡ true → act_named (OnSchema change) ≡ true → all_named (altered change c) ≡ true
altered_named (schema.CreateTable def) c all word = push_named c.tables (record { def = def; indexes = [] }) all word
altered_named (schema.DropTable n) c all word = list_all-filter (λ t. not (has_number n t)) named c.tables all
altered_named (schema.CreateIndex index) c all word = indexed_named index c.tables all

pub names_kept : (t u : Tables) (act : Act) → IsTables t → apply act t ≡ Some u → all_named (catalog_of t) ≡ true → act_named act ≡ true → all_named (catalog_of u) ≡ true
names_kept t u (OnRow change) ok applies all word = ap all_named (schema_stays change t u (in_their_order t ok) applies) ∙ all
names_kept t u (OnSchema change) ok applies all word = by (allows change (catalog_of t)) applies
  where
    by : (b : Bool) → (if b then Some (after_alter change t) else None) ≡ Some u → all_named (catalog_of u) ≡ true
    by true h =
        let it : after_alter change t ≡ u = cc in
        ap (λ (z : Tables). all_named (catalog_of z)) (sym it) ∙ ap all_named (catalog-after change t) ∙ altered_named change (catalog_of t) all word
    by false h = absurd (let no : ◌≡◌ {A = Option Tables} None (Some u) = h in cc)
