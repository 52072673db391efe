-- What holds of the tables of a database, as acts change them.
use Rattle.std.proofs.Common.{◌≡◌, ℕ, suc, zero, ◌==◌, ◌+◌, Bool, true, false, not, cond, ◌&&◌, List, [], ◌∷◌, map, Option, Some, None, is_none, slice_get, refl, sym, ap, subst, ◌∙◌}
use Rattle.std.specs.List.{list_all}
use Rattle.std.specs.Option.{option_and_then}
use Rattle.std.proofs.lemmas.Bool.{and_parts, and_from}
use Rattle.wat_value.specs.declared.definition.TableDef.{TableDef}
use Rattle.wat_value.specs.declared.change.SchemaChange.{SchemaChange}
use Rattle.wat_value.specs.declared.change.Act.{Act}
use Rattle.wat_value.specs.declared.change.Act.TheVariants.{OnRow, OnSchema}
use Rattle.wat_schema.specs.Catalog.{Catalog, Listing, in_order, repeats}
use Rattle.wat_schema.specs.Definitions.{allows, altered, bad_definition, is_definition, may_be_null, same_name, table_rules}
use Rattle.wat_schema.specs.Stored.{IsCatalog, is_whole}
use Rattle.wat_schema.specs.Tables.{IsTables, Table, Tables, after_alter, apply, apply_all, are_tables, catalog_of, is_table, listing_of, no_tables}
use Rattle.wat_schema.proofs.Again.{good_of}
use Rattle.wat_schema.proofs.Changing.{schema_stays}
use Rattle.wat_schema.proofs.Keeping.{none_broken}
use Rattle.wat_schema.proofs.TableLaws.{taken, act_keeps, catalog-after}
use Rattle.wat_schema.proofs.Whole.{empty_whole, stays_whole}

pub no_tables_hold : IsTables no_tables
no_tables_hold = record { catalog = empty_whole; rows = refl }

pub in_their_order : (t : Tables) → IsTables t → are_tables t ≡ true
in_their_order t is = and_from (in_order (catalog_of t)) (list_all is_table t.tables) is.catalog.order is.rows

rows_after : (t : Tables) → are_tables t ≡ true → list_all is_table t.tables ≡ true
rows_after t ok = (and_parts (in_order (catalog_of t)) (list_all is_table t.tables) ok).1

pub acts_hold : (act : Act) (before after : Tables) → IsTables before → apply act before ≡ Some after → IsTables after
acts_hold (OnRow change) before after is h =
    let ok = in_their_order before is in
    record { catalog = subst IsCatalog (sym (schema_stays change before after ok h)) is.catalog; rows = rows_after after (act_keeps (OnRow change) before after ok h) }
acts_hold (OnSchema change) before after is h =
    let ok = in_their_order before is in
    let got = taken (allows change (catalog_of before)) (after_alter change before) after h in
    let schema : altered change (catalog_of before) ≡ catalog_of after = sym (catalog-after change before) ∙ ap catalog_of got.1 in
    record { catalog = subst IsCatalog schema (stays_whole change (catalog_of before) is.catalog got.0); rows = rows_after after (act_keeps (OnSchema change) before after ok h) }

pub all_acts_hold : (acts : List Act) (before after : Tables) → IsTables before → apply_all acts before ≡ Some after → IsTables after
all_acts_hold [] before after is h = let same : Some before ≡ Some after = h in let it : before ≡ after = cc in subst IsTables it is
all_acts_hold (act ∷ acts) before after is h = by (apply act before) refl h (λ between one more. all_acts_hold acts between after one more)
  where
    by : (o : Option Tables) → apply act before ≡ o → option_and_then (apply_all acts) o ≡ Some after
        → ((between : Tables) → IsTables between → apply_all acts between ≡ Some after → IsTables after) → IsTables after
    by None e k rest = absurd (let no : None ≡ Some after = k in cc)
    by (Some between) e k rest = rest between (acts_hold act before between is e) k

-- ---- what is told of each table

abbrev has_names : TableDef → Bool
has_names def = not (repeats same_name def.columns)

named : (t : Listing) → is_whole t ≡ true → has_names t.def ≡ true
named t h =
    let parts = and_parts (not (may_be_null t.def.columns t.def.key)) (is_none (bad_definition false t.def.columns (t.def.key ∷ []))) (good_of t h).definition in
    ap not (none_broken (table_rules false t.def.columns (t.def.key ∷ [])) 1 0 (repeats same_name t.def.columns) parts.1 refl)

all_named : (xs : List Table) → list_all is_whole (map listing_of xs) ≡ true → list_all (λ x. has_names x.def) xs ≡ true
all_named [] h = refl
all_named (x ∷ xs) h =
    let parts = and_parts (is_whole (listing_of x)) (list_all is_whole (map listing_of xs)) h in
    and_from (has_names x.def) (list_all (λ x. has_names x.def) xs) (named (listing_of x) parts.0) (all_named xs parts.1)

pub names_differ : (t : Tables) → IsTables t → list_all (λ x. not (repeats same_name x.def.columns)) t.tables ≡ true
names_differ t is = all_named t.tables is.catalog.tables
