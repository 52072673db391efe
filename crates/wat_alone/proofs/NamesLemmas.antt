-- The names of the tables that stand.
use Rattle.std.proofs.Common.{◌≡◌, ◌==◌, Bool, true, false, List, [], ◌∷◌, map, refl, sym, ◌∙◌, ap}
use Rattle.std.specs.List.{filter, fold, list_any}
use Rattle.wat_value.specs.declared.change.Act.{Act}
use Rattle.wat_value.specs.declared.change.Act.TheVariants.{OnRow, OnSchema}
use Rattle.wat_value.specs.declared.definition.TableDef.{TableDef}
use Rattle.wat_value.specs.declared.definition.IndexDef.{IndexDef}
use Rattle.wat_schema.specs.Catalog.{Catalog, Listing}
use Rattle.wat_schema.specs.Stored.{defs_of, indexes_of}
use Rattle.wat_schema.specs.Tables.{IsTables, Table, Tables, catalog_of, listing_of}
use Rattle.wat_tables.specs.Acting.{empty_table, empty_tables}
use Rattle.wat_tables.proofs.Listed.{tables_made}
use Rattle.wat_conn.specs.declared.session.TableName.{TableName}
use Rattle.wat_history.specs.Naming.{after_act, name_of}
use Rattle.wat_alone.specs.Committing.{is_of_schema}
use Rattle.wat_alone.specs.Names.{named_by}

abbrev named : Table → TableName
named x = name_of x.def x.indexes

abbrev with_own : List IndexDef → TableDef → Table
with_own indexes def = empty_table def (filter (λ (index : IndexDef). def.number == index.table) indexes)

each_named : (indexes : List IndexDef) (defs : List TableDef) → map (named_by indexes) defs ≡ map named (map (with_own indexes) defs)
each_named indexes [] = refl
each_named indexes (def ∷ defs) = ap (λ (l : List TableName). named_by indexes def ∷ l) (each_named indexes defs)

each_listed : (ts : List Table) → map named (map (λ (l : Listing). empty_table l.def l.indexes) (map listing_of ts)) ≡ map named ts
each_listed [] = refl
each_listed (t ∷ ts) = ap (λ (l : List TableName). named t ∷ l) (each_listed ts)

pub all_named : (t : Tables) → IsTables t → map (named_by (indexes_of (catalog_of t))) (defs_of (catalog_of t)) ≡ map (λ (x : Table). name_of x.def x.indexes) t.tables
all_named t ok =
    let c = catalog_of t in
    each_named (indexes_of c) (defs_of c) ∙ ap (map named) (tables_made c ok.catalog) ∙ each_listed t.tables

-- acts on rows alone leave the names
pub names_stay : (names : List TableName) (acts : List Act) → list_any is_of_schema acts ≡ false → fold after_act names acts ≡ names
names_stay names [] none = refl
names_stay names (OnRow change ∷ acts) none = names_stay names acts none
names_stay names (OnSchema change ∷ acts) none = cc
