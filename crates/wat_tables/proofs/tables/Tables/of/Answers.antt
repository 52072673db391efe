use Rattle.std.proofs.Common.{◌≡◌, ℕ, ◌==◌, List, map, filter, ap, ap₂, sym, ◌∙◌}
use Rattle.wat_value.specs.declared.definition.TableDef.{TableDef}
use Rattle.wat_value.specs.declared.definition.IndexDef.{IndexDef}
use Rattle.wat_schema.specs.Catalog.{Catalog, repeats}
use Rattle.wat_schema.specs.Stored.{defs_of}
use Rattle.wat_schema.specs.Tables.{Table, Tables}
use Rattle.wat_tables.specs.Acting.{empty_table, empty_tables}
use Rattle.wat_tables.proofs.Listed.{defs_once, moved, of_schema, tables_made}
use Rattle.wat_tables.proofs.tables.Tables.of.Goals as goal

abbrev number : TableDef → ℕ
number def = def.number

pub numbers_of-requires : goal.numbers_of-requires
numbers_of-requires c = ap (λ ds. repeats ◌==◌ (map number ds)) (c.as_slice.ensures ∙ c.in_ok-defs.ensures) ∙ defs_once c.args.schema.now c.catalog_law.ensures

same : (c : goal.In_ok-schema) → ◌≡◌ {A = Tables} (record { tables = c.in_ok-tables.tables.items; next = c.in_ok-schema.schema.next }) (empty_tables c.args.schema.now)
same c =
    ap₂ (λ (xs : List Table) (n : ℕ). record { tables = xs; next = n })
    (c.in_ok-tables.ensures
    ∙ ap₂ (λ (ds : List TableDef) (is : List IndexDef). map (λ (def : TableDef). empty_table def (filter (λ (index : IndexDef). def.number == index.table) is)) ds)
    (c.as_slice-2.ensures ∙ c.in_ok-defs.ensures) (c.as_slice-3.ensures ∙ c.in_ok-indexes.ensures)
    ∙ tables_made c.args.schema.now c.catalog_law.ensures)
    (ap (λ (s : Catalog). s.next) c.in_ok-schema.ensures)

pub invariant_of-result : goal.invariant_of-result
invariant_of-result c =
    moved _ (empty_tables c.args.schema.now) _ c.args.schema.now _ (map number (defs_of c.args.schema.now)) (same c) c.in_ok-schema.ensures
    (c.in_ok-numbers.ensures ∙ ap (map number) (c.as_slice.ensures ∙ c.in_ok-defs.ensures)) (of_schema c.args.schema.now c.catalog_law.ensures)

pub returns : goal.returns
returns c =
    ap₂ (λ (xs : List Table) (n : ℕ). record { tables = xs; next = n })
    (c.in_ok-tables.ensures
    ∙ ap₂ (λ (ds : List TableDef) (is : List IndexDef). map (λ (def : TableDef). empty_table def (filter (λ (index : IndexDef). def.number == index.table) is)) ds)
    (c.as_slice-2.ensures ∙ c.in_ok-defs.ensures) (c.as_slice-3.ensures ∙ c.in_ok-indexes.ensures)
    ∙ tables_made c.args.schema.now c.catalog_law.ensures)
    (ap (λ (s : Catalog). s.next) c.in_ok-schema.ensures)
