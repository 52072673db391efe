-- The statement of each act makes it, and an act without one changes nothing.
use Rattle.std.proofs.Common.{◌≡◌, true, false, not, Option, Some, None, refl, sym, ap, ◌∙◌}
use Rattle.std.specs.Option.{option_and_then, option_map}
use Rattle.std.proofs.lemmas.Bool.{and_parts}
use Rattle.wat_value.specs.declared.definition.TableDef.{TableDef}
use Rattle.wat_value.specs.declared.change.Change.TheVariants as change
use Rattle.wat_value.specs.declared.change.SchemaChange.TheVariants as schema
use Rattle.wat_value.specs.declared.change.Act.{Act}
use Rattle.wat_value.specs.declared.change.Act.TheVariants.{OnRow, OnSchema}
use Rattle.wat_ast.specs.declared.statement.Statement.{Statement}
use Rattle.wat_ast.specs.declared.statement.Statement.TheVariants as s
use Rattle.wat_schema.specs.Catalog.{Listing, has_index_named, listing_at}
use Rattle.wat_schema.specs.Definitions.{allows_index_of}
use Rattle.wat_schema.specs.Tables.{Tables, IsTables, after_delete, after_insert, apply, catalog_of}
use Rattle.wat_meaning.specs.Meaning.{meaning}
use Rattle.wat_spell_laws.specs.AsRead.{statement_as_read}
use Rattle.wat_written.specs.Written.{create_index, statement_of, statement_of_change}
use Rattle.wat_written_laws.specs.Meant.{meant}
use Rattle.wat_written_laws.proofs.Alters.{allowed, drop_law, index_law, listing_def, some_listing}
use Rattle.wat_written_laws.proofs.Changes.{changed, delete_law, insert_law, update_law}
use Rattle.wat_written_laws.proofs.Creates.{table_law}
use Rattle.wat_written_laws.proofs.Keys.{stands_of}
use Rattle.wat_written_laws.proofs.Unchanged.{update_unchanged}

pub act_law : (t u : Tables) (written : Statement) (act : Act) → IsTables t → apply act t ≡ Some u → statement_of (catalog_of t) act ≡ Some written → meaning t (statement_as_read written) ≡ meant act
act_law t u written (OnRow (change.Insert n row)) ok applies is = insert_law t u written n row ok applies is
act_law t u written (OnRow (change.Update n before after)) ok applies is = update_law t u written n before after ok applies is
act_law t u written (OnRow (change.Delete n row)) ok applies is = delete_law t u written n row ok applies is
act_law t u written (OnSchema (schema.CreateTable def)) ok applies is = table_law t u written def ok applies is
act_law t u written (OnSchema (schema.DropTable n)) ok applies is = drop_law t u written n ok applies is
act_law t u written (OnSchema (schema.CreateIndex index)) ok applies is = index_law t u written index ok applies is

pub none_law : (t u : Tables) (act : Act) → IsTables t → apply act t ≡ Some u → statement_of (catalog_of t) act ≡ None → u ≡ t
none_law t u (OnRow (change.Insert n row)) ok applies is =
    let c = changed t u n (after_insert row) applies in
    let no = sym (ap (option_and_then (λ (d : TableDef). statement_of_change d (change.Insert n row))) (stands_of t n c.x ok c.at).at) ∙ is in
    cc
none_law t u (OnRow (change.Update n before after)) ok applies is = update_unchanged t u n before after ok applies is
none_law t u (OnRow (change.Delete n row)) ok applies is =
    let c = changed t u n (after_delete row) applies in
    let no = sym (ap (option_and_then (λ (d : TableDef). statement_of_change d (change.Delete n row))) (stands_of t n c.x ok c.at).at) ∙ is in
    cc
none_law t u (OnSchema (schema.CreateTable def)) ok applies is = cc
none_law t u (OnSchema (schema.DropTable n)) ok applies is =
    let l = some_listing (catalog_of t) n (allowed (schema.DropTable n) t u applies) in
    let no = sym (ap (option_map (λ (d : TableDef). s.DropTable d.name)) (listing_def (catalog_of t) n l.0 l.1)) ∙ is in
    cc
none_law t u (OnSchema (schema.CreateIndex index)) ok applies is = by (listing_at (catalog_of t) index.table) refl
  where
    parts : (allows_index_of index (listing_at (catalog_of t) index.table) ≡ true) × (not (has_index_named (catalog_of t) index.name) ≡ true)
    parts = and_parts (allows_index_of index (listing_at (catalog_of t) index.table)) (not (has_index_named (catalog_of t) index.name)) (allowed (schema.CreateIndex index) t u applies)

    by : (o : Option Listing) → listing_at (catalog_of t) index.table ≡ o → u ≡ t
    by None e = absurd (let no : false ≡ true = sym (ap (allows_index_of index) e) ∙ parts.0 in cc)
    by (Some l) e =
        let no = sym (ap (option_map (create_index index)) (listing_def (catalog_of t) index.table l e)) ∙ is in
        cc
