-- The statements found by name are those of all tables.
use Rattle.std.proofs.Common.{◌≡◌, ◌≢◌, ℕ, ◌+◌, ◌<◌, ◌==◌, Bool, true, false, cond, nat_le, List, [], ◌∷◌, ◌++◌, map, filter, Option, Some, None, refl, sym, ap, ap₂, ◌∙◌, arith}
use Rattle.std.specs.List.{find, flat_map}
use Rattle.std.proofs.lemmas.Bool.{and_parts, eq-eqb, ne_eqb}
use Rattle.wat_value.specs.declared.definition.TableDef.{TableDef}
use Rattle.wat_value.specs.declared.definition.IndexDef.{IndexDef}
use Rattle.wat_ast.specs.declared.statement.Statement.{Statement}
use Rattle.wat_schema.specs.Catalog.{Catalog, Listing, ascend, numbers_of}
use Rattle.wat_schema.specs.Stored.{defs_of, indexes_of}
use Rattle.wat_schema.proofs.Order.{Begins, begins}
use Rattle.wat_schema.specs.Tables.{Row, Table, Tables, IsTables, catalog_of, listing_of, rows_or_none, table_at}
use Rattle.wat_meaning.specs.Meaning.{table_called}
use Rattle.wat_tables.specs.Acting.{empty_table, empty_tables}
use Rattle.wat_tables.proofs.Listed.{tables_made}
use Rattle.wat_written_laws.proofs.Columns.{called_is}
use Rattle.wat_script_texts.specs.Texts.{script_text}
use Rattle.wat_dump.specs.Dump.{dump_text, dumped, table_statements}
use Rattle.wat_dump.specs.Dumping.{statements_called}

module _ (t : Tables) (ok : IsTables t) where
  -- the statements of a table, with the rows of the one of its name
  abbrev called : Table → List Statement
  called x = table_statements (catalog_of t) (record { def = x.def; indexes = x.indexes; rows = rows_or_none (table_called t x.def.name) })

  abbrev own : List IndexDef → TableDef → List IndexDef
  own indexes def = filter (λ (index : IndexDef). def.number == index.table) indexes

  by_defs : (indexes : List IndexDef) (defs : List TableDef) → flat_map (statements_called t indexes) defs ≡ flat_map called (map (λ (def : TableDef). empty_table def (own indexes def)) defs)
  by_defs indexes [] = refl
  by_defs indexes (def ∷ defs) = ap (λ (rest : List Statement). statements_called t indexes def ++ rest) (by_defs indexes defs)

  by_listings : (xs : List Table) → flat_map called (map (λ (l : Listing). empty_table l.def l.indexes) (map listing_of xs)) ≡ flat_map called xs
  by_listings [] = refl
  by_listings (x ∷ xs) = ap (λ (rest : List Statement). called x ++ rest) (by_listings xs)

  by_rows : (low high : ℕ) (xs : List Table) → ((n : ℕ) → low < n → table_at t n ≡ find (λ z. n == z.def.number) xs) → ascend low (numbers_of (map listing_of xs)) high ≡ true
      → flat_map called xs ≡ flat_map (table_statements (catalog_of t)) xs
  by_rows low high [] at up = refl
  by_rows low high (x ∷ xs) at up =
      ap₂ (λ (ss rest : List Statement). ss ++ rest) here (by_rows x.def.number high xs later b.rest)
    where
      b : Begins low x.def.number (numbers_of (map listing_of xs)) high
      b = begins low x.def.number (numbers_of (map listing_of xs)) high up

      found : table_at t x.def.number ≡ Some x
      found = at x.def.number b.above ∙ ap (λ z. cond z (Some x) (find (λ y. x.def.number == y.def.number) xs)) (eq-eqb x.def.number x.def.number refl)

      here : called x ≡ table_statements (catalog_of t) x
      here = ap (λ o. table_statements (catalog_of t) (record { def = x.def; indexes = x.indexes; rows = rows_or_none o })) (called_is t x.def.number x ok found)

      later : (n : ℕ) → x.def.number < n → table_at t n ≡ find (λ z. n == z.def.number) xs
      later n above =
          let low_too : low < n = (let low_below = b.above in omega arith) in
          at n low_too ∙ ap (λ z. cond z (Some x) (find (λ y. n == y.def.number) xs)) (ne_eqb n x.def.number (λ e. omega arith))

  pub all_dumped : flat_map (statements_called t (indexes_of (catalog_of t))) (defs_of (catalog_of t)) ≡ dumped t
  all_dumped =
      by_defs (indexes_of (catalog_of t)) (defs_of (catalog_of t))
      ∙ ap (flat_map called) (tables_made (catalog_of t) ok.catalog)
      ∙ by_listings t.tables
      ∙ by_rows 0 t.next t.tables (λ n above. refl) (and_parts (nat_le 1 t.next) (ascend 0 (numbers_of (map listing_of t.tables)) t.next) ok.catalog.order).1

  pub text_dumped : (c : Catalog) (indexes : List IndexDef) (defs : List TableDef) (old out : List ℕ) → c ≡ catalog_of t → indexes ≡ indexes_of c → defs ≡ defs_of c → old ≡ []
      → out ≡ old ++ script_text (flat_map (statements_called t indexes) defs) → out ≡ dump_text t
  text_dumped c indexes defs old out schema is are none so =
      so ∙ ap (λ (o : List ℕ). o ++ script_text (flat_map (statements_called t indexes) defs)) none
      ∙ ap₂ (λ (js : List IndexDef) (ds : List TableDef). script_text (flat_map (statements_called t js) ds)) (is ∙ ap indexes_of schema) (are ∙ ap defs_of schema)
      ∙ ap script_text all_dumped
