-- The statements of a table, which its number is not in.
use Rattle.std.proofs.Common.{◌≡◌, ℕ, ◌+◌, ◌<◌, ◌==◌, true, cond, nat_le, List, [], ◌∷◌, ◌++◌, map, Option, Some, None, refl, ap, ap₂, ◌∙◌, arith}
use Rattle.std.specs.List.{find, flat_map, list_all}
use Rattle.std.specs.Option.{option_map, option_and_then, option_to_list}
use Rattle.std.proofs.lemmas.Bool.{and_parts, eq-eqb, ne_eqb}
use Rattle.std.proofs.lemmas.Grind.{flat_map-append}
use Rattle.wat_value.specs.declared.definition.TableDef.{TableDef}
use Rattle.wat_value.specs.declared.definition.IndexDef.{IndexDef}
use Rattle.wat_ast.specs.declared.statement.InsertSource.TheVariants.{Values}
use Rattle.wat_ast.specs.declared.statement.Statement.{Statement}
use Rattle.wat_ast.specs.declared.statement.Statement.TheVariants.{Insert}
use Rattle.wat_schema.specs.Catalog.{Catalog, ascend, def_at, numbers_of}
use Rattle.wat_schema.specs.Stored.{are_indexes, is_whole}
use Rattle.wat_schema.specs.Tables.{Row, Table, Tables, IsTables, catalog_of, listing_of, table_at}
use Rattle.wat_schema.proofs.Again.{good_of, next_of}
use Rattle.wat_schema.proofs.Order.{Begins, begins}
use Rattle.wat_written.specs.Written.{create_index, create_table, literals}
use Rattle.wat_written_laws.proofs.Columns.{def_is}
use Rattle.wat_dump.specs.Dump.{commit_of, dumped, index_made, row_made, table_statements, written}
use Rattle.wat_dump_law.specs.Anew.{numbered, numbered_from, of_number, with_number}

abbrev pub row_statement : TableDef → Row → Statement
row_statement def row = Insert def.name None (Values (literals row))

abbrev pub plain : Table → List Statement
plain x = (create_table x.def ∷ (map (λ index. create_index index x.def) x.indexes ++ map (row_statement x.def) x.rows)) ++ commit_of x.rows

-- ---- whatever the number

indexes_same : (n : ℕ) (def : TableDef) (indexes : List IndexDef) → map (λ index. create_index index (with_number n def)) (map (of_number n) indexes) ≡ map (λ index. create_index index def) indexes
indexes_same n def [] = refl
indexes_same n def (index ∷ indexes) = ap (λ (ss : List Statement). create_index index def ∷ ss) (indexes_same n def indexes)

pub plain_same : (n : ℕ) (x : Table) → plain (numbered n x) ≡ plain x
plain_same n x = ap (λ (ss : List Statement). (create_table x.def ∷ (ss ++ map (row_statement x.def) x.rows)) ++ commit_of x.rows) (indexes_same n x.def x.indexes)

pub all_same : (n : ℕ) (xs : List Table) → flat_map plain (numbered_from n xs) ≡ flat_map plain xs
all_same n [] = refl
all_same n (x ∷ xs) = ap₂ (λ (ss rest : List Statement). ss ++ rest) (plain_same n x) (all_same (n + 1) xs)

-- ---- they are those of a dump

module _ (c : Catalog) (def : TableDef) (at : def_at c def.number ≡ Some def) where
  index_statements : (number : ℕ) (indexes : List IndexDef) → are_indexes def number indexes ≡ true → flat_map (written c) (map index_made indexes) ≡ map (λ index. create_index index def) indexes
  index_statements number [] good = refl
  index_statements number (index ∷ indexes) good =
      let is = next_of def number index indexes good in
      ap₂ (λ (o : Option Statement) (rest : List Statement). option_to_list o ++ rest) (ap (λ (n : ℕ). option_map (create_index index) (def_at c n)) is.table_is ∙ ap (option_map (create_index index)) at)
      (index_statements (number + 1) indexes (ap (λ (n : ℕ). are_indexes def n indexes) (omega arith) ∙ is.rest))

  row_statements : (rows : List Row) → flat_map (written c) (map (row_made def) rows) ≡ map (row_statement def) rows
  row_statements [] = refl
  row_statements (row ∷ rows) =
      ap₂ (λ (o : Option Statement) (rest : List Statement). option_to_list o ++ rest) (ap (λ (o : Option TableDef). option_and_then (λ d. Some (row_statement d row)) o) at) (row_statements rows)

one_dumped : (c : Catalog) (x : Table) → def_at c x.def.number ≡ Some x.def → is_whole (listing_of x) ≡ true → table_statements c x ≡ plain x
one_dumped c x at whole =
    let good = good_of (listing_of x) whole in
    ap (λ (ss : List Statement). (create_table x.def ∷ ss) ++ commit_of x.rows)
    (flat_map-append (written c) (map index_made x.indexes) (map (row_made x.def) x.rows)
    ∙ ap₂ (λ (a b : List Statement). a ++ b) (index_statements c x.def at 1 x.indexes good.indexes) (row_statements c x.def at x.rows))

module _ (t : Tables) where
  by_tables : (low high : ℕ) (xs : List Table) → ((n : ℕ) → low < n → table_at t n ≡ find (λ z. n == z.def.number) xs) → ascend low (numbers_of (map listing_of xs)) high ≡ true
      → list_all is_whole (map listing_of xs) ≡ true → flat_map (table_statements (catalog_of t)) xs ≡ flat_map plain xs
  by_tables low high [] at up whole = refl
  by_tables low high (x ∷ xs) at up whole =
      ap₂ (λ (ss rest : List Statement). ss ++ rest) (one_dumped (catalog_of t) x (def_is t x.def.number x found) parts.0) (by_tables x.def.number high xs later b.rest parts.1)
    where
      b : Begins low x.def.number (numbers_of (map listing_of xs)) high
      b = begins low x.def.number (numbers_of (map listing_of xs)) high up

      parts : (is_whole (listing_of x) ≡ true) × (list_all is_whole (map listing_of xs) ≡ true)
      parts = and_parts (is_whole (listing_of x)) (list_all is_whole (map listing_of xs)) whole

      found : table_at t x.def.number ≡ Some x
      found = at x.def.number b.above ∙ ap (λ z. cond z (Some x) (find (λ y. x.def.number == y.def.number) xs)) (eq-eqb x.def.number x.def.number refl)

      later : (n : ℕ) → x.def.number < n → table_at t n ≡ find (λ z. n == z.def.number) xs
      later n above =
          let low_too : low < n = (let low_below = b.above in omega arith) in
          at n low_too ∙ ap (λ z. cond z (Some x) (find (λ y. n == y.def.number) xs)) (ne_eqb n x.def.number (λ e. omega arith))

  pub all_plain : IsTables t → dumped t ≡ flat_map plain t.tables
  all_plain ok =
      by_tables 0 t.next t.tables (λ n above. refl) (and_parts (nat_le 1 t.next) (ascend 0 (numbers_of (map listing_of t.tables)) t.next) ok.catalog.order).1 ok.catalog.tables
