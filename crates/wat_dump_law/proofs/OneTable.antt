-- A table is made behind others, with its indexes and its rows.
use Rattle.std.proofs.Common.{◌≡◌, ℕ, suc, ◌+◌, ◌==◌, ◌<◌, ◌≤◌, ◌&&◌, true, false, List, [], ◌∷◌, ◌++◌, map, length, refl, ap, subst, ◌∙◌, append-nil, arith}
use Rattle.std.specs.List.{list_all, list_any}
use Rattle.std.specs.Str.{bytes_eq}
use Rattle.std.proofs.lemmas.Bool.{and_parts, and_from, eq-eqb}
use Rattle.wat_list.specs.Rising.{rising}
use Rattle.wat_value.specs.declared.definition.TableDef.{TableDef}
use Rattle.wat_value.specs.declared.definition.IndexDef.{IndexDef}
use Rattle.wat_value.specs.Fits.{fits}
use Rattle.wat_ast.specs.declared.statement.Statement.{Statement}
use Rattle.wat_schema.specs.Catalog.{Name, repeats}
use Rattle.wat_schema.specs.Stored.{are_indexes, is_index, is_whole}
use Rattle.wat_schema.specs.Tables.{Table, by_key, is_table, listing_of}
use Rattle.wat_schema.proofs.Again.{good_of, length-map_of, next_of}
use Rattle.wat_written.specs.Written.{create_index, create_table}
use Rattle.wat_dump.specs.Dump.{index_made, makings, row_made, table_made}
use Rattle.wat_dump_law.specs.Anew.{numbered, of_number, with_number}
use Rattle.wat_dump_law.proofs.Last.{indexes_go, last, names_in, none_has, rows_go, table_goes}
use Rattle.wat_dump_law.proofs.Plain.{plain, plain_same, row_statement}
use Rattle.wat_dump_law.proofs.Steps.{Goes, goes_both, goes_commit}

abbrev name_of : IndexDef → Name
name_of index = index.name

-- indexes of a table that is numbered anew
pub indexes_good : (n : ℕ) (def : TableDef) (number : ℕ) (indexes : List IndexDef) → are_indexes def number indexes ≡ true → are_indexes (with_number n def) number (map (of_number n) indexes) ≡ true
indexes_good n def number [] good = refl
indexes_good n def number (index ∷ indexes) good =
    let is = next_of def number index indexes good in
    and_from ((index.number == number) && (n == n) && is_index def index) (are_indexes (with_number n def) (suc number) (map (of_number n) indexes))
    (and_from ((index.number == number) && (n == n)) (is_index def index) (and_from (index.number == number) (n == n) (eq-eqb index.number number is.number_is) (eq-eqb n n refl)) is.good)
    (indexes_good n def (suc number) indexes is.rest)

pub names_same : (n : ℕ) (indexes : List IndexDef) → map name_of (map (of_number n) indexes) ≡ map name_of indexes
names_same n [] = refl
names_same n (index ∷ indexes) = ap (λ (ns : List Name). index.name ∷ ns) (names_same n indexes)

-- what is asked of a table that is made behind others
pub record MayFollow (done : List Table) (x : Table) (names : List Name) (n : ℕ) : Type 0 where
  pub none : none_has n done
  pub name : list_any (bytes_eq x.def.name) (map (λ z. z.def.name) done) ≡ false
  pub few : length done < 1000
  pub small : n ≤ 1000
  pub whole : is_whole (listing_of x) ≡ true
  pub rows : is_table x ≡ true
  pub indexes : repeats bytes_eq (names_in done ++ (map name_of x.indexes ++ names)) ≡ false

pub one_table : (done : List Table) (x : Table) (names : List Name) (n : ℕ) → MayFollow done x names n
    → Goes (record { tables = done; next = n }) (makings (numbered n x)) (plain x) (last done (numbered n x) (n + 1))
one_table done x names n may =
    let y = numbered n x in
    let bare : Table = record { def = y.def; indexes = []; rows = [] } in
    let with_indexes : Table = record { def = y.def; indexes = y.indexes; rows = [] } in
    let good = good_of (listing_of x) may.whole in
    let stands = and_parts (list_all (fits x.def) x.rows) (rising (by_key x.def) x.rows) may.rows in
    let long = length-map_of (of_number n) x.indexes in
    let small = good.few in
    let once : repeats bytes_eq ((names_in done ++ []) ++ (map name_of y.indexes ++ names)) ≡ false =
    ap (λ (ns : List Name). repeats bytes_eq (ns ++ (map name_of y.indexes ++ names))) (append-nil (names_in done))
    ∙ ap (λ (ns : List Name). repeats bytes_eq (names_in done ++ (ns ++ names))) (names_same n x.indexes) ∙ may.indexes in
    let table : Goes (record { tables = done; next = n }) (table_made y.def ∷ []) (create_table y.def ∷ []) (last done bare (n + 1)) = table_goes done y.def may.name may.few may.small good.definition in
    let indexes : Goes (last done bare (n + 1)) (map index_made y.indexes) (map (λ index. create_index index y.def) y.indexes) (last done with_indexes (n + 1)) =
    indexes_go done bare (n + 1) 1 y.indexes names may.none refl (indexes_good n x.def 1 x.indexes good.indexes) (omega arith) once in
    let rows : Goes (last done with_indexes (n + 1)) (map (row_made y.def) y.rows) (map (row_statement y.def) y.rows) (last done y (n + 1)) =
    rows_go done with_indexes (n + 1) y.rows may.none stands.0 stands.1 in
    subst (λ (ss : List Statement). Goes (record { tables = done; next = n }) (makings y) ss (last done y (n + 1))) (plain_same n x)
    (goes_commit (record { tables = done; next = n }) (last done y (n + 1)) (makings y) (create_table y.def ∷ (map (λ index. create_index index y.def) y.indexes ++ map (row_statement y.def) y.rows)) y.rows
    (goes_both (record { tables = done; next = n }) (last done bare (n + 1)) (last done y (n + 1)) (table_made y.def ∷ []) (map index_made y.indexes ++ map (row_made y.def) y.rows) (create_table y.def ∷ [])
    (map (λ index. create_index index y.def) y.indexes ++ map (row_statement y.def) y.rows) table
    (goes_both (last done bare (n + 1)) (last done with_indexes (n + 1)) (last done y (n + 1)) (map index_made y.indexes) (map (row_made y.def) y.rows) (map (λ index. create_index index y.def) y.indexes)
    (map (row_statement y.def) y.rows) indexes rows)))
