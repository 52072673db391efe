-- The rows of a query's answer have values of the types that the checks found.
use Rattle.std.proofs.Common.{◌≡◌, ℕ, zero, suc, nat_lt, Bool, true, false, not, ◌&&◌, if◌then◌else◌, List, [], ◌∷◌, ◌++◌, map, filter, length, Option, Some, None, slice_index_or, is_some, refl, sym, ap, ◌∙◌}
use Rattle.std.specs.List.{list_any, list_all, flat_map, filter_map}
use Rattle.std.specs.Option.{option_map, option_and_then, option_map_or}
use Rattle.std.specs.declared.cmp.Ordering.{Ordering}
use Rattle.std.specs.Ordering.{is_gt}
use Rattle.std.specs.Cmp.Lexicographic.{pointwise}
use Rattle.std.proofs.lemmas.Bool.{and_parts, and_from}
use Rattle.sqlite_keyed.specs.Lists.{insert_sorted, sort_by}
use Rattle.wat_value.specs.declared.value.Value.{Value}
use Rattle.wat_value.specs.declared.definition.Column.{Column}
use Rattle.wat_value.specs.declared.definition.TableDef.{TableDef}
use Rattle.wat_value.specs.Fits.{value_in}
use Rattle.wat_value.specs.Order.{key_cmp}
use Rattle.wat_ast.specs.declared.expression.Expr.{Expr}
use Rattle.wat_ast.specs.declared.query.SelectItems.{SelectItems}
use Rattle.wat_ast.specs.declared.query.SelectItems.TheVariants as items
use Rattle.wat_ast.specs.declared.query.Source.{Source}
use Rattle.wat_ast.specs.declared.query.OrderItem.{OrderItem}
use Rattle.wat_ast.specs.declared.query.Query.{Query}
use Rattle.wat_walk.specs.Queries.{listed, is_grouped}
use Rattle.wat_schema.specs.declared.refusal.Refusal.{Refusal}
use Rattle.wat_schema.specs.declared.refusal.Refusal.TheVariants.{NoTable}
use Rattle.wat_schema.specs.Catalog.{Name, Catalog, table_named, def_at}
use Rattle.wat_schema.specs.Tables.{Row, Table, Tables, catalog_of, table_at}
use Rattle.wat_schema.proofs.RowOrder as rows
use Rattle.wat_types.specs.declared.typing.ExprType.{ExprType}
use Rattle.wat_scope.specs.Scope.{Scope, query_scope, visible}
use Rattle.wat_names.specs.Columns.{needed, needed_sources}
use Rattle.wat_types.specs.Types.{ColumnTypes, typing_of}
use Rattle.wat_typing.specs.Rules.{column_type, types_of, type_at, types_in, typings, kinds, shown_types, query_types}
use Rattle.wat_expr.specs.declared.outcome.Outcome.{Outcome}
use Rattle.wat_expr.specs.declared.outcome.Outcome.TheVariants as o
use Rattle.wat_expr.specs.Evaluation.{Combination, Over, over, outcome_of}
use Rattle.wat_group.specs.declared.answer.Finished.{Finished}
use Rattle.wat_group.specs.declared.answer.Finished.TheVariants as finished
use Rattle.wat_group.specs.declared.line.Line.{Line}
use Rattle.wat_value.specs.Order.{key_eq}
use Rattle.wat_group.specs.Order.{order_keys_cmp}
use Rattle.wat_group.specs.Query.{first_of_each, value_of, values_of, all_values, keys_at, in_key_order, items_at, line_at, group_values, group_keys, groups, over_all, groups_at, is_kept, fails, lines, ordered, distinct_if, answer_over}
use Rattle.wat_meaning.specs.Meaning.{product, passes, rows_called, table_called, combinations, passed, where_fails, def_called, source_defs, answer}
use Rattle.wat_meaning.proofs.Typed.{is_of, AreOf, AllAreOf, GroupIsOf, sound}
use Rattle.wat_meaning.proofs.Passed.{type_at_is, listed_def, def_stands}
use Rattle.wat_meaning.proofs.Fitting.{has_kind, is_typed}
use Rattle.wat_meaning.proofs.Updating.{kind_is, typed_at}

-- ---- lists of which each item passes

module _ {X : Type 0} (p : X → Bool) where
  all_inserted : (cmp : X → X → Ordering) (x : X) (xs : List X) → p x ≡ true → list_all p xs ≡ true → list_all p (insert_sorted cmp x xs) ≡ true
  all_inserted cmp x [] h all = and_from (p x) true h refl
  all_inserted cmp x (y ∷ ys) h all =
      let q = and_parts (p y) (list_all p ys) all in
      either (is_gt (cmp x y)) (and_from (p y) (list_all p (insert_sorted cmp x ys)) q.0 (all_inserted cmp x ys h q.1)) (and_from (p x) (list_all p (y ∷ ys)) h all)
    where
      either : (b : Bool) → list_all p (y ∷ insert_sorted cmp x ys) ≡ true → list_all p (x ∷ y ∷ ys) ≡ true → list_all p (if b then y ∷ insert_sorted cmp x ys else x ∷ y ∷ ys) ≡ true
      either true a b = a
      either false a b = b

  pub all_sorted : (cmp : X → X → Ordering) (xs : List X) → list_all p xs ≡ true → list_all p (sort_by cmp xs) ≡ true
  all_sorted cmp [] all = refl
  all_sorted cmp (x ∷ xs) all = let q = and_parts (p x) (list_all p xs) all in all_inserted cmp x (sort_by cmp xs) q.0 (all_sorted cmp xs q.1)

  all_first : (same : X → X → Bool) (xs : List X) → list_all p xs ≡ true → list_all p (first_of_each same xs) ≡ true
  all_first same [] all = refl
  all_first same (x ∷ xs) all =
      let q = and_parts (p x) (list_all p xs) all in
      and_from (p x) (list_all p (filter (λ y. not (same x y)) (first_of_each same xs))) q.0
      (rows.list_all-filter p (λ y. not (same x y)) (first_of_each same xs) (all_first same xs q.1))

pub all_mapped : {X Y : Type 0} (p : X → Bool) (q : Y → Bool) (f : X → Y) → ((x : X) → p x ≡ true → q (f x) ≡ true) → (xs : List X) → list_all p xs ≡ true → list_all q (map f xs) ≡ true
all_mapped p q f goes [] all = refl
all_mapped p q f goes (x ∷ xs) all = let a = and_parts (p x) (list_all p xs) all in and_from (q (f x)) (list_all q (map f xs)) (goes x a.0) (all_mapped p q f goes xs a.1)

-- ---- combinations of fitting rows

-- a row of each table, typed by its definition
abbrev pub rows_fit : List TableDef → Combination → Bool
rows_fit [] [] = true
rows_fit [] (r ∷ rs) = false
rows_fit (d ∷ ds) [] = false
rows_fit (d ∷ ds) (None ∷ rs) = false
rows_fit (d ∷ ds) (Some row ∷ rs) = is_typed d.columns row && rows_fit ds rs

abbrev pub is_typed_table : Table → Bool
is_typed_table x = list_all (is_typed x.def.columns) x.rows

with_row : (d : TableDef) (ds : List TableDef) (rest : List Combination) → list_all (rows_fit ds) rest ≡ true → (rs : List Row) → list_all (is_typed d.columns) rs ≡ true
    → list_all (rows_fit (d ∷ ds)) (flat_map (λ row. map (λ more. Some row ∷ more) rest) rs) ≡ true
with_row d ds rest all [] fit = refl
with_row d ds rest all (r ∷ rs) fit =
    let p = and_parts (is_typed d.columns r) (list_all (is_typed d.columns) rs) fit in
    rows.list_all-append (rows_fit (d ∷ ds)) (map (λ more. Some r ∷ more) rest) (flat_map (λ row. map (λ more. Some row ∷ more) rest) rs)
    (all_mapped (rows_fit ds) (rows_fit (d ∷ ds)) (λ more. Some r ∷ more) (λ more is. and_from (is_typed d.columns r) (rows_fit ds more) p.0 is) rest all)
    (with_row d ds rest all rs p.1)

-- a table that is called is the one whose definition is
pub called_defs : (t : Tables) (name : Name) → def_called (catalog_of t) name ≡ option_map (λ x. x.def) (table_called t name)
called_defs t name = by (table_named (catalog_of t) name)
  where
    by : (o : Option ℕ) → option_and_then (def_at (catalog_of t)) o ≡ option_map (λ x. x.def) (option_and_then (table_at t) o)
    by None = refl
    by (Some n) = listed_def n t.tables

abbrev pub defs_of : Catalog → List Source → List TableDef
defs_of c sources = filter_map (λ source. def_called c source.table) sources

abbrev pub product_of : Tables → List Source → List Combination
product_of t sources = product (map (λ source. rows_called t source.table) sources)

-- every table has rows that are typed by its definition
abbrev pub AreTyped : Tables → Type 0
AreTyped t = (n : ℕ) (x : Table) → table_at t n ≡ Some x → is_typed_table x ≡ true

product_fits : (t : Tables) → AreTyped t → (sources : List Source) → list_all (rows_fit (defs_of (catalog_of t) sources)) (product_of t sources) ≡ true
product_fits t typed [] = refl
product_fits t typed (s ∷ ss) = by (table_named (catalog_of t) s.table) refl (product_fits t typed ss)
  where
    stands : (n : ℕ) (o : Option Table) → table_named (catalog_of t) s.table ≡ Some n → table_at t n ≡ o → list_all (rows_fit (defs_of (catalog_of t) ss)) (product_of t ss) ≡ true
        → list_all (rows_fit (defs_of (catalog_of t) (s ∷ ss))) (product_of t (s ∷ ss)) ≡ true
    stands n None e h rest =
        let none : table_called t s.table ≡ None = ap (option_and_then (table_at t)) e ∙ h in
        rw none refl
    stands n (Some x) e h rest =
        let called : table_called t s.table ≡ Some x = ap (option_and_then (table_at t)) e ∙ h in
        let def : def_called (catalog_of t) s.table ≡ Some x.def = called_defs t s.table ∙ ap (option_map (λ z. z.def)) called in
        rw (called, def) (with_row x.def (defs_of (catalog_of t) ss) (product_of t ss) rest x.rows (typed n x h))

    by : (o : Option ℕ) → table_named (catalog_of t) s.table ≡ o → list_all (rows_fit (defs_of (catalog_of t) ss)) (product_of t ss) ≡ true
        → list_all (rows_fit (defs_of (catalog_of t) (s ∷ ss))) (product_of t (s ∷ ss)) ≡ true
    by None e rest =
        let none : table_called t s.table ≡ None = ap (option_and_then (table_at t)) e in
        rw none refl
    by (Some n) e rest = stands n (table_at t n) e refl rest

-- the combinations that pass have typed rows
pub passed_fits : (t : Tables) → AreTyped t → (q : Query) (met : List Combination) → passed t q ≡ Some met → list_all (rows_fit (source_defs (catalog_of t) q)) met ≡ true
unfolding passed
passed_fits t typed q met h = by (list_any (where_fails q.filter) (combinations t q)) h
  where
    by : (failed : Bool) → (if failed then None else Some (filter (passes q.filter) (combinations t q))) ≡ Some met → list_all (rows_fit (source_defs (catalog_of t) q)) met ≡ true
    by true k = cc
    by false k =
        let is : filter (passes q.filter) (combinations t q) ≡ met = cc in
        ap (list_all (rows_fit (source_defs (catalog_of t) q))) (sym is)
        ∙ rows.list_all-filter (rows_fit (source_defs (catalog_of t) q)) (passes q.filter) (combinations t q) (product_fits t typed q.sources)

-- ---- the sources and their tables

-- each source stands for the table beside it
abbrev Aligned : Catalog → Scope → List TableDef → Type 0
Aligned c [] [] = Unit {0}
Aligned c [] (d ∷ ds) = ⊥
Aligned c (s ∷ ss) [] = ⊥
Aligned c (s ∷ ss) (d ∷ ds) = ((n : ℕ) × (s.table ≡ Some n) × (def_at c n ≡ Some d)) × Aligned c ss ds

are_of : (c : Catalog) (scope : Scope) (defs : List TableDef) (rows : Combination) → Aligned c scope defs → rows_fit defs rows ≡ true → AreOf (types_of c scope) rows
are_of c [] [] [] al fit source column = refl
are_of c [] [] (r ∷ rs) al fit source column = cc
are_of c [] (d ∷ ds) rs al fit source column = absurd al
are_of c (s ∷ ss) [] rs al fit source column = absurd al
are_of c (s ∷ ss) (d ∷ ds) [] al fit source column = cc
are_of c (s ∷ ss) (d ∷ ds) (None ∷ rs) al fit source column = cc
are_of c (s ∷ ss) (d ∷ ds) (Some row ∷ rs) al fit zero column =
    let p = and_parts (is_typed d.columns row) (rows_fit ds rs) fit in
    ap (λ (n : Option ℕ). is_of (type_at c n column) (value_in row column)) al.0.1
    ∙ ap (λ (type : ExprType). is_of type (value_in row column)) (type_at_is c al.0.0 d column al.0.2) ∙ typed_at d.columns row column p.0
are_of c (s ∷ ss) (d ∷ ds) (Some row ∷ rs) al fit (suc source) column =
    are_of c ss ds rs al.1 (and_parts (is_typed d.columns row) (rows_fit ds rs) fit).1 source column

pub none_are : (columns : ColumnTypes) → AreOf columns []
none_are columns source column = refl

-- the sources of which each table stands
pub aligned : (c : Catalog) (sources : List Source) → flat_map (λ source. needed c source.table) sources ≡ [] → Aligned c (map (visible c) sources) (defs_of c sources)
unfolding visible
aligned c [] none = tt
aligned c (s ∷ ss) none = by (table_named c s.table) refl none (λ later. aligned c ss later)
  where
    more : List Refusal
    more = flat_map (λ source. needed c source.table) ss

    stands : (n : ℕ) (o : Option TableDef) → table_named c s.table ≡ Some n → def_at c n ≡ o → is_some o ≡ true → Aligned c (map (visible c) ss) (defs_of c ss) → Aligned c (map (visible c) (s ∷ ss)) (defs_of c (s ∷ ss))
    stands n None e h is rest = cc
    stands n (Some def) e h is rest =
        let called : def_called c s.table ≡ Some def = ap (option_and_then (def_at c)) e ∙ h in
        rw called ((n, e, h), rest)

    by : (o : Option ℕ) → table_named c s.table ≡ o → (if is_some (table_named c s.table) then [] else NoTable s.table ∷ []) ++ more ≡ [] → (more ≡ [] → Aligned c (map (visible c) ss) (defs_of c ss))
        → Aligned c (map (visible c) (s ∷ ss)) (defs_of c (s ∷ ss))
    by None e h rest = absurd (let no : NoTable s.table ∷ more ≡ [] = ap (λ (o : Option ℕ). (if is_some o then [] else NoTable s.table ∷ []) ++ more) (sym e) ∙ h in cc)
    by (Some n) e h rest =
        let later : more ≡ [] = ap (λ (o : Option ℕ). (if is_some o then [] else NoTable s.table ∷ []) ++ more) (sym e) ∙ h in
        stands n (def_at c n) e refl (def_stands c s.table n e) (rest later)

-- ---- lines

-- the rows that were found have values of these types
abbrev pub FoundAre : List ExprType → Finished → Type 0
FoundAre types finished.Arithmetic = Unit {0}
FoundAre types (finished.Rows values) = list_all (pointwise is_of types) values ≡ true

-- the values of a line go by the types
abbrev line_is : List ExprType → Line → Bool
line_is types line = pointwise is_of types line.row

abbrev shown_at : Over → SelectItems → List Outcome
shown_at at items.Star = map o.Is (all_values at.rows)
shown_at at (items.List exprs) = map (λ e. outcome_of e at) exprs

items_are : (distinct : Bool) (shown : SelectItems) (sources : List Source) (test : Option Expr) (group : List Expr) (having : Option Expr) (order : List OrderItem) (at : Over)
    → items_at (record { distinct = distinct; items = shown; sources = sources; filter = test; group = group; having = having; order = order }) at ≡ shown_at at shown
items_are distinct items.Star sources test group having order at = refl
items_are distinct (items.List exprs) sources test group having order at = refl

listed_is : (columns : ColumnTypes) (exprs : List Expr) (at : Over) → AreOf columns at.rows → GroupIsOf columns at.group
    → pointwise is_of (kinds (map (typing_of columns) exprs)) (values_of (map (λ e. outcome_of e at) exprs)) ≡ true
listed_is columns [] at are group = refl
listed_is columns (x ∷ xs) at are group =
    and_from (is_of (typing_of columns x).kind (value_of (outcome_of x at))) (pointwise is_of (kinds (map (typing_of columns) xs)) (values_of (map (λ e. outcome_of e at) xs)))
    (sound columns x at are group) (listed_is columns xs at are group)

values_again : (vs : List Value) → values_of (map o.Is vs) ≡ vs
values_again [] = refl
values_again (w ∷ ws) = ap (λ (rest : List Value). w ∷ rest) (values_again ws)

pointwise_both : (a b : List ExprType) (x y : List Value) → pointwise is_of a x ≡ true → pointwise is_of b y ≡ true → pointwise is_of (a ++ b) (x ++ y) ≡ true
pointwise_both [] b [] y h g = g
pointwise_both [] b (w ∷ ws) y h g = cc
pointwise_both (t ∷ ts) b [] y h g = cc
pointwise_both (t ∷ ts) b (w ∷ ws) y h g =
    let p = and_parts (is_of t w) (pointwise is_of ts ws) h in
    and_from (is_of t w) (pointwise is_of (ts ++ b) (ws ++ y)) p.0 (pointwise_both ts b ws y p.1 g)

row_types : (columns : List Column) (row : Row) → is_typed columns row ≡ true → pointwise is_of (map column_type columns) row ≡ true
row_types [] [] h = refl
row_types [] (w ∷ ws) h = cc
row_types (c ∷ cs) [] h = cc
row_types (c ∷ cs) (w ∷ ws) h =
    let p = and_parts (has_kind c w) (is_typed cs ws) h in
    and_from (is_of (column_type c) w) (pointwise is_of (map column_type cs) ws) (kind_is c.kind w p.0) (row_types cs ws p.1)

-- all values of a combination go by the types of all columns
star_is : (c : Catalog) (scope : Scope) (defs : List TableDef) (rows : Combination) → Aligned c scope defs → rows_fit defs rows ≡ true
    → pointwise is_of (flat_map (λ visible. types_in c visible.table) scope) (all_values rows) ≡ true
star_is c [] [] [] al fit = refl
star_is c [] [] (r ∷ rs) al fit = cc
star_is c [] (d ∷ ds) rows al fit = absurd al
star_is c (s ∷ ss) [] rs al fit = absurd al
star_is c (s ∷ ss) (d ∷ ds) [] al fit = cc
star_is c (s ∷ ss) (d ∷ ds) (None ∷ rs) al fit = cc
star_is c (s ∷ ss) (d ∷ ds) (Some row ∷ rs) al fit =
    let p = and_parts (is_typed d.columns row) (rows_fit ds rs) fit in
    let types : types_in c s.table ≡ map column_type d.columns =
    ap (types_in c) al.0.1 ∙ ap (λ (o : Option TableDef). map column_type (option_map_or (λ d. d.columns) o [])) al.0.2 in
    pointwise_both (types_in c s.table) (flat_map (λ visible. types_in c visible.table) ss) row (all_values rs)
    (ap (λ (ts : List ExprType). pointwise is_of ts row) types ∙ row_types d.columns row p.0) (star_is c ss ds rs al.1 p.1)

module _ (c : Catalog) (scope : Scope) (defs : List TableDef) (al : Aligned c scope defs) (q : Query) where
  -- the types of the answer's columns
  abbrev types : List ExprType
  types = shown_types c scope q.items (typings c scope (listed q.items))

  one_line : (at : Over) → AreOf (types_of c scope) at.rows → GroupIsOf (types_of c scope) at.group
      → (q.items ≡ items.Star → pointwise is_of (flat_map (λ visible. types_in c visible.table) scope) (all_values at.rows) ≡ true) → line_is types (line_at q at) ≡ true
  unfolding shown_types
  one_line at are group star =
      ap (λ (os : List Outcome). pointwise is_of types (values_of os)) (items_are q.distinct q.items q.sources q.filter q.group q.having q.order at) ∙ by q.items refl
    where
      by : (shown : SelectItems) → q.items ≡ shown → pointwise is_of (shown_types c scope shown (typings c scope (listed shown))) (values_of (shown_at at shown)) ≡ true
      by items.Star e = ap (pointwise is_of (flat_map (λ visible. types_in c visible.table) scope)) (values_again (all_values at.rows)) ∙ star e
      by (items.List exprs) e = listed_is (types_of c scope) exprs at are group

  all_are : (group : List Combination) → list_all (rows_fit defs) group ≡ true → AllAreOf (types_of c scope) group
  all_are [] fit = tt
  all_are (r ∷ rs) fit = let p = and_parts (rows_fit defs r) (list_all (rows_fit defs) rs) fit in (are_of c scope defs r al p.0, all_are rs p.1)

  first_is : (group : List Combination) → list_all (rows_fit defs) group ≡ true → AreOf (types_of c scope) (slice_index_or group 0 [])
  first_is [] fit = none_are (types_of c scope)
  first_is (r ∷ rs) fit = are_of c scope defs r al (and_parts (rows_fit defs r) (list_all (rows_fit defs) rs) fit).0

  groups_fit : (met : List Combination) → list_all (rows_fit defs) met ≡ true → list_all (list_all (rows_fit defs)) (groups q met) ≡ true
  groups_fit met fit = by (nat_lt 0 (length q.group))
    where
      classes : (keys : List Row) → list_all (list_all (rows_fit defs)) (map (λ key. filter (λ r. key_eq key (group_values q r)) met) keys) ≡ true
      classes [] = refl
      classes (key ∷ keys) =
          and_from (list_all (rows_fit defs) (filter (λ r. key_eq key (group_values q r)) met)) (list_all (list_all (rows_fit defs)) (map (λ key. filter (λ r. key_eq key (group_values q r)) met) keys))
          (rows.list_all-filter (rows_fit defs) (λ r. key_eq key (group_values q r)) met fit) (classes keys)

      by : (b : Bool) → list_all (list_all (rows_fit defs)) (if b then map (λ key. filter (λ r. key_eq key (group_values q r)) met) (group_keys q met) else met ∷ []) ≡ true
      by true = classes (group_keys q met)
      by false = and_from (list_all (rows_fit defs) met) true fit refl

  lines_are : (met : List Combination) → list_all (rows_fit defs) met ≡ true → (is_grouped q ≡ true → ¬ (q.items ≡ items.Star)) → list_all (line_is types) (lines q met) ≡ true
  lines_are met fit no_star = by (is_grouped q) refl
    where
      grouped : is_grouped q ≡ true → (group : List Combination) → list_all (rows_fit defs) group ≡ true → line_is types (line_at q (over_all group)) ≡ true
      grouped g group h = one_line (over_all group) (first_is group h) (all_are group h) (λ e. absurd (no_star g e))

      by : (b : Bool) → is_grouped q ≡ b → list_all (line_is types) (if b then map (line_at q) (filter (is_kept q) (groups_at q met)) else map (λ r. line_at q (over r)) met) ≡ true
      by true g =
          all_mapped (λ at. line_is types (line_at q at)) (line_is types) (line_at q) (λ at h. h) (filter (is_kept q) (groups_at q met))
          (rows.list_all-filter (λ at. line_is types (line_at q at)) (is_kept q) (groups_at q met)
          (all_mapped (list_all (rows_fit defs)) (λ at. line_is types (line_at q at)) over_all (grouped g) (groups q met) (groups_fit met fit)))
      by false g = all_mapped (rows_fit defs) (line_is types) (λ r. line_at q (over r)) (λ r h. one_line (over r) (are_of c scope defs r al h) tt (λ e. star_is c scope defs r al h)) met fit

  finished_are : (met : List Combination) → list_all (rows_fit defs) met ≡ true → (is_grouped q ≡ true → ¬ (q.items ≡ items.Star)) → FoundAre types (answer_over q met)
  unfolding answer_over
  finished_are met fit no_star = by (fails q met)
    where
      in_turn : list_all (pointwise is_of types) (map (λ line. line.row) (ordered (lines q met))) ≡ true
      in_turn = all_mapped (line_is types) (pointwise is_of types) (λ line. line.row) (λ line h. h) (ordered (lines q met))
          (all_sorted (line_is types) (λ a b. order_keys_cmp a.order b.order) (lines q met) (lines_are met fit no_star))

      distinct : (b : Bool) → list_all (pointwise is_of types) (distinct_if b (map (λ line. line.row) (ordered (lines q met)))) ≡ true
      distinct true = all_first (pointwise is_of types) key_eq (map (λ line. line.row) (ordered (lines q met))) in_turn
      distinct false = in_turn

      by : (b : Bool) → FoundAre types (if b then finished.Arithmetic else finished.Rows (distinct_if q.distinct (map (λ line. line.row) (ordered (lines q met)))))
      by true = tt
      by false = distinct q.distinct

-- the answer of a query whose tables stand, over combinations of typed rows
pub answer_is : (c : Catalog) (q : Query) (met : List Combination) → needed_sources c q ≡ [] → (is_grouped q ≡ true → ¬ (q.items ≡ items.Star)) → list_all (rows_fit (source_defs c q)) met ≡ true
    → FoundAre (query_types c q) (answer c q met)
answer_is c q met none no_star fit =
    finished_are c (query_scope c q) defs (aligned c q.sources none) q (in_key_order defs met) (all_sorted (rows_fit defs) (λ a b. key_cmp (keys_at defs a) (keys_at defs b)) met fit) no_star
  where
    defs : List TableDef
    defs = source_defs c q
