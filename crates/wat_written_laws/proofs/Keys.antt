-- The row with a key: WHERE of its key columns passes it alone.
use Rattle.std.proofs.Common.{◌≡◌, ℕ, zero, suc, ◌<◌, ◌==◌, nat_le, Bool, true, false, not, cond, ◌&&◌, ◌||◌, if◌then◌else◌, List, [], ◌∷◌, ◌++◌, map, filter, length, Option, Some, None, is_none, slice_get, refl, sym, ap, ap₂, ◌∙◌, inl, inr, arith}
use Rattle.std.specs.List.{find, list_all, list_any, flat_map}
use Rattle.std.specs.Ordering.{is_lt}
use Rattle.std.proofs.lemmas.Bool.{and_parts, cases_Bool, leb-false, or_parts}
use Rattle.wat_value.specs.declared.definition.Column.{Column}
use Rattle.wat_value.specs.declared.definition.TableDef.{TableDef}
use Rattle.wat_value.specs.Fits.{fits, key_of, value_in}
use Rattle.wat_value.specs.Order.{key_cmp, key_eq}
use Rattle.wat_value.specs.OrderLaws.{key_cmp_refl}
use Rattle.wat_ast.specs.declared.expression.Expr.{Expr}
use Rattle.wat_schema.specs.Catalog.{Name, Catalog, def_at, repeats, table_named}
use Rattle.wat_schema.specs.Definitions.{bad_definition, is_bad_key, is_definition, lacks_column, may_be_null, same_name, table_rules, takes_null}
use Rattle.wat_schema.specs.Stored.{IsCatalog, are_indexes}
use Rattle.wat_schema.specs.Tables.{Row, Table, Tables, IsTables, by_key, catalog_of, has_row, is_table, rising, row_eq, rows_or_none, table_at}
use Rattle.wat_schema.proofs.Found.{whole_at}
use Rattle.wat_schema.proofs.Keeping.{none_broken}
use Rattle.wat_expr.specs.Evaluation.{Combination, over}
use Rattle.wat_expr.specs.Logic.{is_error, is_true, truth}
use Rattle.wat_group.specs.Query.{condition_at}
use Rattle.wat_meaning.specs.Meaning.{alone, combinations, passed, passes, product, rows_where, table_called, where_fails}
use Rattle.wat_meaning.proofs.Applying.{equal, itself}
use Rattle.wat_written.specs.Written.{all_of}
use Rattle.wat_written_laws.proofs.Columns.{called_is, def_is, listing_of_def, table_named_is}
use Rattle.wat_written_laws.proofs.Tests.{AreColumns, placed_test, tests_hold}

-- ---- the columns of the primary key

there : (columns : List Column) (n : ℕ) → n < length columns → (column : Column) × (slice_get columns n ≡ Some column)
there [] n h = absurd (omega arith)
there (c ∷ cs) zero h = (c, refl)
there (c ∷ cs) (suc n) h = there cs n (omega arith)

strict_at : (o : Option Column) (column : Column) → o ≡ Some column → takes_null o ≡ false → column.nullable ≡ false
strict_at None column is h = cc
strict_at (Some d) column is h = let it : d ≡ column = cc in ap (λ (z : Column). z.nullable) (sym it) ∙ h

pub are_columns : (def : TableDef) (ns : List ℕ) → lacks_column def.columns ns ≡ false → may_be_null def.columns ns ≡ false → AreColumns def ns
are_columns def [] lacks null = tt
are_columns def (n ∷ ns) lacks null =
    let a = or_parts (nat_le (length def.columns) n) (lacks_column def.columns ns) lacks in
    let b = or_parts (takes_null (slice_get def.columns n)) (may_be_null def.columns ns) null in
    let at_most = leb-false _ _ a.0 in
    let column = there def.columns n (omega arith) in
    ((column.0, column.1, strict_at (slice_get def.columns n) column.0 column.1 b.0), are_columns def ns a.1 b.1)

not_true : (b : Bool) → not b ≡ true → b ≡ false
not_true true h = cc
not_true false h = refl

-- what a definition of a table is
pub record Defined (full : Bool) (def : TableDef) : Type 0 where
  pub strict : may_be_null def.columns def.key ≡ false
  pub sound : is_none (bad_definition full def.columns (def.key ∷ [])) ≡ true

pub defined : (full : Bool) (def : TableDef) → is_definition full def ≡ true → Defined full def
defined full def h =
    let p = and_parts (not (may_be_null def.columns def.key)) (is_none (bad_definition full def.columns (def.key ∷ []))) h in
    record { strict = not_true (may_be_null def.columns def.key) p.0; sound = p.1 }

append-none : (ns : List ℕ) → ns ++ [] ≡ ns
append-none [] = refl
append-none (n ∷ ns) = ap (λ rest. n ∷ rest) (append-none ns)

pub named_apart : (full : Bool) (def : TableDef) → Defined full def → repeats same_name def.columns ≡ false
named_apart full def d = none_broken (table_rules full def.columns (def.key ∷ [])) 1 0 (repeats same_name def.columns) d.sound refl

good_key : (full : Bool) (def : TableDef) → Defined full def → is_bad_key def.columns def.key ≡ false
good_key full def d =
    ap (is_bad_key def.columns) (sym (append-none def.key))
    ∙ none_broken (table_rules full def.columns (def.key ∷ [])) 1 2 (is_bad_key def.columns (flat_map (λ key. key) (def.key ∷ []))) d.sound refl

pub key_columns : (full : Bool) (def : TableDef) → Defined full def → AreColumns def def.key
key_columns full def d =
    are_columns def def.key (or_parts (repeats ◌==◌ def.key) (lacks_column def.columns def.key) (good_key full def d)).1 d.strict

-- a definition that stands
pub stands_defined : (c : Catalog) (n : ℕ) (def : TableDef) → IsCatalog c → def_at c n ≡ Some def → Defined false def
stands_defined c n def ok at =
    let l = listing_of_def c n def at in
    let whole = whole_at c n l.0 ok l.1 in
    let d = and_parts (is_definition false l.0.def) (nat_le (length l.0.indexes) 8) (and_parts (is_definition false l.0.def && nat_le (length l.0.indexes) 8) (are_indexes l.0.def 1 l.0.indexes) whole).0 in
    defined false def (ap (is_definition false) (sym l.2) ∙ d.0)

-- ---- rows in key order

other_key : (a b : Row) → is_lt (key_cmp a b) ≡ true → key_eq b a ≡ false
other_key a b less = elim (cases_Bool (key_eq b a)) [
  | inl same ↦ absurd (let no : false ≡ true = sym (ap is_lt (key_cmp_refl a)) ∙ ap (λ z. is_lt (key_cmp a z)) (sym (equal b a same)) ∙ less in cc)
  | inr other ↦ other
]

other_back : (a b : Row) → is_lt (key_cmp a b) ≡ true → key_eq a b ≡ false
other_back a b less = elim (cases_Bool (key_eq a b)) [
  | inl same ↦ absurd (let no : false ≡ true = sym (ap is_lt (key_cmp_refl b)) ∙ ap (λ z. is_lt (key_cmp z b)) (sym (equal a b same)) ∙ less in cc)
  | inr other ↦ other
]

module _ (def : TableDef) (row : Row) where
  abbrev pub has_it : Row → Bool
  has_it r = key_eq (key_of def r) (key_of def row)

  none_above : (rows : List Row) → list_all (λ r. is_lt (by_key def row r)) rows ≡ true → filter has_it rows ≡ []
  none_above [] h = refl
  none_above (r ∷ rows) h =
      let p = and_parts (is_lt (by_key def row r)) (list_all (λ r. is_lt (by_key def row r)) rows) h in
      ap (λ b. cond b (r ∷ filter has_it rows) (filter has_it rows)) (other_key (key_of def row) (key_of def r) p.0) ∙ none_above rows p.1

  among : (x : Row) (rows : List Row) → list_all (λ r. is_lt (by_key def x r)) rows ≡ true → list_any (row_eq row) rows ≡ true → is_lt (by_key def x row) ≡ true
  among x [] a b = cc
  among x (r ∷ rows) a b =
      let p = and_parts (is_lt (by_key def x r)) (list_all (λ r. is_lt (by_key def x r)) rows) a in
      elim (cases_Bool (row_eq row r)) [
        | inl here ↦ ap (λ z. is_lt (by_key def x z)) (equal row r here) ∙ p.0
        | inr other ↦ among x rows p.1 (let rest : (row_eq row r || list_any (row_eq row) rows) ≡ true = b in rw other at rest)
      ]

  -- of rows in key order one alone has the key of a row among them
  pub only_one : (rows : List Row) → rising (by_key def) rows ≡ true → list_any (row_eq row) rows ≡ true → filter has_it rows ≡ row ∷ []
  only_one [] up has = cc
  only_one (r ∷ rows) up has =
      let p = and_parts (list_all (λ z. is_lt (by_key def r z)) rows) (rising (by_key def) rows) up in
      elim (cases_Bool (row_eq row r)) [
        | inl here ↦
            let it : row ≡ r = equal row r here in
            let same : has_it r ≡ true = ap (λ z. key_eq (key_of def r) (key_of def z)) it ∙ itself (key_of def r) in
            let above : list_all (λ z. is_lt (by_key def row z)) rows ≡ true = ap (λ y. list_all (λ z. is_lt (by_key def y z)) rows) it ∙ p.0 in
            ap (λ b. cond b (r ∷ filter has_it rows) (filter has_it rows)) same ∙ ap₂ (λ (y : Row) (ys : List Row). y ∷ ys) (sym it) (none_above rows above)
        | inr other ↦
            let later : list_any (row_eq row) rows ≡ true = (let rest : (row_eq row r || list_any (row_eq row) rows) ≡ true = has in rw other at rest) in
            let less = among r rows p.0 later in
            ap (λ b. cond b (r ∷ filter has_it rows) (filter has_it rows)) (other_back (key_of def r) (key_of def row) less) ∙ only_one rows p.1 later
      ]

-- ---- what passes

sound : (b : Bool) → is_error (truth b) ≡ false
sound true = refl
sound false = refl

true_of : (b : Bool) → is_true (truth b) ≡ b
true_of true = refl
true_of false = refl

one_source : (rows : List Row) → product (rows ∷ []) ≡ map alone rows
one_source [] = refl
one_source (row ∷ rows) = ap (λ rest. alone row ∷ rest) (one_source rows)

module _ (test : Option Expr) (same : Row → Bool) (def : TableDef) (holds : (r : Row) → fits def r ≡ true → condition_at (over (alone r)) test ≡ truth (same r)) where
  none_fails : (rows : List Row) → list_all (fits def) rows ≡ true → list_any (where_fails test) (map alone rows) ≡ false
  none_fails [] h = refl
  none_fails (r ∷ rows) h =
      let p = and_parts (fits def r) (list_all (fits def) rows) h in
      ap₂ (λ a b. a || b) (ap is_error (holds r p.0) ∙ sound (same r)) (none_fails rows p.1)

  one_passes : (rows : List Row) → list_all (fits def) rows ≡ true → filter (passes test) (map alone rows) ≡ map alone (filter same rows)
  one_passes [] h = refl
  one_passes (r ∷ rows) h =
      let p = and_parts (fits def r) (list_all (fits def) rows) h in
      ap₂ (λ b (rest : List Combination). cond b (alone r ∷ rest) rest) (ap is_true (holds r p.0) ∙ true_of (same r)) (one_passes rows p.1) ∙ by (same r)
    where
      by : (b : Bool) → cond b (alone r ∷ map alone (filter same rows)) (map alone (filter same rows)) ≡ map alone (cond b (r ∷ filter same rows) (filter same rows))
      by true = refl
      by false = refl

  all_pass : (t : Tables) (name : Name) (x : Table) → table_called t name ≡ Some x → list_all (fits def) x.rows ≡ true → passed t (rows_where name test) ≡ Some (map alone (filter same x.rows))
  unfolding passed
  all_pass t name x called fit =
      let all : combinations t (rows_where name test) ≡ map alone x.rows = ap (λ (o : Option Table). product (rows_or_none o ∷ [])) called ∙ one_source x.rows in
      ap (λ (cs : List Combination). if list_any (where_fails test) cs then None else Some (filter (passes test) cs)) all
      ∙ ap₂ (λ b (cs : List Combination). if b then None else Some cs) (none_fails x.rows fit) (one_passes x.rows fit)

table_is : (n : ℕ) (x : Table) (xs : List Table) → list_all is_table xs ≡ true → find (λ z. n == z.def.number) xs ≡ Some x → is_table x ≡ true
table_is n x [] h k = cc
table_is n x (z ∷ zs) h k =
    let parts = and_parts (is_table z) (list_all is_table zs) h in
    let found : cond (n == z.def.number) (Some z) (find (λ w. n == w.def.number) zs) ≡ Some x = k in
    elim (cases_Bool (n == z.def.number)) [
      | inl here ↦
          let same : Some z ≡ Some x = rw here at found in
          let is : z ≡ x = cc in
          ap is_table (sym is) ∙ parts.0
      | inr other ↦ table_is n x zs parts.1 (rw other at found)
    ]

-- a table that stands, with what is known of it
pub record Stands (t : Tables) (n : ℕ) (x : Table) : Type 0 where
  pub at : def_at (catalog_of t) n ≡ Some x.def
  pub named : table_named (catalog_of t) x.def.name ≡ Some n
  pub called : table_called t x.def.name ≡ Some x
  pub once : repeats same_name x.def.columns ≡ false
  pub key : AreColumns x.def x.def.key
  pub fit : list_all (fits x.def) x.rows ≡ true
  pub up : rising (by_key x.def) x.rows ≡ true

pub stands_of : (t : Tables) (n : ℕ) (x : Table) → IsTables t → table_at t n ≡ Some x → Stands t n x
stands_of t n x ok at =
    let def = def_is t n x at in
    let d = stands_defined (catalog_of t) n x.def ok.catalog def in
    let p = and_parts (list_all (fits x.def) x.rows) (rising (by_key x.def) x.rows) (table_is n x t.tables ok.rows at) in
    record {
      at = def;
      named = table_named_is (catalog_of t) n x.def ok.catalog def;
      called = called_is t n x ok at;
      once = named_apart false x.def d;
      key = key_columns false x.def d;
      fit = p.0;
      up = p.1;
    }

fit_among : (def : TableDef) (row : Row) (rows : List Row) → list_all (fits def) rows ≡ true → list_any (row_eq row) rows ≡ true → fits def row ≡ true
fit_among def row [] h k = cc
fit_among def row (r ∷ rows) h k =
    let p = and_parts (fits def r) (list_all (fits def) rows) h in
    elim (cases_Bool (row_eq row r)) [
      | inl here ↦ ap (fits def) (equal row r here) ∙ p.0
      | inr other ↦ fit_among def row rows p.1 (let rest : (row_eq row r || list_any (row_eq row) rows) ≡ true = k in rw other at rest)
    ]

pub row_fits : (t : Tables) (n : ℕ) (x : Table) (row : Row) → Stands t n x → has_row x row ≡ true → fits x.def row ≡ true
row_fits t n x row is has = fit_among x.def row x.rows is.fit has

-- WHERE with its columns in their places
abbrev pub where_placed : TableDef → Row → Option Expr
where_placed def row = all_of (map (λ i. placed_test (value_in row i) i) def.key)

pub passes_alone : (t : Tables) (n : ℕ) (x : Table) (row : Row) → Stands t n x → has_row x row ≡ true → passed t (rows_where x.def.name (where_placed x.def row)) ≡ Some (alone row ∷ [])
passes_alone t n x row is has =
    all_pass (where_placed x.def row) (has_it x.def row) x.def
    (λ r fits_too. tests_hold (catalog_of t) n x.def is.named is.at is.once row (row_fits t n x row is has) r fits_too x.def.key is.key)
    t x.def.name x is.called is.fit
    ∙ ap (λ (rows : List Row). Some (map alone rows)) (only_one x.def row x.rows is.up has)
