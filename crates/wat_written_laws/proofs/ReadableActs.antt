-- The statement of each act can be read.
use Rattle.std.proofs.Common.{◌≡◌, ℕ, ◌^◌, ◌==◌, nat_le, nat_lt, Bool, true, false, not, cond, ◌&&◌, ◌||◌, List, [], ◌∷◌, ◌++◌, length, map, Option, Some, None, is_none, slice_get, refl, sym, ap, ◌∙◌, inl, inr, arith, subst}
use Rattle.std.specs.List.{find, flat_map, list_all, list_any}
use Rattle.std.specs.Option.{option_and_then, option_map}
use Rattle.std.specs.Cmp.Lexicographic.{pointwise}
use Rattle.std.proofs.lemmas.Bool.{and_from, and_parts, cases_Bool, leb-true, lt-ltb, or_parts}
use Rattle.wat_word.specs.Words.{is_name}
use Rattle.wat_value.specs.declared.definition.Kind.{Kind}
use Rattle.wat_value.specs.declared.definition.Kind.TheVariants as k
use Rattle.wat_value.specs.declared.definition.Column.{Column}
use Rattle.wat_value.specs.declared.definition.TableDef.{TableDef}
use Rattle.wat_value.specs.declared.definition.IndexDef.{IndexDef}
use Rattle.wat_value.specs.declared.change.Change.{Change}
use Rattle.wat_value.specs.declared.change.Change.TheVariants as change
use Rattle.wat_value.specs.declared.change.SchemaChange.TheVariants as schema
use Rattle.wat_value.specs.declared.change.Act.{Act}
use Rattle.wat_value.specs.declared.change.Act.TheVariants.{OnRow, OnSchema}
use Rattle.wat_value.specs.Fits.{fits, fits_column, key_of}
use Rattle.wat_ast.specs.declared.expression.Expr.{Expr}
use Rattle.wat_ast.specs.declared.statement.Element.TheVariants as element
use Rattle.wat_ast.specs.declared.statement.InsertSource.TheVariants.{Values}
use Rattle.wat_ast.specs.declared.statement.SetItem.{SetItem}
use Rattle.wat_ast.specs.declared.statement.Statement.{Statement}
use Rattle.wat_ast.specs.declared.statement.Statement.TheVariants as s
use Rattle.wat_schema.specs.Catalog.{Name, Catalog, Listing, def_at, has_index_named, has_number, listing_at, listing_named, repeats}
use Rattle.wat_schema.specs.Definitions.{allows_index_here, allows_index_of, allows_table, bad_index, index_rules, is_bad_key, is_bad_length, is_definition, is_full, lacks_column, may_be_null, next_index, table_rules}
use Rattle.wat_schema.specs.Tables.{Row, Table, Tables, IsTables, after_delete, after_insert, after_update, apply, catalog_of, has_key, has_row}
use Rattle.wat_schema.proofs.Keeping.{none_broken}
use Rattle.wat_meaning.proofs.Fitting.{fits_typed}
use Rattle.wat_syntax.specs.Members.{has_members}
use Rattle.wat_spell_laws.specs.Readable.{are_all, is_readable, is_readable_element, is_readable_expression, is_readable_set, is_readable_type, is_so}
use Rattle.wat_written.specs.Written.{column_element, create_index, create_table, literals, names_at, sets_of, statement_of, statement_of_change, type_of, update, where_key}
use Rattle.wat_written_laws.specs.Named.{act_named, all_named, has_names}
use Rattle.wat_written_laws.proofs.Alters.{allowed}
use Rattle.wat_written_laws.proofs.Changes.{applied, changed}
use Rattle.wat_written_laws.proofs.Columns.{listing_of_def}
use Rattle.wat_written_laws.proofs.Inserts.{as_many}
use Rattle.wat_written_laws.proofs.Keys.{Defined, Stands, are_columns, defined, key_columns, row_fits, stands_defined, stands_of}
use Rattle.wat_written_laws.proofs.Readables.{are_tests, names_readable, readable_row, sets_readable, some_names, tests_readable}
use Rattle.wat_written_laws.proofs.Sets.{sets_are}
use Rattle.wat_written_laws.proofs.Tests.{AreColumns}

if_true : {X : Type 0} (b : Bool) (x y : X) → cond b (Some x) None ≡ Some y → b ≡ true
if_true true x y h = refl
if_true false x y h = cc

found_passes : (n : ℕ) (ts : List Listing) (l : Listing) → list_all (λ t. has_names t.def) ts ≡ true → find (has_number n) ts ≡ Some l → has_names l.def ≡ true
found_passes n [] l all h = cc
found_passes n (t ∷ ts) l all h =
    let p = and_parts (has_names t.def) (list_all (λ t. has_names t.def) ts) all in
    let found : cond (has_number n t) (Some t) (find (has_number n) ts) ≡ Some l = h in
    elim (cases_Bool (has_number n t)) [
      | inl here ↦
          let same : Some t ≡ Some l = rw here at found in
          let it : t ≡ l = cc in
          ap (λ (z : Listing). has_names z.def) (sym it) ∙ p.0
      | inr other ↦ found_passes n ts l p.1 (rw other at found)
    ]

names_of_def : (c : Catalog) (n : ℕ) (def : TableDef) → all_named c ≡ true → def_at c n ≡ Some def → has_names def ≡ true
names_of_def c n def all at =
    let l = listing_of_def c n def at in
    ap has_names (sym l.2) ∙ found_passes n c.tables l.0 all l.1

words : (def : TableDef) → has_names def ≡ true → (is_name def.name ≡ true) × (list_all (λ c. is_name c.name) def.columns ≡ true)
words def h = and_parts (is_name def.name) (list_all (λ c. is_name c.name) def.columns) h

-- ---- lists with members

-- a list that is not empty
record Some_of (ns : List ℕ) : Type 0 where
  first : ℕ
  rest : List ℕ
  is : ns ≡ first ∷ rest

some_of : (ns : List ℕ) → (length ns == 0) ≡ false → Some_of ns
some_of [] h = cc
some_of (n ∷ ns) h = record { first = n; rest = ns; is = refl }

some_key : (full : Bool) (def : TableDef) → Defined full def → Some_of def.key
some_key full def d = by def.key refl
  where
    counted : (not (length (def.key ∷ []) == 1) || (length (flat_map (λ key. key) (def.key ∷ [])) == 0)) ≡ false
    counted = none_broken (table_rules full def.columns (def.key ∷ [])) 1 1 _ d.sound refl

    by : (ns : List ℕ) → def.key ≡ ns → Some_of def.key
    by [] e = absurd (let no : true ≡ false = sym (ap (λ (ns : List ℕ). not (length (ns ∷ []) == 1) || (length (flat_map (λ key. key) (ns ∷ [])) == 0)) e) ∙ counted in cc)
    by (n ∷ ns) e = record { first = n; rest = ns; is = e }

names_have_members : (def : TableDef) → list_all (λ c. is_name c.name) def.columns ≡ true → (ns : List ℕ) → Some_of ns → AreColumns def ns → has_members (names_at def ns) ≡ true
names_have_members def named ns some columns =
    ap (λ ns. has_members (names_at def ns)) some.is ∙ some_names def named some.first some.rest (subst (AreColumns def) some.is columns)

-- ---- changes of rows

row_has_members : (columns : List Column) (row : Row) (i : ℕ) (column : Column) → slice_get columns i ≡ Some column → pointwise fits_column columns row ≡ true → has_members (literals row) ≡ true
row_has_members [] row i column at h = cc
row_has_members (c ∷ cs) [] i column at h = cc
row_has_members (c ∷ cs) (w ∷ row) i column at h = refl

has_a_column : (def : TableDef) (ns : List ℕ) → Some_of ns → AreColumns def ns → (i : ℕ) × (column : Column) × (slice_get def.columns i ≡ Some column)
has_a_column def ns some columns = let h = subst (AreColumns def) some.is columns in (some.first, h.0.0, h.0.1)

update_readable : (name : Name) (sets : List SetItem) (test : Option Expr) (written : Statement) → update name sets test ≡ Some written → is_name name ≡ true → list_all is_readable_set sets ≡ true
    → is_so is_readable_expression test ≡ true → is_readable written ≡ true
update_readable name [] test written h a b c = cc
update_readable name (set ∷ sets) test written h a b c =
    let it : s.Update name (set ∷ sets) test ≡ written = cc in
    ap is_readable (sym it) ∙ and_from (is_name name) (list_all is_readable_set (set ∷ sets) && is_so is_readable_expression test) a (and_from (list_all is_readable_set (set ∷ sets)) (is_so is_readable_expression test) b c)

module _ (t : Tables) (n : ℕ) (x : Table) (is : Stands t n x) (d : Defined false x.def) (named : has_names x.def ≡ true) where
  where_readable : (row : Row) → fits x.def row ≡ true → is_so is_readable_expression (where_key x.def row) ≡ true
  where_readable row fit = tests_readable _ (are_tests x.def (words x.def named).1 row fit x.def.key is.key)

  row_readable : (row : Row) → fits x.def row ≡ true → are_all is_readable_expression (literals row) ≡ true
  row_readable row fit =
      let column = has_a_column x.def x.def.key (some_key false x.def d) is.key in
      and_from (has_members (literals row)) (list_all is_readable_expression (literals row)) (row_has_members x.def.columns row column.0 column.1 column.2 fit) (readable_row x.def.columns row fit)

change_readable : (t u : Tables) (written : Statement) (c : Change) → IsTables t → apply (OnRow c) t ≡ Some u → all_named (catalog_of t) ≡ true → statement_of (catalog_of t) (OnRow c) ≡ Some written → is_readable written ≡ true
change_readable t u written (change.Insert n row) ok applies named is =
    let c = changed t u n (after_insert row) applies in
    let stands = stands_of t n c.x ok c.at in
    let names = names_of_def (catalog_of t) n c.x.def named stands.at in
    let d = stands_defined (catalog_of t) n c.x.def ok.catalog stands.at in
    let same : Some (s.Insert c.x.def.name None (Values (literals row))) ≡ Some written = sym (ap (option_and_then (λ (d : TableDef). statement_of_change d (change.Insert n row))) stands.at) ∙ is in
    let it : s.Insert c.x.def.name None (Values (literals row)) ≡ written = cc in
    let fit = and_parts (fits c.x.def row) (not (has_key c.x (key_of c.x.def row))) (if_true (fits c.x.def row && not (has_key c.x (key_of c.x.def row))) _ _ c.is) in
    ap is_readable (sym it)
    ∙ and_from (is_name c.x.def.name) (are_all is_readable_expression (literals row)) (words c.x.def names).0 (row_readable t n c.x stands d names row fit.0)
change_readable t u written (change.Update n before after) ok applies named is =
    let c = changed t u n (after_update before after) applies in
    let stands = stands_of t n c.x ok c.at in
    let names = names_of_def (catalog_of t) n c.x.def named stands.at in
    let d = stands_defined (catalog_of t) n c.x.def ok.catalog stands.at in
    let same : update c.x.def.name (sets_of c.x.def after) (where_key c.x.def before) ≡ Some written =
    sym (ap (option_and_then (λ (d : TableDef). statement_of_change d (change.Update n before after))) stands.at) ∙ is in
    let a = applied c.x before after c.y c.is in
    let many = as_many c.x.def.columns after (fits_typed c.x.def.columns after a.fit) in
    update_readable c.x.def.name (sets_of c.x.def after) (where_key c.x.def before) written same (words c.x.def names).0
    (ap (list_all is_readable_set) (sets_are c.x.def after many) ∙ sets_readable c.x.def (words c.x.def names).1 after a.fit 0 c.x.def.columns after (words c.x.def names).1 a.fit)
    (where_readable t n c.x stands d names before (row_fits t n c.x before stands a.has))
change_readable t u written (change.Delete n row) ok applies named is =
    let c = changed t u n (after_delete row) applies in
    let stands = stands_of t n c.x ok c.at in
    let names = names_of_def (catalog_of t) n c.x.def named stands.at in
    let d = stands_defined (catalog_of t) n c.x.def ok.catalog stands.at in
    let same : Some (s.Delete c.x.def.name (where_key c.x.def row)) ≡ Some written = sym (ap (option_and_then (λ (d : TableDef). statement_of_change d (change.Delete n row))) stands.at) ∙ is in
    let it : s.Delete c.x.def.name (where_key c.x.def row) ≡ written = cc in
    let has : has_row c.x row ≡ true = if_true (has_row c.x row) _ _ c.is in
    ap is_readable (sym it)
    ∙ and_from (is_name c.x.def.name) (is_so is_readable_expression (where_key c.x.def row)) (words c.x.def names).0 (where_readable t n c.x stands d names row (row_fits t n c.x row stands has))

-- ---- changes of the schema

unless : (b : Bool) → not b ≡ false → b ≡ true
unless true g = refl
unless false g = cc

short_length : (n : ℕ) → not (nat_le 1 n && nat_le n 2000) ≡ false → nat_lt n (2 ^ 63) ≡ true
short_length n h =
    let most = leb-true _ _ (and_parts (nat_le 1 n) (nat_le n 2000) (unless (nat_le 1 n && nat_le n 2000) h)).1 in
    lt-ltb n (2 ^ 63) (omega arith)

kind_readable : (kind : Kind) → is_bad_length kind ≡ false → is_readable_type (type_of kind) ≡ true
kind_readable k.Integer h = refl
kind_readable (k.Char n) h = short_length n h
kind_readable (k.Varchar n) h = short_length n h

columns_readable : (columns : List Column) (names : List Name) → list_any (λ c. is_bad_length c.kind) columns ≡ false → list_all (λ c. is_name c.name) columns ≡ true → are_all is_name names ≡ true
    → list_all is_readable_element (map column_element columns ++ element.Key names ∷ []) ≡ true
columns_readable [] names short named key = and_from (are_all is_name names) true key refl
columns_readable (c ∷ cs) names short named key =
    let p = or_parts (is_bad_length c.kind) (list_any (λ c. is_bad_length c.kind) cs) short in
    let q = and_parts (is_name c.name) (list_all (λ c. is_name c.name) cs) named in
    and_from (is_name c.name && is_readable_type (type_of c.kind)) (list_all is_readable_element (map column_element cs ++ element.Key names ∷ []))
    (and_from (is_name c.name) (is_readable_type (type_of c.kind)) q.0 (kind_readable c.kind p.0)) (columns_readable cs names p.1 q.1 key)

elements_are_some : (columns : List Column) (names : List Name) → has_members (map column_element columns ++ element.Key names ∷ []) ≡ true
elements_are_some [] names = refl
elements_are_some (c ∷ cs) names = refl

table_readable : (c : Catalog) (def : TableDef) → allows_table c def ≡ true → has_names def ≡ true → is_readable (create_table def) ≡ true
table_readable c def may named =
    let outer = and_parts (def.number == c.next && is_none (listing_named c def.name)) (is_definition (is_full c) def) may in
    let d = defined (is_full c) def outer.1 in
    let key = key_columns (is_full c) def d in
    let w = words def named in
    let short = none_broken (table_rules (is_full c) def.columns (def.key ∷ [])) 1 4 (list_any (λ column. is_bad_length column.kind) def.columns) d.sound refl in
    and_from (is_name def.name) (are_all is_readable_element (map column_element def.columns ++ element.Key (names_at def def.key) ∷ [])) w.0
    (and_from (has_members (map column_element def.columns ++ element.Key (names_at def def.key) ∷ [])) (list_all is_readable_element (map column_element def.columns ++ element.Key (names_at def def.key) ∷ []))
    (elements_are_some def.columns (names_at def def.key))
    (columns_readable def.columns (names_at def def.key) short w.1
    (and_from (has_members (names_at def def.key)) (list_all is_name (names_at def def.key)) (names_have_members def w.1 def.key (some_key (is_full c) def d) key) (names_readable def w.1 def.key key))))

index_readable : (l : Listing) (index : IndexDef) → is_none (bad_index l index.columns) ≡ true → has_names l.def ≡ true → is_name index.name ≡ true → is_readable (create_index index l.def) ≡ true
index_readable l index sound named word =
    let w = words l.def named in
    let columns = are_columns l.def index.columns
    (or_parts (repeats ◌==◌ index.columns) (lacks_column l.def.columns index.columns) (none_broken (index_rules l index.columns) 1 0 (is_bad_key l.def.columns index.columns) sound refl)).1
    (none_broken (index_rules l index.columns) 1 1 (may_be_null l.def.columns index.columns) sound refl) in
    let count = or_parts (length index.columns == 0) (nat_lt 16 (length index.columns)) (none_broken (index_rules l index.columns) 1 2 ((length index.columns == 0) || nat_lt 16 (length index.columns)) sound refl) in
    and_from (is_name index.name) (is_name l.def.name && are_all is_name (names_at l.def index.columns)) word
    (and_from (is_name l.def.name) (are_all is_name (names_at l.def index.columns)) w.0
    (and_from (has_members (names_at l.def index.columns)) (list_all is_name (names_at l.def index.columns)) (names_have_members l.def w.1 index.columns (some_of index.columns count.0) columns) (names_readable l.def w.1 index.columns columns)))

pub act_readable : (t u : Tables) (written : Statement) (act : Act) → IsTables t → apply act t ≡ Some u → all_named (catalog_of t) ≡ true → act_named act ≡ true → statement_of (catalog_of t) act ≡ Some written
    → is_readable written ≡ true
act_readable t u written (OnRow c) ok applies named word is = change_readable t u written c ok applies named is
act_readable t u written (OnSchema (schema.CreateTable def)) ok applies named word is =
    let it : create_table def ≡ written = cc in
    ap is_readable (sym it) ∙ table_readable (catalog_of t) def (allowed (schema.CreateTable def) t u applies) word
act_readable t u written (OnSchema (schema.DropTable n)) ok applies named word is = by (def_at (catalog_of t) n) refl is
  where
    by : (o : Option TableDef) → def_at (catalog_of t) n ≡ o → option_map (λ d. s.DropTable d.name) o ≡ Some written → is_readable written ≡ true
    by None e h = cc
    by (Some def) e h =
        let it : s.DropTable def.name ≡ written = cc in
        ap is_readable (sym it) ∙ (words def (names_of_def (catalog_of t) n def named e)).0
act_readable t u written (OnSchema (schema.CreateIndex index)) ok applies named word is = by (listing_at (catalog_of t) index.table) refl
  where
    parts : (allows_index_of index (listing_at (catalog_of t) index.table) ≡ true) × (not (has_index_named (catalog_of t) index.name) ≡ true)
    parts = and_parts (allows_index_of index (listing_at (catalog_of t) index.table)) (not (has_index_named (catalog_of t) index.name)) (allowed (schema.CreateIndex index) t u applies)

    by : (o : Option Listing) → listing_at (catalog_of t) index.table ≡ o → is_readable written ≡ true
    by None e = absurd (let no : false ≡ true = sym (ap (allows_index_of index) e) ∙ parts.0 in cc)
    by (Some l) e =
        let here : allows_index_here index l ≡ true = sym (ap (allows_index_of index) e) ∙ parts.0 in
        let p = and_parts (index.number == next_index l) (is_none (bad_index l index.columns)) here in
        let at : def_at (catalog_of t) index.table ≡ Some l.def = ap (option_map (λ (z : Listing). z.def)) e in
        let same : Some (create_index index l.def) ≡ Some written = sym (ap (option_map (create_index index)) at) ∙ is in
        let it : create_index index l.def ≡ written = cc in
        ap is_readable (sym it) ∙ index_readable l index p.1 (names_of_def (catalog_of t) index.table l.def named at) word
