-- The statement of a table that is created.
use Rattle.std.proofs.Common.{◌≡◌, ℕ, pos, suc, ◌==◌, nat_le, Bool, true, false, not, ◌&&◌, if◌then◌else◌, List, [], ◌∷◌, ◌++◌, length, map, Option, Some, None, Ok, is_none, is_some, slice_get, unwrap_or, refl, sym, ap, ap₂, ◌∙◌, append-nil, inl, inr, arith}
use Rattle.std.specs.List.{cons_option, filter_map, flat_map, list_any}
use Rattle.std.specs.Option.{option_map}
use Rattle.std.specs.Str.{bytes_eq}
use Rattle.std.proofs.lemmas.Bool.{and_parts, cases_Bool, eqb-true, leb-true, lt-ltb, or_parts, or_from}
use Rattle.wat_value.specs.declared.definition.Kind.{Kind}
use Rattle.wat_value.specs.declared.definition.Kind.TheVariants as k
use Rattle.wat_value.specs.declared.definition.Column.{Column}
use Rattle.wat_value.specs.declared.definition.TableDef.{TableDef}
use Rattle.wat_value.specs.declared.change.SchemaChange.TheVariants as change
use Rattle.wat_value.specs.declared.change.Act.TheVariants.{OnSchema}
use Rattle.wat_ast.specs.declared.statement.Element.{Element}
use Rattle.wat_ast.specs.declared.statement.Element.TheVariants as element
use Rattle.wat_ast.specs.declared.statement.Statement.{Statement}
use Rattle.wat_schema.specs.declared.refusal.Refusal.{Refusal}
use Rattle.wat_schema.specs.declared.refusal.Refusal.TheVariants.{TableExists}
use Rattle.wat_schema.specs.Catalog.{Name, Catalog, Listing, listing_named, ordinal, repeats, table_named}
use Rattle.wat_schema.specs.Definitions.{allows_table, bad_definition, bad_table, is_bad_length, is_definition, is_full, number_named, same_name, table_rules}
use Rattle.wat_schema.specs.Tables.{Tables, IsTables, apply, catalog_of}
use Rattle.wat_schema.proofs.Keeping.{none_broken}
use Rattle.wat_names.specs.Refusals.{first, or_refused}
use Rattle.wat_names.specs.Columns.{name_refusals}
use Rattle.wat_rules.specs.Changes.{column_of, keys_of, kind_of, length_of, made_table, with_key}
use Rattle.wat_rules.specs.Check.{check, refusals}
use Rattle.wat_rules.specs.Rules.{bad_table_refusals, table_rule}
use Rattle.wat_meaning.specs.declared.reply.Reply.TheVariants.{Created}
use Rattle.wat_meaning.specs.Meaning.{Made.Altering, done, made, meaning, meaning_checked}
use Rattle.wat_meaning.proofs.Inserting.{same_bytes}
use Rattle.wat_spell_laws.specs.AsRead.{statement_as_read}
use Rattle.wat_written.specs.Written.{column_element, create_table, names_at, statement_of, type_of}
use Rattle.wat_written_laws.specs.Meant.{meant}
use Rattle.wat_written_laws.proofs.Alters.{allowed, altering}
use Rattle.wat_written_laws.proofs.Columns.{ordinal_is}
use Rattle.wat_written_laws.proofs.Keys.{Defined, defined, key_columns, named_apart}
use Rattle.wat_written_laws.proofs.Sets.{Stand, stand}
use Rattle.wat_written_laws.proofs.Tests.{AreColumns}

-- ---- the columns as they are written

same_length : (n : ℕ) → not (nat_le 1 n && nat_le n 2000) ≡ false → length_of (pos n) ≡ n
same_length n h =
    let both : (nat_le 1 n && nat_le n 2000) ≡ true = unless (nat_le 1 n && nat_le n 2000) h in
    let most = leb-true _ _ (and_parts (nat_le 1 n) (nat_le n 2000) both).1 in
    ap (λ b. if b then n else 0) (lt-ltb n 65536 (omega arith))
  where
    unless : (b : Bool) → not b ≡ false → b ≡ true
    unless true g = refl
    unless false g = cc

same_kind : (kind : Kind) → is_bad_length kind ≡ false → kind_of (type_of kind) ≡ kind
same_kind k.Integer h = refl
same_kind (k.Char n) h = ap k.Char (same_length n h)
same_kind (k.Varchar n) h = ap k.Varchar (same_length n h)

columns_read : (columns : List Column) (names : List Name) → list_any (λ column. is_bad_length column.kind) columns ≡ false
    → filter_map column_of (map column_element columns ++ element.Key names ∷ []) ≡ columns
columns_read [] names h = refl
columns_read (column ∷ columns) names h =
    let p = or_parts (is_bad_length column.kind) (list_any (λ column. is_bad_length column.kind) columns) h in
    ap₂ (λ (kind : Kind) (rest : List Column). record { name = column.name; kind = kind; nullable = column.nullable } ∷ rest) (same_kind column.kind p.0) (columns_read columns names p.1)

keys_read : (columns : List Column) (names : List Name) → keys_of (map column_element columns ++ element.Key names ∷ []) ≡ names ∷ []
keys_read [] names = refl
keys_read (column ∷ columns) names = keys_read columns names

-- ---- its key

numbers_read : (def : TableDef) → repeats same_name def.columns ≡ false → (ns : List ℕ) → AreColumns def ns → map (number_named def.columns) (names_at def ns) ≡ ns
numbers_read def once [] h = refl
numbers_read def once (i ∷ ns) h =
    let column = h.0.0 in
    ap (λ (o : Option Name). map (number_named def.columns) (cons_option o (names_at def ns))) (ap (option_map (λ (z : Column). z.name)) h.0.1)
    ∙ ap₂ (λ (m : ℕ) (rest : List ℕ). m ∷ rest) (ap (λ (o : Option ℕ). unwrap_or o (length def.columns)) (ordinal_is def i column once h.0.1)) (numbers_read def once ns h.1)

-- a column that takes Null is none of the key
other_name : (def : TableDef) → repeats same_name def.columns ≡ false → (j : ℕ) (column : Column) → slice_get def.columns j ≡ Some column → column.nullable ≡ true
    → (i : ℕ) (key : Column) → slice_get def.columns i ≡ Some key → key.nullable ≡ false → bytes_eq key.name column.name ≡ false
other_name def once j column at takes i key is strict = elim (cases_Bool (bytes_eq key.name column.name)) [
  | inl same ↦
      let one : Some i ≡ Some j = sym (ordinal_is def i key once is) ∙ ap (ordinal def) (same_bytes key.name column.name same) ∙ ordinal_is def j column once at in
      let place : i ≡ j = cc in
      let it : Some key ≡ Some column = sym is ∙ ap (slice_get def.columns) place ∙ at in
      let equal : key ≡ column = cc in
      absurd (let no : false ≡ true = sym strict ∙ ap (λ (z : Column). z.nullable) equal ∙ takes in cc)
  | inr other ↦ other
]

no_key : (def : TableDef) → repeats same_name def.columns ≡ false → (j : ℕ) (column : Column) → slice_get def.columns j ≡ Some column → column.nullable ≡ true
    → (ns : List ℕ) → AreColumns def ns → list_any (λ name. bytes_eq name column.name) (names_at def ns) ≡ false
no_key def once j column at takes [] h = refl
no_key def once j column at takes (i ∷ ns) h =
    ap (λ (o : Option Name). list_any (λ name. bytes_eq name column.name) (cons_option o (names_at def ns))) (ap (option_map (λ (z : Column). z.name)) h.0.1)
    ∙ or_from (bytes_eq h.0.0.name column.name) (list_any (λ name. bytes_eq name column.name) (names_at def ns)) (other_name def once j column at takes i h.0.0 h.0.1 h.0.2) (no_key def once j column at takes ns h.1)

kept : (names : List Name) (column : Column) → (column.nullable ≡ true → list_any (λ name. bytes_eq name column.name) names ≡ false) → with_key names column ≡ column
unfolding with_key
kept names column h = ap (λ (b : Bool). record { name = column.name; kind = column.kind; nullable = b }) (by column.nullable (list_any (λ name. bytes_eq name column.name) names) h)
  where
    by : (b in_key : Bool) → (b ≡ true → in_key ≡ false) → (b && not in_key) ≡ b
    by false in_key g = refl
    by true in_key g = ap not (g refl)

columns_kept : (def : TableDef) → repeats same_name def.columns ≡ false → (ns : List ℕ) → AreColumns def ns → (j : ℕ) (columns : List Column) → Stand def j columns
    → map (with_key (names_at def ns)) columns ≡ columns
columns_kept def once ns key j [] h = refl
columns_kept def once ns key j (column ∷ columns) h =
    ap₂ (λ (c : Column) (rest : List Column). c ∷ rest) (kept (names_at def ns) column (λ takes. no_key def once j column h.0 takes ns key)) (columns_kept def once ns key (suc j) columns h.1)

-- ---- the law

none_is : (o : Option ℕ) → is_none o ≡ true → o ≡ None
none_is None h = refl
none_is (Some n) h = cc

none_named : (c : Catalog) (name : Name) → is_none (listing_named c name) ≡ true → table_named c name ≡ None
none_named c name h = by (listing_named c name) h
  where
    by : (o : Option Listing) → is_none o ≡ true → option_map (λ t. t.def.number) o ≡ None
    by None g = refl
    by (Some l) g = cc

module _ (c : Catalog) (def : TableDef) (may : allows_table c def ≡ true) where
  outer : ((def.number == c.next && is_none (listing_named c def.name)) ≡ true) × (is_definition (is_full c) def ≡ true)
  outer = and_parts (def.number == c.next && is_none (listing_named c def.name)) (is_definition (is_full c) def) may

  inner : ((def.number == c.next) ≡ true) × (is_none (listing_named c def.name) ≡ true)
  inner = and_parts (def.number == c.next) (is_none (listing_named c def.name)) outer.0

  good : Defined (is_full c) def
  good = defined (is_full c) def outer.1

  apart : repeats same_name def.columns ≡ false
  apart = named_apart (is_full c) def good

  key : AreColumns def def.key
  key = key_columns (is_full c) def good

  abbrev names : List Name
  names = names_at def def.key

  abbrev elements : List Element
  elements = map column_element def.columns ++ element.Key names ∷ []

  columns_are : filter_map column_of elements ≡ def.columns
  columns_are = columns_read def.columns names (none_broken (table_rules (is_full c) def.columns (def.key ∷ [])) 1 4 (list_any (λ column. is_bad_length column.kind) def.columns) good.sound refl)

  keys_are : keys_of elements ≡ names ∷ []
  keys_are = keys_read def.columns names

  no_name : name_refusals c (create_table def) ≡ []
  unfolding name_refusals
  no_name = ap (λ (o : Option ℕ). (if is_some o then TableExists def.name ∷ [] else []) ++ [] ++ [] ++ []) (none_named c def.name inner.1)

  rule_is : table_rule c elements ≡ None
  unfolding table_rule
  rule_is =
      ap₂ (bad_table c) columns_are keys_are
      ∙ ap (λ (numbers : List ℕ). bad_definition (is_full c) def.columns (numbers ∷ [])) (numbers_read def apart def.key key)
      ∙ none_is (bad_definition (is_full c) def.columns (def.key ∷ [])) good.sound

  table_through : check c (create_table def) ≡ Ok (create_table def)
  unfolding check refusals
  table_through = ap₂ (λ (fs gs : List Refusal). or_refused (create_table def) (first (fs ++ gs))) no_name (ap bad_table_refusals rule_is)

  made_is : made_table c.next def.name (filter_map column_of elements) (flat_map (λ key. key) (keys_of elements)) ≡ def
  made_is =
      ap₂ (λ (columns : List Column) (keys : List (List Name)). made_table c.next def.name columns (flat_map (λ key. key) keys)) columns_are keys_are
      ∙ ap (made_table c.next def.name def.columns) (append-nil names)
      ∙ ap₂ (λ (columns : List Column) (numbers : List ℕ). record { number = c.next; name = def.name; columns = columns; key = numbers }) (columns_kept def apart def.key key 0 def.columns (stand def)) (numbers_read def apart def.key key)
      ∙ ap (λ (n : ℕ). record { number = n; name = def.name; columns = def.columns; key = def.key }) (sym (eqb-true def.number c.next inner.0))

table_done : (t : Tables) (def : TableDef) → allows_table (catalog_of t) def ≡ true → meaning_checked t (create_table def) ≡ done t (Altering Created (Some (change.CreateTable def)))
unfolding meaning_checked made
table_done t def may = ap (λ (d : TableDef). done t (Altering Created (Some (change.CreateTable d)))) (made_is (catalog_of t) def may)

pub table_law : (t u : Tables) (written : Statement) (def : TableDef) → IsTables t → apply (OnSchema (change.CreateTable def)) t ≡ Some u → statement_of (catalog_of t) (OnSchema (change.CreateTable def)) ≡ Some written
    → meaning t (statement_as_read written) ≡ meant (OnSchema (change.CreateTable def))
table_law t u written def ok applies is =
    let may = allowed (change.CreateTable def) t u applies in
    let it : create_table def ≡ written = cc in
    ap (λ (z : Statement). meaning t (statement_as_read z)) (sym it)
    ∙ altering t Created (create_table def) (change.CreateTable def) (table_through (catalog_of t) def may) (table_done t def may)
