-- The statements of changes of the schema: DROP TABLE and CREATE INDEX.
use Rattle.std.proofs.Common.{◌≡◌, ℕ, ◌==◌, Bool, true, false, not, if◌then◌else◌, List, [], ◌∷◌, ◌++◌, Option, Some, None, Ok, is_none, is_some, slice_get, refl, sym, ap, ap₂, ◌∙◌}
use Rattle.std.specs.List.{cons_option, filter_map, flat_map}
use Rattle.std.specs.Option.{option_and_then, option_map}
use Rattle.std.proofs.lemmas.Bool.{and_parts, eqb-true, or_parts}
use Rattle.wat_value.specs.declared.definition.Column.{Column}
use Rattle.wat_value.specs.declared.definition.TableDef.{TableDef}
use Rattle.wat_value.specs.declared.definition.IndexDef.{IndexDef}
use Rattle.wat_value.specs.declared.change.SchemaChange.{SchemaChange}
use Rattle.wat_value.specs.declared.change.SchemaChange.TheVariants as change
use Rattle.wat_value.specs.declared.change.Act.TheVariants.{OnSchema}
use Rattle.wat_ast.specs.declared.statement.Statement.{Statement}
use Rattle.wat_ast.specs.declared.statement.Statement.TheVariants as s
use Rattle.wat_schema.specs.declared.refusal.Refusal.{Refusal}
use Rattle.wat_schema.specs.declared.refusal.Refusal.TheVariants.{IndexExists, NoTable}
use Rattle.wat_schema.specs.Catalog.{Name, Catalog, Listing, column_at, def_at, has_index_named, listing_at, ordinal, repeats, table_named}
use Rattle.wat_schema.specs.Definitions.{allows, allows_index_here, allows_index_of, bad_index, bad_index_at, index_rules, is_bad_key, lacks_column, may_be_null, next_index, next_index_at, same_name}
use Rattle.wat_schema.specs.Stored.{IsCatalog}
use Rattle.wat_schema.specs.Tables.{Tables, IsTables, after_alter, apply, catalog_of}
use Rattle.wat_schema.proofs.Keeping.{none_broken}
use Rattle.wat_scope.specs.Scope.{Scope, table_scope}
use Rattle.wat_names.specs.Refusals.{first, or_refused}
use Rattle.wat_names.specs.Columns.{column_refusals, in_names, name_refusals, needed}
use Rattle.wat_rules.specs.Changes.{index_change, made_index, numbers_named}
use Rattle.wat_rules.specs.Check.{check, refusals}
use Rattle.wat_rules.specs.Rules.{bad_index_refusals, index_rule}
use Rattle.wat_meaning.specs.declared.reply.Reply.{Reply}
use Rattle.wat_meaning.specs.declared.reply.Reply.TheVariants.{Created, Dropped}
use Rattle.wat_meaning.specs.Meaning.{Made.Altering, after_check, done, made, meaning, meaning_checked}
use Rattle.wat_spell_laws.specs.AsRead.{statement_as_read}
use Rattle.wat_written.specs.Written.{create_index, name_at, names_at, statement_of}
use Rattle.wat_written_laws.specs.Meant.{meant}
use Rattle.wat_written_laws.proofs.Columns.{ordinal_is, table_named_is}
use Rattle.wat_written_laws.proofs.Keys.{are_columns, named_apart, stands_defined}
use Rattle.wat_written_laws.proofs.Tests.{AreColumns, not_refused}

pub allowed : (change : SchemaChange) (t u : Tables) → apply (OnSchema change) t ≡ Some u → allows change (catalog_of t) ≡ true
allowed change t u h = by (allows change (catalog_of t)) h
  where
    by : (b : Bool) → (if b then Some (after_alter change t) else None) ≡ Some u → b ≡ true
    by true k = refl
    by false k = absurd (let no : ◌≡◌ {A = Option Tables} None (Some u) = k in cc)

-- what a statement with no refusal and this change means
pub altering : (t : Tables) (reply : Reply) (statement : Statement) (change : SchemaChange) → check (catalog_of t) statement ≡ Ok statement
    → meaning_checked t statement ≡ done t (Altering reply (Some change)) → meaning t statement ≡ record { answer = reply; acts = OnSchema change ∷ [] }
unfolding meaning done
altering t reply statement change checked is = ap (after_check t) checked ∙ is

pub listing_def : (c : Catalog) (n : ℕ) (l : Listing) → listing_at c n ≡ Some l → def_at c n ≡ Some l.def
listing_def c n l at = ap (option_map (λ (z : Listing). z.def)) at

pub some_listing : (c : Catalog) (n : ℕ) → is_some (listing_at c n) ≡ true → (l : Listing) × (listing_at c n ≡ Some l)
some_listing c n h = by (listing_at c n) refl h
  where
    by : (o : Option Listing) → listing_at c n ≡ o → is_some o ≡ true → (l : Listing) × (listing_at c n ≡ Some l)
    by None e k = cc
    by (Some l) e k = (l, e)

needed_none : (c : Catalog) (n : ℕ) (name : Name) → table_named c name ≡ Some n → needed c name ≡ []
needed_none c n name named = ap (λ (o : Option ℕ). if is_some o then [] else NoTable name ∷ []) named

-- ---- DROP TABLE

drop_through : (c : Catalog) (n : ℕ) (name : Name) → table_named c name ≡ Some n → check c (s.DropTable name) ≡ Ok (s.DropTable name)
unfolding check refusals name_refusals
drop_through c n name named =
    ap (λ (fs : List Refusal). or_refused (s.DropTable name) (first ((fs ++ [] ++ [] ++ []) ++ []))) (needed_none c n name named)

drop_done : (t : Tables) (n : ℕ) (name : Name) → table_named (catalog_of t) name ≡ Some n → meaning_checked t (s.DropTable name) ≡ done t (Altering Dropped (Some (change.DropTable n)))
unfolding meaning_checked made
drop_done t n name named = ap (λ (o : Option ℕ). done t (Altering Dropped (option_map change.DropTable o))) named

pub drop_law : (t u : Tables) (written : Statement) (n : ℕ) → IsTables t → apply (OnSchema (change.DropTable n)) t ≡ Some u → statement_of (catalog_of t) (OnSchema (change.DropTable n)) ≡ Some written
    → meaning t (statement_as_read written) ≡ meant (OnSchema (change.DropTable n))
drop_law t u written n ok applies is =
    let l = some_listing (catalog_of t) n (allowed (change.DropTable n) t u applies) in
    let def = listing_def (catalog_of t) n l.0 l.1 in
    let named = table_named_is (catalog_of t) n l.0.def ok.catalog def in
    let same : Some (s.DropTable l.0.def.name) ≡ Some written = sym (ap (option_map (λ (d : TableDef). s.DropTable d.name)) def) ∙ is in
    let it : s.DropTable l.0.def.name ≡ written = cc in
    ap (λ (z : Statement). meaning t (statement_as_read z)) (sym it)
    ∙ altering t Dropped (s.DropTable l.0.def.name) (change.DropTable n) (drop_through (catalog_of t) n l.0.def.name named) (drop_done t n l.0.def.name named)

-- ---- CREATE INDEX

none_is : (o : Option ℕ) → is_none o ≡ true → o ≡ None
none_is None h = refl
none_is (Some n) h = cc

not_true : (b : Bool) → not b ≡ true → b ≡ false
not_true true h = cc
not_true false h = refl

module _ (c : Catalog) (n : ℕ) (l : Listing) (ok : IsCatalog c) (stands : listing_at c n ≡ Some l) where
  def_is : def_at c n ≡ Some l.def
  def_is = listing_def c n l stands

  named : table_named c l.def.name ≡ Some n
  named = table_named_is c n l.def ok def_is

  once : repeats same_name l.def.columns ≡ false
  once = named_apart false l.def (stands_defined c n l.def ok def_is)

  abbrev scope : Scope
  scope = table_scope c l.def.name

  name_is : (i : ℕ) (column : Column) → slice_get l.def.columns i ≡ Some column → name_at l.def i ≡ Some column.name
  name_is i column is = ap (option_map (λ (z : Column). z.name)) is

  names_found : (ns : List ℕ) → AreColumns l.def ns → in_names c scope (names_at l.def ns) ≡ []
  unfolding in_names
  names_found [] h = refl
  names_found (i ∷ ns) h =
      ap (λ (o : Option Name). flat_map (λ name. column_refusals c scope (None, name)) (cons_option o (names_at l.def ns))) (name_is i h.0.0 h.0.1)
      ∙ ap₂ (λ (p q : List Refusal). p ++ q) (not_refused c n l.def named def_is once i h.0.0 h.0.1) (names_found ns h.1)

  column_found : (i : ℕ) (column : Column) → slice_get l.def.columns i ≡ Some column → column_at c n column.name ≡ Some i
  column_found i column is = ap (option_and_then (λ (d : TableDef). ordinal d column.name)) def_is ∙ ordinal_is l.def i column once is

  numbers_are : (ns : List ℕ) → AreColumns l.def ns → numbers_named c n (names_at l.def ns) ≡ ns
  numbers_are [] h = refl
  numbers_are (i ∷ ns) h =
      ap (λ (o : Option Name). filter_map (column_at c n) (cons_option o (names_at l.def ns))) (name_is i h.0.0 h.0.1)
      ∙ ap₂ cons_option (column_found i h.0.0 h.0.1) (numbers_are ns h.1)

  module _ (index : IndexDef) (table_is : index.table ≡ n) (free : has_index_named c index.name ≡ false) (next : index.number ≡ next_index l) (right : bad_index l index.columns ≡ None) where
    sound : is_none (bad_index l index.columns) ≡ true
    sound = ap is_none right

    good_columns : AreColumns l.def index.columns
    good_columns =
        are_columns l.def index.columns
        (or_parts (repeats ◌==◌ index.columns) (lacks_column l.def.columns index.columns) (none_broken (index_rules l index.columns) 1 0 (is_bad_key l.def.columns index.columns) sound refl)).1
        (none_broken (index_rules l index.columns) 1 1 (may_be_null l.def.columns index.columns) sound refl)

    abbrev names : List Name
    names = names_at l.def index.columns

    abbrev statement : Statement
    statement = s.CreateIndex index.name l.def.name names

    no_name : name_refusals c statement ≡ []
    unfolding name_refusals
    no_name =
        ap₂ (λ (fs : List Refusal) (b : Bool). (fs ++ (if b then IndexExists index.name ∷ [] else [])) ++ [] ++ in_names c scope names ++ []) (needed_none c n l.def.name named) free
        ∙ ap (λ (fs : List Refusal). fs ++ []) (names_found index.columns good_columns)

    rule_is : index_rule c l.def.name names ≡ None
    unfolding index_rule
    rule_is =
        ap (option_and_then (λ number. bad_index_at c number (numbers_named c number names))) named
        ∙ ap (bad_index_at c n) (numbers_are index.columns good_columns)
        ∙ ap (option_and_then (λ (z : Listing). bad_index z index.columns)) stands ∙ right

    index_through : check c statement ≡ Ok statement
    unfolding check refusals
    index_through = ap₂ (λ (fs gs : List Refusal). or_refused statement (first (fs ++ gs))) no_name (ap bad_index_refusals rule_is)

    change_is : index_change c index.name l.def.name names ≡ Some (change.CreateIndex index)
    change_is =
        ap (option_and_then (λ number. option_map (made_index c index.name number names) (next_index_at c number))) named
        ∙ ap (λ (o : Option Listing). option_map (made_index c index.name n names) (option_map next_index o)) stands
        ∙ ap₂ (λ m columns. Some (change.CreateIndex (record { number = m; table = n; name = index.name; columns = columns }))) (sym next) (numbers_are index.columns good_columns)
        ∙ ap (λ m. Some (change.CreateIndex (record { number = index.number; table = m; name = index.name; columns = index.columns }))) (sym table_is)

  index_done : (t : Tables) (name : Name) (columns : List Name) (made_change : SchemaChange) → catalog_of t ≡ c → index_change c name l.def.name columns ≡ Some made_change
      → meaning_checked t (s.CreateIndex name l.def.name columns) ≡ done t (Altering Created (Some made_change))
  unfolding meaning_checked made
  index_done t name columns made_change is h = ap (λ (k : Catalog). done t (Altering Created (index_change k name l.def.name columns))) is ∙ ap (λ (o : Option SchemaChange). done t (Altering Created o)) h

pub index_law : (t u : Tables) (written : Statement) (index : IndexDef) → IsTables t → apply (OnSchema (change.CreateIndex index)) t ≡ Some u → statement_of (catalog_of t) (OnSchema (change.CreateIndex index)) ≡ Some written
    → meaning t (statement_as_read written) ≡ meant (OnSchema (change.CreateIndex index))
index_law t u written index ok applies is = by (listing_at c index.table) refl
  where
    c : Catalog
    c = catalog_of t

    parts : (allows_index_of index (listing_at c index.table) ≡ true) × (not (has_index_named c index.name) ≡ true)
    parts = and_parts (allows_index_of index (listing_at c index.table)) (not (has_index_named c index.name)) (allowed (change.CreateIndex index) t u applies)

    by : (o : Option Listing) → listing_at c index.table ≡ o → meaning t (statement_as_read written) ≡ meant (OnSchema (change.CreateIndex index))
    by None e = absurd (let no : false ≡ true = sym (ap (allows_index_of index) e) ∙ parts.0 in cc)
    by (Some l) e =
        let here : allows_index_here index l ≡ true = sym (ap (allows_index_of index) e) ∙ parts.0 in
        let p = and_parts (index.number == next_index l) (is_none (bad_index l index.columns)) here in
        let free = not_true (has_index_named c index.name) parts.1 in
        let next = eqb-true index.number (next_index l) p.0 in
        let right = none_is (bad_index l index.columns) p.1 in
        let same : Some (create_index index l.def) ≡ Some written = sym (ap (option_map (create_index index)) (listing_def c index.table l e)) ∙ is in
        let it : create_index index l.def ≡ written = cc in
        ap (λ (z : Statement). meaning t (statement_as_read z)) (sym it)
        ∙ altering t Created (create_index index l.def) (change.CreateIndex index) (index_through c index.table l ok.catalog e index refl free next right)
        (index_done c index.table l ok.catalog e t index.name (names_at l.def index.columns) (change.CreateIndex index) refl (change_is c index.table l ok.catalog e index refl free next right))
