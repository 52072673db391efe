-- The statements of changes of rows, over tables to which the changes apply.
use Rattle.std.proofs.Common.{◌≡◌, ℕ, Bool, true, false, not, ◌&&◌, if◌then◌else◌, List, [], ◌∷◌, Option, Some, None, refl, sym, ap, ◌∙◌}
use Rattle.std.specs.Option.{option_map, option_and_then}
use Rattle.std.proofs.lemmas.Bool.{and_parts}
use Rattle.wat_value.specs.declared.definition.TableDef.{TableDef}
use Rattle.wat_value.specs.declared.change.Change.TheVariants as change
use Rattle.wat_value.specs.declared.change.Act.TheVariants.{OnRow}
use Rattle.wat_value.specs.Fits.{fits, key_of}
use Rattle.wat_ast.specs.declared.expression.Expr.{Expr}
use Rattle.wat_ast.specs.declared.statement.SetItem.{SetItem}
use Rattle.wat_ast.specs.declared.statement.InsertSource.TheVariants.{Values}
use Rattle.wat_ast.specs.declared.statement.Statement.{Statement}
use Rattle.wat_ast.specs.declared.statement.Statement.TheVariants as s
use Rattle.wat_schema.specs.Catalog.{Name}
use Rattle.wat_schema.specs.Tables.{Row, Table, Tables, IsTables, after_delete, after_insert, after_update, apply, catalog_of, has_key, has_row, row_eq, on_table, table_at, with_table}
use Rattle.wat_meaning.specs.declared.reply.Reply.TheVariants.{Deleted, Inserted, Updated}
use Rattle.wat_meaning.specs.Meaning.{meaning}
use Rattle.wat_meaning.proofs.Applying.{named}
use Rattle.wat_serial.specs.Changing.{with_acts}
use Rattle.wat_spell_laws.specs.AsRead.{as_read, statement_as_read}
use Rattle.wat_written.specs.Written.{literals, sets_of, statement_of, statement_of_change, update, where_key}
use Rattle.wat_written_laws.specs.Meant.{meant}
use Rattle.wat_written_laws.proofs.Columns.{called_is, def_is}
use Rattle.wat_written_laws.proofs.Inserts.{insert_means, read_row}
use Rattle.wat_written_laws.proofs.Deletes.{delete_means}
use Rattle.wat_written_laws.proofs.Keys.{stands_of}
use Rattle.wat_written_laws.proofs.Updates.{sets_as_read, update_means}

-- the table that a change was made of, and what became of it
pub record Changed (t : Tables) (n : ℕ) (change : Table → Option Table) : Type 0 where
  pub x : Table
  pub y : Table
  pub at : table_at t n ≡ Some x
  pub is : change x ≡ Some y
  pub number : n ≡ x.def.number

pub changed : (t u : Tables) (n : ℕ) (change : Table → Option Table) → on_table n change t ≡ Some u → Changed t n change
changed t u n change h = by (table_at t n) refl h
  where
    inner : (x : Table) → table_at t n ≡ Some x → (o : Option Table) → change x ≡ o → option_map (with_table n t) o ≡ Some u → Changed t n change
    inner x at None e k = absurd (let no : ◌≡◌ {A = Option Tables} None (Some u) = k in cc)
    inner x at (Some y) e k = record { x = x; y = y; at = at; is = e; number = named n x t.tables at }

    by : (o : Option Table) → table_at t n ≡ o → option_and_then (λ x. option_map (with_table n t) (change x)) o ≡ Some u → Changed t n change
    by None e k = absurd (let no : ◌≡◌ {A = Option Tables} None (Some u) = k in cc)
    by (Some x) e k = inner x e (change x) refl k

if_true : {X : Type 0} (b : Bool) (x y : X) → (if b then Some x else None) ≡ Some y → b ≡ true
if_true true x y h = refl
if_true false x y h = cc

stands : (t : Tables) (n : ℕ) (x : Table) → table_at t n ≡ Some x → n ≡ x.def.number → table_at t x.def.number ≡ Some x
stands t n x at is = ap (table_at t) (sym is) ∙ at

not_true : (b : Bool) → not b ≡ true → b ≡ false
not_true true h = cc
not_true false h = refl

pub insert_law : (t u : Tables) (written : Statement) (n : ℕ) (row : Row) → IsTables t → apply (OnRow (change.Insert n row)) t ≡ Some u → statement_of (catalog_of t) (OnRow (change.Insert n row)) ≡ Some written
    → meaning t (statement_as_read written) ≡ meant (OnRow (change.Insert n row))
insert_law t u written n row ok applies is =
    let c = changed t u n (after_insert row) applies in
    let x = c.x in
    let def = def_is t n x c.at in
    let same : Some (s.Insert x.def.name None (Values (literals row))) ≡ Some written = sym (ap (option_and_then (λ (d : TableDef). statement_of_change d (change.Insert n row))) def) ∙ is in
    let it : s.Insert x.def.name None (Values (literals row)) ≡ written = cc in
    let fit = and_parts (fits x.def row) (not (has_key x (key_of x.def row))) (if_true (fits x.def row && not (has_key x (key_of x.def row))) _ _ c.is) in
    ap (λ (z : Statement). meaning t (statement_as_read z)) (sym it)
    ∙ ap (λ es. meaning t (s.Insert x.def.name None (Values es))) (read_row row)
    ∙ insert_means t ok x.def.name x row (called_is t n x ok c.at) (stands t n x c.at c.number) fit.0 (not_true (has_key x (key_of x.def row)) fit.1)
    ∙ ap (λ m. with_acts (Inserted 1) (OnRow (change.Insert m row) ∷ [])) (sym c.number)

pub delete_law : (t u : Tables) (written : Statement) (n : ℕ) (row : Row) → IsTables t → apply (OnRow (change.Delete n row)) t ≡ Some u → statement_of (catalog_of t) (OnRow (change.Delete n row)) ≡ Some written
    → meaning t (statement_as_read written) ≡ meant (OnRow (change.Delete n row))
delete_law t u written n row ok applies is =
    let c = changed t u n (after_delete row) applies in
    let x = c.x in
    let stands = stands_of t n x ok c.at in
    let same : Some (s.Delete x.def.name (where_key x.def row)) ≡ Some written = sym (ap (option_and_then (λ (d : TableDef). statement_of_change d (change.Delete n row))) stands.at) ∙ is in
    let it : s.Delete x.def.name (where_key x.def row) ≡ written = cc in
    let has : has_row x row ≡ true = if_true (has_row x row) _ _ c.is in
    ap (λ (z : Statement). meaning t (statement_as_read z)) (sym it)
    ∙ delete_means t n x stands row has ok
    ∙ ap (λ m. with_acts (Deleted 1) (OnRow (change.Delete m row) ∷ [])) (sym c.number)

-- ---- Update

some_sets : (name : Name) (sets : List SetItem) (test : Option Expr) (written : Statement) → update name sets test ≡ Some written → s.Update name sets test ≡ written
some_sets name [] test written h = cc
some_sets name (set ∷ sets) test written h = cc

-- what an Update that applies says
pub record Applied (x : Table) (before after : Row) : Type 0 where
  pub has : has_row x before ≡ true
  pub keys : row_eq (key_of x.def before) (key_of x.def after) ≡ true
  pub fit : fits x.def after ≡ true

pub applied : (x : Table) (before after : Row) (y : Table) → after_update before after x ≡ Some y → Applied x before after
applied x before after y h =
    let all = if_true (has_row x before && row_eq (key_of x.def before) (key_of x.def after) && fits x.def after) _ _ h in
    let p = and_parts (has_row x before && row_eq (key_of x.def before) (key_of x.def after)) (fits x.def after) all in
    let q = and_parts (has_row x before) (row_eq (key_of x.def before) (key_of x.def after)) p.0 in
    record { has = q.0; keys = q.1; fit = p.1 }

pub update_law : (t u : Tables) (written : Statement) (n : ℕ) (before after : Row) → IsTables t → apply (OnRow (change.Update n before after)) t ≡ Some u
    → statement_of (catalog_of t) (OnRow (change.Update n before after)) ≡ Some written → meaning t (statement_as_read written) ≡ meant (OnRow (change.Update n before after))
update_law t u written n before after ok applies is =
    let c = changed t u n (after_update before after) applies in
    let x = c.x in
    let stands = stands_of t n x ok c.at in
    let same : update x.def.name (sets_of x.def after) (where_key x.def before) ≡ Some written =
    sym (ap (option_and_then (λ (d : TableDef). statement_of_change d (change.Update n before after))) stands.at) ∙ is in
    let it = some_sets x.def.name (sets_of x.def after) (where_key x.def before) written same in
    let a = applied x before after c.y c.is in
    ap (λ (z : Statement). meaning t (statement_as_read z)) (sym it)
    ∙ ap (λ sets. meaning t (s.Update x.def.name sets (option_map as_read (where_key x.def before)))) (sets_as_read t n x stands before after a.has a.keys a.fit)
    ∙ update_means t n x stands before after a.has a.keys a.fit ok
    ∙ ap (λ m. with_acts (Updated 1) (OnRow (change.Update m before after) ∷ [])) (sym c.number)
