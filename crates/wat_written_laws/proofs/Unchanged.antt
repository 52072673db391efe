-- An Update of a table whose columns are all key columns has no statement, and changes nothing.
use Rattle.std.proofs.Common.{◌≡◌, ℕ, ◌==◌, Bool, true, false, ◌&&◌, if◌then◌else◌, List, [], ◌∷◌, map, Option, Some, None, refl, sym, ap, ap₂, ◌∙◌}
use Rattle.std.specs.Option.{option_and_then}
use Rattle.std.proofs.lemmas.Bool.{and_parts, eqb-true}
use Rattle.wat_value.specs.declared.value.Value.{Value}
use Rattle.wat_value.specs.declared.definition.TableDef.{TableDef}
use Rattle.wat_value.specs.declared.change.Change.{Change}
use Rattle.wat_value.specs.declared.change.Change.TheVariants as change
use Rattle.wat_value.specs.declared.change.Act.TheVariants.{OnRow}
use Rattle.wat_value.specs.Fits.{key_of}
use Rattle.wat_value.specs.Order.{key_eq}
use Rattle.wat_ast.specs.declared.expression.Expr.{Expr}
use Rattle.wat_ast.specs.declared.statement.SetItem.{SetItem}
use Rattle.wat_schema.specs.Catalog.{Name}
use Rattle.wat_schema.specs.Tables.{Row, Tables, IsTables, after_update, apply, are_tables, catalog_of, row_at}
use Rattle.wat_schema.proofs.Alike.{same_tables}
use Rattle.wat_schema.proofs.Changing.{changes_one_row, schema_stays, stood_before}
use Rattle.wat_schema.proofs.Database.{acts_hold, in_their_order}
use Rattle.wat_meaning.specs.Meaning.{alone}
use Rattle.wat_meaning.proofs.Applying.{equal}
use Rattle.wat_made.specs.Setting.{row_after}
use Rattle.wat_spell_laws.specs.AsRead.{set_as_read}
use Rattle.wat_written.specs.Written.{sets_of, statement_of, statement_of_change, update, where_key}
use Rattle.wat_written_laws.proofs.Changes.{Applied, Changed, applied, changed}
use Rattle.wat_written_laws.proofs.Keys.{Stands, stands_of}
use Rattle.wat_written_laws.proofs.Updates.{becomes, read_sets, sets_as_read}

no_sets : (name : Name) (sets : List SetItem) (test : Option Expr) → update name sets test ≡ None → sets ≡ []
no_sets name [] test h = refl
no_sets name (set ∷ sets) test h = cc

pub update_unchanged : (t u : Tables) (n : ℕ) (before after : Row) → IsTables t → apply (OnRow (change.Update n before after)) t ≡ Some u
    → statement_of (catalog_of t) (OnRow (change.Update n before after)) ≡ None → u ≡ t
update_unchanged t u n before after ok applies is =
    same_tables u t (in_their_order u (acts_hold (OnRow it) t u ok applies)) order (schema_stays it t u order applies)
    (λ number key. changes_one_row it t u def order applies stands.at number key ∙ by number key ((n == number) && key_eq (key_of def before) key) refl)
  where
    it : Change
    it = change.Update n before after

    order : are_tables t ≡ true
    order = in_their_order t ok

    c : Changed t n (after_update before after)
    c = changed t u n (after_update before after) applies

    def : TableDef
    def = c.x.def

    stands : Stands t n c.x
    stands = stands_of t n c.x ok c.at

    a : Applied c.x before after
    a = applied c.x before after c.y c.is

    none : sets_of def after ≡ []
    none = no_sets def.name (sets_of def after) (where_key def before) (sym (ap (option_and_then (λ (d : TableDef). statement_of_change d it)) stands.at) ∙ is)

    no : read_sets t n c.x stands before after a.has a.keys a.fit ≡ []
    no = sym (sets_as_read t n c.x stands before after a.has a.keys a.fit) ∙ ap (map set_as_read) none

    same : before ≡ after
    same = sym (ap (λ sets. row_after def sets (alone before) before) no) ∙ becomes t n c.x stands before after a.has a.keys a.fit

    by : (number : ℕ) (key : List Value) (b : Bool) → ((n == number) && key_eq (key_of def before) key) ≡ b → (if b then Some after else row_at t number key) ≡ row_at t number key
    by number key false e = refl
    by number key true e =
        let p = and_parts (n == number) (key_eq (key_of def before) key) e in
        ap Some (sym same) ∙ sym (stood_before it t u def order applies stands.at) ∙ ap₂ (row_at t) (eqb-true n number p.0) (equal (key_of def before) key p.1)
