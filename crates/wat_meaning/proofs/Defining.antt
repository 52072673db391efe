-- The acts of CREATE and DROP apply.
use Rattle.std.proofs.Common.{◌≡◌, true, List, map, Option, Some, None, Ok, refl, sym, ap, ◌∙◌, subst}
use Rattle.std.specs.Prelude.{IsSomeAnd, option_to_list}
use Rattle.wat_value.specs.declared.change.SchemaChange.{SchemaChange}
use Rattle.wat_value.specs.declared.change.Act.TheVariants.{OnSchema}
use Rattle.wat_ast.specs.declared.statement.Element.{Element}
use Rattle.wat_ast.specs.declared.statement.Statement.{Statement}
use Rattle.wat_ast.specs.declared.statement.Statement.TheVariants.{CreateTable, CreateIndex, DropTable}
use Rattle.wat_schema.specs.declared.refusal.Refusal.{Refusal}
use Rattle.wat_schema.specs.Catalog.{Name}
use Rattle.wat_schema.specs.Definitions.{allows}
use Rattle.wat_schema.specs.Tables.{Tables, catalog_of, after_alter}
use Rattle.wat_names.specs.Refusals.{first, or_refused}
use Rattle.wat_names.specs.Places.{placed_statement}
use Rattle.wat_rules.specs.Changes.{change_of, changes_schema, IsAllowed}
use Rattle.wat_rules.specs.Check.{check, refusals}
use Rattle.wat_rules.proofs.ChangeLemmas.{checked_change}
use Rattle.wat_meaning.specs.Meaning.{made, done, meaning_checked, after_check, meaning}
use Rattle.wat_meaning.proofs.Applying.{Applies, none_apply}

-- a schema change that is allowed applies
allowed_applies : (t : Tables) (change : Option SchemaChange) → IsSomeAnd change (λ c. allows c (catalog_of t) ≡ true) → Applies t (map OnSchema (option_to_list change))
allowed_applies t None h = absurd h
allowed_applies t (Some change) h = (after_alter change t, rw h refl)

-- what the checks let through is allowed
defines : (t : Tables) (s : Statement) → placed_statement (catalog_of t) s ≡ s → changes_schema s ≡ true → (IsAllowed (catalog_of t) s → Applies t (meaning_checked t s).acts) → Applies t (meaning t s).acts
unfolding meaning check
defines t s same is applies = by (first (refusals (catalog_of t) s)) refl
  where
    by : (refusal : Option Refusal) → first (refusals (catalog_of t) s) ≡ refusal → Applies t (after_check t (or_refused (placed_statement (catalog_of t) s) refusal)).acts
    by None h =
        subst (λ (z : Statement). Applies t (meaning_checked t z).acts) (sym same)
        (applies (checked_change (catalog_of t) s s (ap (or_refused (placed_statement (catalog_of t) s)) h ∙ ap Ok same) is))
    by (Some refusal) h = none_apply t

pub creates_table : (t : Tables) (name : Name) (elements : List Element) → Applies t (meaning t (CreateTable name elements)).acts
unfolding meaning_checked made done
creates_table t name elements = defines t (CreateTable name elements) refl refl (allowed_applies t (change_of (catalog_of t) (CreateTable name elements)))

pub creates_index : (t : Tables) (name table : Name) (columns : List Name) → Applies t (meaning t (CreateIndex name table columns)).acts
unfolding meaning_checked made done
creates_index t name table columns = defines t (CreateIndex name table columns) refl refl (allowed_applies t (change_of (catalog_of t) (CreateIndex name table columns)))

pub drops : (t : Tables) (name : Name) → Applies t (meaning t (DropTable name)).acts
unfolding meaning_checked made done
drops t name = defines t (DropTable name) refl refl (allowed_applies t (change_of (catalog_of t) (DropTable name)))
