-- Changes of rows that are each the combination of it alone.
use Rattle.std.proofs.Common.{◌≡◌, ℕ, Bool, true, false, ◌||◌, if◌then◌else◌, List, [], ◌∷◌, map, Option, Some, None, Err, refl, sym, ap, ap₂, ◌∙◌}
use Rattle.std.specs.List.{zip}
use Rattle.wat_value.specs.declared.definition.TableDef.{TableDef}
use Rattle.wat_value.specs.declared.change.Change.{Change}
use Rattle.wat_value.specs.declared.change.Change.TheVariants as change
use Rattle.wat_ast.specs.declared.statement.SetItem.{SetItem}
use Rattle.wat_schema.specs.declared.refusal.Refusal.TheVariants.{Arithmetic}
use Rattle.wat_schema.specs.Catalog.{Name}
use Rattle.wat_schema.specs.Tables.{Row}
use Rattle.wat_expr.specs.Evaluation.{Combination}
use Rattle.wat_group.specs.declared.answer.Finished.TheVariants as finished
use Rattle.wat_group.specs.Query.{has_error, unless}
use Rattle.wat_meaning.specs.declared.reply.Reply.TheVariants.{Deleted, Inserted, Updated}
use Rattle.wat_meaning.specs.Meaning.{after_set, alone, changed, deleted, given_row, inserted, met_rows, set_fails, set_outcome, sole_row, updated}
use Rattle.wat_made.specs.Setting.{rows_after, sets_fail}

module _ (def : TableDef) (sets : List SetItem) where
  pub fail_alike : (rows : List Row) → sets_fail sets (map alone rows) ≡ set_fails sets rows
  fail_alike [] = refl
  fail_alike (row ∷ rows) = ap (λ b. has_error (map (set_outcome row) sets) || b) (fail_alike rows)

  pub after_alike : (rows : List Row) → rows_after def sets (map alone rows) ≡ map (after_set def sets) rows
  after_alike [] = refl
  after_alike (row ∷ rows) = ap (λ more. after_set def sets row ∷ more) (after_alike rows)

pub updates_alike : (n : ℕ) (f : Row → Row) (rows : List Row) → map (λ x. change.Update n (sole_row x.0) x.1) (zip (map alone rows) (map f rows)) ≡ map (λ row. change.Update n row (f row)) rows
updates_alike n f [] = refl
updates_alike n f (row ∷ rows) = ap (λ more. change.Update n row (f row) ∷ more) (updates_alike n f rows)

pub deletes_alike : (n : ℕ) (rows : List Row) → map (λ met. change.Delete n (sole_row met)) (map alone rows) ≡ map (change.Delete n) rows
deletes_alike n [] = refl
deletes_alike n (row ∷ rows) = ap (λ more. change.Delete n row ∷ more) (deletes_alike n rows)

-- ---- UPDATE

module _ (def : TableDef) (sets : List SetItem) (met : List Combination) where
  abbrev rows : List Row
  rows = met_rows def met

  abbrev after : List Row
  after = map (after_set def sets) rows

  abbrev whole : List Change
  whole = map (λ row. change.Update def.number row (after_set def sets row)) rows

  none_fails : (b : Bool) (x : List Row) → None ≡ unless b x → b ≡ true
  none_fails true x h = refl
  none_fails false x h = cc

  some_fine : (b : Bool) (items x : List Row) → Some items ≡ unless b x → (b ≡ false) × (items ≡ x)
  some_fine true items x h = cc
  some_fine false items x h = (refl, cc)

  alike : (before : List Combination) → before ≡ map alone rows → unless (sets_fail sets before) (rows_after def sets before) ≡ unless (set_fails sets rows) after
  alike before e = ap (λ b. unless (sets_fail sets b) (rows_after def sets b)) e ∙ ap₂ unless (fail_alike def sets rows) (after_alike def sets rows)

  at_test : (b : Bool) → set_fails sets rows ≡ b → (if b then Err Arithmetic else changed def after Updated whole) ≡ updated sets met def
  at_test b h = sym (ap (λ t. if t then Err Arithmetic else changed def after Updated whole) h)

  pub update_fails : (before : List Combination) → before ≡ map alone rows → None ≡ unless (sets_fail sets before) (rows_after def sets before) → Err Arithmetic ≡ updated sets met def
  update_fails before e h = at_test true (none_fails (set_fails sets rows) after (h ∙ alike before e))

  pub update_is : (before : List Combination) (items : List Row) (changes : List Change) → before ≡ map alone rows → Some items ≡ unless (sets_fail sets before) (rows_after def sets before)
      → changes ≡ map (λ (x : Combination × Row). change.Update def.number (sole_row x.0) x.1) (zip before items) → changed def items Updated changes ≡ updated sets met def
  update_is before items changes e h made =
      let r = some_fine (set_fails sets rows) items after (h ∙ alike before e) in
      let all : changes ≡ whole =
      made ∙ ap₂ (λ b z. map (λ (x : Combination × Row). change.Update def.number (sole_row x.0) x.1) (zip b z)) e r.1 ∙ updates_alike def.number (after_set def sets) rows in
      ap₂ (λ z cs. changed def z Updated cs) r.1 all ∙ at_test false r.0

-- ---- DELETE

pub delete_is : (def : TableDef) (met before : List Combination) (changes : List Change) → before ≡ map alone (met_rows def met) → changes ≡ map (λ (z : Combination). change.Delete def.number (sole_row z)) before
    → changed def [] Deleted changes ≡ deleted met def
delete_is def met before changes e made =
    ap (changed def [] Deleted) (made ∙ ap (map (λ (z : Combination). change.Delete def.number (sole_row z))) e ∙ deletes_alike def.number (met_rows def met))

-- ---- INSERT

pub insert_is : (def : TableDef) (columns : Option (List Name)) (values items : List Row) (changes : List Change) → items ≡ map (given_row def columns) values → changes ≡ map (change.Insert def.number) items
    → changed def items Inserted changes ≡ inserted columns (finished.Rows values) def
insert_is def columns values items changes e made = ap₂ (λ z cs. changed def z Inserted cs) e (made ∙ ap (map (change.Insert def.number)) e)
