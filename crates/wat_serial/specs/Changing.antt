-- What INSERT, UPDATE and DELETE come to, by their table. Only functions within the crate cite this.
use Rattle.std.specs.Prelude.{ℕ, List, [], ◌∷◌, ◌++◌, map, length, Option, Some, if◌then◌else◌}
use Rattle.std.specs.List.{zip}
use Rattle.wat_value.specs.declared.definition.TableDef.{TableDef}
use Rattle.wat_value.specs.declared.change.Change.TheVariants as change
use Rattle.wat_value.specs.declared.change.Act.{Act}
use Rattle.wat_value.specs.declared.change.Act.TheVariants.{OnRow}
use Rattle.wat_ast.specs.declared.statement.SetItem.{SetItem}
use Rattle.wat_schema.specs.declared.refusal.Refusal.{Refusal}
use Rattle.wat_schema.specs.declared.refusal.Refusal.TheVariants.{Arithmetic}
use Rattle.wat_schema.specs.Catalog.{Name}
use Rattle.wat_schema.specs.Tables.{Row, Table}
use Rattle.wat_names.specs.Refusals.{first}
use Rattle.wat_expr.specs.Evaluation.{Combination}
use Rattle.wat_group.specs.declared.answer.Finished.{Finished}
use Rattle.wat_group.specs.declared.answer.Finished.TheVariants as finished
use Rattle.wat_meaning.specs.declared.reply.Meaning.{Meaning}
use Rattle.wat_meaning.specs.declared.reply.Reply.{Reply}
use Rattle.wat_meaning.specs.declared.reply.Reply.TheVariants.{Inserted, Updated, Deleted}
use Rattle.wat_meaning.specs.Meaning.{given_row, refusal_meaning, row_faults, sole_row, unless_refused}
use Rattle.wat_made.specs.Setting.{row_after, rows_after, sets_fail}
use Rattle.wat_serial.specs.Duplicates.{refusals_in}

abbrev pub with_acts : Reply → List Act → Meaning
with_acts answer acts = record { answer = answer; acts = acts }

abbrev pub insert_acts : ℕ → List Row → List Act
insert_acts number rows = map (λ row. OnRow (change.Insert number row)) rows

abbrev pub insert_refusals : Table → List Row → List Refusal
insert_refusals x rows = row_faults x.def rows ++ refusals_in x rows

-- INSERT of lists of values
abbrev pub inserted_in : Table → Option (List Name) → Finished → Meaning
inserted_in x names finished.Arithmetic = refusal_meaning Arithmetic
inserted_in x names (finished.Rows values) =
    let rows = map (given_row x.def names) values in
    unless_refused (first (insert_refusals x rows)) (with_acts (Inserted (length rows)) (insert_acts x.def.number rows))

abbrev pub update_act : ℕ → Combination × Row → Act
update_act number x = OnRow (change.Update number (sole_row x.0) x.1)

abbrev pub update_acts : ℕ → List Combination → List Row → List Act
update_acts number met after = map (update_act number) (zip met after)

-- UPDATE of the rows that passed, each as the combination of it alone
abbrev pub updated_in : TableDef → List SetItem → List Combination → Meaning
updated_in def sets met =
    if sets_fail sets met then refusal_meaning Arithmetic
    else let after = rows_after def sets met in unless_refused (first (row_faults def after)) (with_acts (Updated (length met)) (update_acts def.number met after))

abbrev pub delete_acts : ℕ → List Combination → List Act
delete_acts number met = map (λ rows. OnRow (change.Delete number (sole_row rows))) met

-- DELETE of them
abbrev pub deleted_in : TableDef → List Combination → Meaning
deleted_in def met = with_acts (Deleted (length met)) (delete_acts def.number met)
