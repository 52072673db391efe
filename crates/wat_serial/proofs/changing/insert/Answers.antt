use Rattle.std.proofs.Common.{◌≡◌, Some, None, sym, ap, ◌∙◌}
use Rattle.std.proofs.lemmas.Result.{IfOk-weaker}
use Rattle.wat_ast.specs.declared.statement.Statement.TheVariants.{Insert}
use Rattle.wat_schema.specs.Catalog.{Catalog}
use Rattle.wat_meaning.specs.Meaning.{source_answer, table_called}
use Rattle.wat_serial.specs.Changing.{inserted_in}
use Rattle.wat_serial.proofs.Meanings.{checked_none, insert_is, insert_nowhere}
use Rattle.wat_serial.proofs.changing.insert.Goals as goal

pub returns-in_default : goal.returns-in_default
returns-in_default c = c.refused.ensures ∙ checked_none c.args.tables.now (Insert c.args.name.now c.args.names.now c.args.source.now) (sym c.in_ok-met.ensures ∙ c.in_default.is)

pub returns-in_default-table : goal.returns-in_default-table
returns-in_default-table c =
    let gone = ap (table_called c.args.tables.now) (sym c.as_str.ensures.text) ∙ sym c.in_default-table.ensures in
    IfOk-weaker c.no_table.result _ _
    (λ m is. is ∙ insert_nowhere c.args.tables.now c.args.name.now c.args.names.now c.args.source.now c.in-Some.met (sym c.in_ok-met.ensures ∙ c.in-Some.is) gone) c.no_table.ensures

pub returns : goal.returns
returns c =
    let called = ap (table_called c.args.tables.now) (sym c.as_str.ensures.text) ∙ sym c.in-Some-table.ensures in
    IfOk-weaker c.inserted.result _ _
    (λ m is. is
    ∙ ap (inserted_in c.in-Some-table.table.now c.args.names.now) (c.in_ok-values.ensures ∙ ap (λ (s : Catalog). source_answer s c.args.source.now c.in-Some.met) c.schema.ensures)
    ∙ insert_is c.args.tables.now c.args.name.now c.args.names.now c.args.source.now c.in-Some.met (sym c.in_ok-met.ensures ∙ c.in-Some.is) c.in-Some-table.table.now called) c.inserted.ensures
