use Rattle.std.proofs.Common.{◌≡◌, Some, None, sym, ap, ap₂, ◌∙◌}
use Rattle.std.proofs.lemmas.Result.{IfOk-weaker}
use Rattle.wat_ast.specs.declared.statement.Statement.TheVariants.{Update}
use Rattle.wat_meaning.specs.Meaning.{table_called}
use Rattle.wat_serial.specs.Changing.{updated_in}
use Rattle.wat_serial.proofs.Meanings.{checked_none, update_is, update_nowhere}
use Rattle.wat_serial.proofs.changing.update.Goals as goal

pub returns-in_default : goal.returns-in_default
returns-in_default c = c.refused.ensures ∙ checked_none c.args.tables.now (Update c.args.name.now c.args.sets.now c.args.filter.now) (sym c.in_ok-met.ensures ∙ c.in_default.is)

pub returns-in_default-table : goal.returns-in_default-table
returns-in_default-table c =
    let gone = ap (table_called c.args.tables.now) (sym c.as_str.ensures.text) ∙ sym c.in_default-table.ensures in
    IfOk-weaker c.no_table.result _ _ (λ m is. is ∙ update_nowhere c.args.tables.now c.args.name.now c.args.sets.now c.args.filter.now c.in-Some.met (sym c.in_ok-met.ensures ∙ c.in-Some.is) gone) c.no_table.ensures

pub returns : goal.returns
returns c =
    let called = ap (table_called c.args.tables.now) (sym c.as_str.ensures.text) ∙ sym c.in-Some-table.ensures in
    IfOk-weaker c.updated.result _ _
    (λ m is. is ∙ ap₂ (λ def met. updated_in def c.args.sets.now met) c.def.ensures c.as_slice.ensures ∙ update_is c.args.tables.now c.args.name.now c.args.sets.now c.args.filter.now c.in-Some.met (sym c.in_ok-met.ensures ∙ c.in-Some.is) c.tables_law.ensures c.in-Some-table.table.now called) c.updated.ensures
