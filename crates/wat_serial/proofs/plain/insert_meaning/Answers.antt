use Rattle.std.proofs.Common.{sym, ap, ◌∙◌}
use Rattle.wat_meaning.specs.Meaning.{table_called}
use Rattle.wat_serial.proofs.PlainLemmas.{means_there}
use Rattle.wat_serial.proofs.plain.insert_meaning.Goals as goal

pub returns-in-Some : goal.returns-in-Some
returns-in-Some c =
    means_there c.args.tables.now c.tables_law.ensures c.args.name.now c.in-Some.table.now c.args.exprs.now c.written_meaning.result
    (ap (table_called c.args.tables.now) (sym c.as_str.ensures.text) ∙ sym c.in-Some.ensures) c.written_meaning.ensures
