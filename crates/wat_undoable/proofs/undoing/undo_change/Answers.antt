use Rattle.std.proofs.Common.{sym}
use Rattle.wat_roots.proofs.Going.{went_nowhere, stays_still}
use Rattle.wat_undoable.proofs.Stepping.{none_table, none_fit, none_may, all_done}
use Rattle.wat_undoable.proofs.undoing.undo_change.Goals as goal

pub returns-in-Err-clause-went : goal.returns-in-Err-clause-went
returns-in-Err-clause-went g c tells = went_nowhere _ _

pub returns-in-Err-fits_change-clause-went : goal.returns-in-Err-fits_change-clause-went
returns-in-Err-fits_change-clause-went g c tells = went_nowhere _ _

pub returns-in-Err-key_of-clause-went : goal.returns-in-Err-key_of-clause-went
returns-in-Err-key_of-clause-went g c tells = went_nowhere _ _

pub returns-in_default-clause-went : goal.returns-in_default-clause-went
returns-in_default-clause-went g c tells = went_nowhere _ _

pub returns-in_default-clause-stays : goal.returns-in_default-clause-stays
returns-in_default-clause-stays g c tells = stays_still _ _ (c.requires.known tells)

pub returns-in_default-clause-undone : goal.returns-in_default-clause-undone
returns-in_default-clause-undone g c tells owners free rows lists u h tried has =
    none_table c.args.schema.now rows lists u c.args.trial.now tried c.args.conn c.args.change.now has c.in-Ok.back c.in-Ok.ensures c.table_of-table.result c.table_of-table.ensures (sym c.in_default.ensures)

pub returns-in-Ok-false-clause-went : goal.returns-in-Ok-false-clause-went
returns-in-Ok-false-clause-went g c tells = went_nowhere _ _

pub returns-in-Ok-false-clause-stays : goal.returns-in-Ok-false-clause-stays
returns-in-Ok-false-clause-stays g c tells = stays_still _ _ (c.requires.known tells)

pub returns-in-Ok-false-clause-undone : goal.returns-in-Ok-false-clause-undone
returns-in-Ok-false-clause-undone g c tells owners free rows lists u h tried has =
    none_fit c.args.schema.now rows lists u c.args.trial.now tried c.args.conn c.args.change.now has c.in-Ok.back c.in-Ok.ensures c.table_of-table.result c.table_of-table.ensures c.in-Some.def.now (sym c.in-Some.ensures)
    c.in-Ok-false.field-0 c.in-Ok-false.ensures c.in-Ok-false.field-0-test

pub returns-in-Ok-false-may_undo-clause-undone : goal.returns-in-Ok-false-may_undo-clause-undone
returns-in-Ok-false-may_undo-clause-undone g c tells owners free rows lists u h tried has =
    none_may c.args.schema.now rows lists u c.args.trial.now tried c.args.conn c.args.change.now has c.in-Ok.back c.in-Ok.ensures c.table_of-table.result c.table_of-table.ensures c.in-Some.def.now (sym c.in-Some.ensures)
    c.in-Ok-true.field-0 c.in-Ok-true.ensures c.in-Ok-true.field-0-test c.in-Ok-key_of.key c.in-Ok-key_of.ensures
    c.in-Ok-false-may_undo.field-0 (c.in-Ok-false-may_undo.ensures.may tells owners free _ rows h) c.in-Ok-false-may_undo.field-0-test

pub returns-in-Ok-set-clause-undone : goal.returns-in-Ok-set-clause-undone
returns-in-Ok-set-clause-undone g c tells owners free rows lists u h tried has =
    all_done c.args.schema.now rows lists u c.args.trial.now tried c.args.conn c.args.change.now has c.in-Ok.back c.in-Ok.ensures c.table_of-table.result c.table_of-table.ensures c.in-Some.def.now (sym c.in-Some.ensures)
    c.in-Ok-true.field-0 c.in-Ok-true.ensures c.in-Ok-true.field-0-test c.in-Ok-key_of.key c.in-Ok-key_of.ensures
    c.in-Ok-true-may_undo.field-0 (c.in-Ok-true-may_undo.ensures.may tells owners free _ rows h) c.in-Ok-true-may_undo.field-0-test c.set.new.self c.after-row.result c.after-row.ensures (c.in-Ok-set.ensures tried.placed)

pub returns-in-Err-may_undo-clause-undamaged : goal.returns-in-Err-may_undo-clause-undamaged
returns-in-Err-may_undo-clause-undamaged g c tells owners free rows h = c.in-Err-may_undo.ensures.undamaged tells owners free _ rows h
