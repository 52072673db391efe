use Rattle.std.proofs.Common.{◌≡◌, ◌↔◌, Bool, true, sym}
use Rattle.wat_value.specs.Changes.{row_before}
use Rattle.wat_roots.proofs.Going.{went_nowhere, stays_still}
use Rattle.wat_undoable.specs.Undoing.{MayUndo}
use Rattle.wat_undoable.proofs.Stepping.{may_known, may_stands, if_ok}
use Rattle.wat_undoable.proofs.undoing.may_undo.Goals as goal

pub returns-in_default-clause-may : goal.returns-in_default-clause-may
returns-in_default-clause-may g c tells owners free defs rows h =
    if_ok c.stands_before.result (λ b. (b ≡ true) ↔ (rows c.args.table c.args.key.now ≡ row_before c.args.change.now)) (λ b. (b ≡ true) ↔ MayUndo c.args.trial.now rows c.args.conn c.args.table c.args.key.now c.args.change.now)
    (λ b is. may_stands c.args.trial.now rows c.args.conn c.args.table c.args.key.now c.args.change.now b (sym c.in_default.ensures) is) (c.stands_before.ensures.before tells owners free defs rows h)

pub returns-clause-may : goal.returns-clause-may
returns-clause-may g c tells owners free defs rows h =
    may_known c.args.trial.now rows c.args.conn c.args.table c.args.key.now c.args.change.now c.in-Some.undone.now c.is_own.result (sym c.in-Some.ensures) c.is_own.ensures

pub returns-clause-went : goal.returns-clause-went
returns-clause-went g c tells = went_nowhere _ _

pub returns-clause-stays : goal.returns-clause-stays
returns-clause-stays g c tells = stays_still _ _ (c.requires.known tells)
