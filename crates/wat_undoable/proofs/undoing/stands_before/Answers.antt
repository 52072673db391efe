use Rattle.std.proofs.Common.{sym, ◌∙◌}
use Rattle.wat_undoable.proofs.undoing.stands_before.Goals as goal

pub returns-in-Ok-clause-before : goal.returns-in-Ok-clause-before
returns-in-Ok-clause-before g c tells owners free defs rows h =
    let row = c.in-Ok.ensures.row tells owners free defs rows h in
    (λ is. sym row ∙ c.is_before.ensures.0 is, λ is. c.is_before.ensures.1 (row ∙ is))

pub returns-in-Err-clause-undamaged : goal.returns-in-Err-clause-undamaged
returns-in-Err-clause-undamaged g c tells owners free defs rows h = c.in-Err.ensures.readable tells owners free defs rows h

pub returns-in-Ok-clause-went : goal.returns-in-Ok-clause-went
returns-in-Ok-clause-went g c tells = record { head = c.get.ensures.head; goes = c.get.ensures.goes tells }

pub returns-in-Err-clause-went : goal.returns-in-Err-clause-went
returns-in-Err-clause-went g c tells = record { head = c.get.ensures.head; goes = c.get.ensures.goes tells }

pub returns-in-Ok-clause-stays : goal.returns-in-Ok-clause-stays
returns-in-Ok-clause-stays g c tells = record { pages = c.in-Ok.ensures.same tells; keeps = c.in-Ok.ensures.keeps tells }
