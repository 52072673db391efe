use Rattle.std.proofs.Common.{◌≡◌, refl, sym, arith}
use Rattle.wat_cells.proofs.Then.{goes_all, keeps_by}
use Rattle.wat_held.specs.Held.{in_rollback}
use Rattle.wat_objects.proofs.Rooted.{lists_written}
use Rattle.wat_objects.proofs.objects.Objects.write_lists.Goals as goal

pub returns-in-Ok-clause-state : goal.returns-in-Ok-clause-state
returns-in-Ok-clause-state g c tells s h lawful =
    lists_written _ _ c.args.self.now _ _ s h lawful (record { heap = refl; schema = refl; catalog = refl; lists = refl })
    (c.in-Ok.ensures.saved tells in_rollback h.on.owners h.on.free h.on.rollback.payload (omega arith) (omega arith) h.on.owned h.on.rollback.chain) refl c.next.ensures.number

pub returns-in-Ok-clause-goes : goal.returns-in-Ok-clause-goes
returns-in-Ok-clause-goes g c tells = goes_all _ _ _ _ c.save.ensures.others c.save.ensures.limit c.save.ensures.stored c.save.ensures.header (c.save.ensures.stops tells)

pub returns-in-Ok-clause-keeps : goal.returns-in-Ok-clause-keeps
returns-in-Ok-clause-keeps g c tells = keeps_by _ _ _ (c.in-Ok.ensures.known tells) (c.in-Ok.ensures.safe tells)

pub returns-in-Err-clause-goes : goal.returns-in-Err-clause-goes
returns-in-Err-clause-goes g c tells = goes_all _ _ _ _ c.save.ensures.others c.save.ensures.limit c.save.ensures.stored c.save.ensures.header (c.save.ensures.stops tells)

pub returns-in-Err-clause-undamaged : goal.returns-in-Err-clause-undamaged
returns-in-Err-clause-undamaged g c tells saved safe count s h = c.in-Err.ensures.undamaged tells saved in_rollback h.on.owners h.on.free h.on.rollback.payload safe count (omega arith) (omega arith) h.on.owned h.on.rollback.chain
