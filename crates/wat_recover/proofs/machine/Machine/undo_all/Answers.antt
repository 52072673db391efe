use Rattle.std.proofs.Common.{refl}
use Rattle.wat_recover.specs.Machine.{state_of}
use Rattle.wat_recover.proofs.machine.Machine.undo_all.Goals as goal

pub returns-in-Ok : goal.returns-in-Ok
returns-in-Ok g c t lawful is = c.in-Ok.ensures.undone (state_of g.T.RowTables.tables c.args.self.now) t refl lawful is
