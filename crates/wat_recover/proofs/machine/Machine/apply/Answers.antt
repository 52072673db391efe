use Rattle.std.proofs.Common.{refl}
use Rattle.wat_recover.specs.Machine.{state_of}
use Rattle.wat_recover.proofs.machine.Machine.apply.Goals as goal

pub returns-in-Ok : goal.returns-in-Ok
returns-in-Ok g c lawful = c.in-Ok.ensures.answers (state_of g.T.RowTables.tables c.args.self.now) refl lawful
