use Rattle.wat_recover.proofs.Listing.{popped_so}
use Rattle.wat_recover.proofs.machine.MachineTarget.pop.Goals as goal

pub returns-clause-popped : goal.returns-clause-popped
returns-clause-popped g c s is = popped_so (g.T.RowTables.tables c.args.self.now.tables) s c.args.self.now.lists c.pop.new.self c.args.conn c.pop.result is c.pop.ensures
