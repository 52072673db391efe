use Rattle.std.proofs.Common.{refl}
use Rattle.wat_locks.proofs.PutLemmas.{inserted}
use Rattle.wat_locks.proofs.table.Table.put.Goals as goal

pub returns-clause-ok : goal.returns-clause-ok
returns-clause-ok c =
    inserted c.args.self.now.resources.keys c.insert.new.self.keys c.args.resource c.in_ok-fresh.fresh c.in_ok-fresh.ensures.added c.in_ok-fresh.ensures.keys c.args.self.now (record c.args.self.now { resources = c.insert.new.self }) refl refl
