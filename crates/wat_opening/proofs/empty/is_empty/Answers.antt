use Rattle.wat_opening.proofs.Answering.{none_long}
use Rattle.wat_opening.proofs.empty.is_empty.Goals as goal

pub returns-in-Ok-clause-empty : goal.returns-in-Ok-clause-empty
returns-in-Ok-clause-empty g c tells = none_long ((g.D.Disk.told c.args.disk.now).content c.args.file.0) c.in-Ok.length (c.in-Ok.ensures.length tells)
