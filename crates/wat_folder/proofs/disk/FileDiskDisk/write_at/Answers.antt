use Rattle.std.proofs.Common.{◌∙◌, ap, arith}
use Rattle.wat_faults.specs.Faults.{counted}
use Rattle.wat_folder.proofs.Telling.{stops, failed}
use Rattle.wat_folder.proofs.disk.FileDiskDisk.write_at.Goals as goal

pub returns-then-not-begin-clause-counts : goal.returns-then-not-begin-clause-counts
returns-then-not-begin-clause-counts g c =
    failed c.args.self.now.moment c.fault.new.self.moment c.args.self.now.faults c.fault.new.self.faults
    (c.fault.ensures.moment ∙ c.begin.ensures.moment) (c.fault.ensures.faults ∙ ap counted c.begin.ensures.faults) (omega (arith, c.fault.ensures.never_falls, c.begin.ensures.faults))

pub returns-then-not-begin-clause-stops : goal.returns-then-not-begin-clause-stops
returns-then-not-begin-clause-stops g c =
    stops c.args.self.now.moment c.fault.new.self.moment c.args.self.now.faults c.fault.new.self.faults (omega (arith, c.begin.ensures.later, c.fault.ensures.moment))
