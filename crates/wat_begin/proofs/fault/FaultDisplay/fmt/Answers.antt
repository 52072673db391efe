use Rattle.std.proofs.Common.{append_assoc}
use Rattle.wat_begin.proofs.fault.FaultDisplay.fmt.Goals as goal

pub returns-in-NotText-clause-writes : goal.returns-in-NotText-clause-writes
returns-in-NotText-clause-writes g c = let written = c.write-in-NotText.ensures.writes in rw c.in-NotText.is (simp append_assoc written)
