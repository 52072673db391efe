use Rattle.std.proofs.Common.{length}
use Rattle.wat_log.specs.Reading.{HasRead}
use Rattle.wat_log.proofs.reading.push_records.Given as goal

abbrev pub invariant-loop-rest : goal.invariant-loop-rest
invariant-loop-rest l = HasRead l.body l.fn.into l.into l.rest

abbrev pub decreases-loop-rest : goal.decreases-loop-rest
decreases-loop-rest l = length l.rest
