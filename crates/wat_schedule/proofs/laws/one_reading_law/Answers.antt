use Rattle.wat_schedule.proofs.laws.one_reading_law.Goals as goal
use Rattle.wat_schedule.proofs.Written.{one_reading}

pub returns : goal.returns
returns c = one_reading
