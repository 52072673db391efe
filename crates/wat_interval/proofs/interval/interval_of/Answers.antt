use Rattle.wat_interval.proofs.EndLemmas.{both_bounds}
use Rattle.wat_interval.proofs.interval.interval_of.Goals as goal

pub returns : goal.returns
returns c = both_bounds c.args.columns.now c.taken-columns.result.now c.in_ok-lower.lower c.in_ok-upper.upper c.taken-columns.ensures c.in_ok-lower.ensures c.in_ok-upper.ensures
