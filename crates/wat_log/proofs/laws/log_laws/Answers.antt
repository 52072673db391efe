use Rattle.wat_log.proofs.Bodies.{has_once, all_or_none}
use Rattle.wat_log.proofs.laws.log_laws.Goals as goal

pub returns : goal.returns
returns c = record { once = has_once; all_or_none = all_or_none }
