use Rattle.wat_repeating.proofs.Moving.{limited_cause}
use Rattle.wat_repeating.proofs.repeating.repeat_record.Goals as goal

pub returns-in-Err-clause-limited : goal.returns-in-Err-clause-limited
returns-in-Err-clause-limited g c = limited_cause c.args.on.now c.apply_to.new.target c.cause.result c.apply_to.ensures.went.beside c.requires.going c.cause.ensures.limited
