use Rattle.std.proofs.Common.{refl}
use Rattle.wat_repeating.proofs.Moving.{stands_reading, moves_reading}
use Rattle.wat_repeating.proofs.on_pages.OnPages.read_frame.Goals as goal

pub returns-in-Ok-clause-stands : goal.returns-in-Ok-clause-stands
returns-in-Ok-clause-stands g c s is = stands_reading c.args.self.now _ s is c.records_at.ensures.content c.records_at.ensures.stops refl refl

pub returns-in-Ok-clause-going : goal.returns-in-Ok-clause-going
returns-in-Ok-clause-going g c none = moves_reading c.args.self.now _ c.records_at.ensures.content c.records_at.ensures.stops refl refl none c.records_at.ensures.cause.later

pub returns-in-Err-clause-stands : goal.returns-in-Err-clause-stands
returns-in-Err-clause-stands g c s is = stands_reading c.args.self.now _ s is c.records_at.ensures.content c.records_at.ensures.stops refl refl

pub returns-in-Err-clause-going : goal.returns-in-Err-clause-going
returns-in-Err-clause-going g c none = moves_reading c.args.self.now _ c.records_at.ensures.content c.records_at.ensures.stops refl refl none c.records_at.ensures.cause.later
