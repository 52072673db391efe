use Rattle.wat_repeating.proofs.Moving.{stands_by, moves_by, went_ok}
use Rattle.wat_repeating.proofs.on_pages.OnPagesTarget.row.Goals as goal

pub returns-in-Ok-row-clause-stays : goal.returns-in-Ok-row-clause-stays
returns-in-Ok-row-clause-stays g c s is = stands_by c.args.self.now _ s s is (c.row.ensures.goes is.tells) (c.in-Ok-row.ensures.keeps is.tells) is.going (c.in-Ok-row.ensures.holds is.tells s is.holds)

pub returns-in-Ok-row-clause-went : goal.returns-in-Ok-row-clause-went
returns-in-Ok-row-clause-went g c = went_ok c.args.self.now _ c.row.result c.in-Ok-row.row c.in-Ok-row.row c.in-Ok-row.is (moves_by c.args.self.now _ c.row.ensures.goes c.in-Ok-row.ensures.keeps c.in-None.is c.in-None.is c.row.ensures.cause.later) c.row.ensures.cause

pub returns-in-Ok-gives-clause-row : goal.returns-in-Ok-gives-clause-row
returns-in-Ok-gives-clause-row g c s is = absurd (c.in-Ok-gives.ensures.damage (c.in-Err-row.ensures.undamaged is.tells is.saved is.safe is.counted s is.holds))

pub returns-in-Ok-gives-clause-stays : goal.returns-in-Ok-gives-clause-stays
returns-in-Ok-gives-clause-stays g c s is = absurd (c.in-Ok-gives.ensures.damage (c.in-Err-row.ensures.undamaged is.tells is.saved is.safe is.counted s is.holds))
