use Rattle.std.proofs.Common.{refl}
use Rattle.wat_cells.proofs.Then.{limit_to}
use Rattle.wat_repeating.specs.OnPages.{IsFull}
use Rattle.wat_repeating.proofs.Moving.{stands_by, moves_by, went_ok, went_err, no_damage}
use Rattle.wat_repeating.proofs.on_pages.OnPagesTarget.make.Goals as goal

pub returns-in-Ok-clause-made : goal.returns-in-Ok-clause-made
returns-in-Ok-clause-made g c s t is applies = stands_by c.args.self.now _ s (record { tables = t; lists = s.lists }) is (c.make.ensures.goes is.tells) (c.in-Ok.ensures.keeps is.tells) is.going (c.in-Ok.ensures.made is.tells s t is.holds applies)

pub returns-in-Ok-clause-went : goal.returns-in-Ok-clause-went
returns-in-Ok-clause-went g c = went_ok c.args.self.now _ c.make.result c.in-Ok.field-0 tt c.in-Ok.is (moves_by c.args.self.now _ c.make.ensures.goes c.in-Ok.ensures.keeps c.in-None.is c.in-None.is c.make.ensures.cause.later) c.make.ensures.cause

pub returns-in-Err-clause-made : goal.returns-in-Err-clause-made
returns-in-Err-clause-made g c s t is applies = no_damage c.gives.result _ _ c.gives.ensures.damage (c.in-Err.ensures.undamaged is.tells is.saved is.safe is.counted s is.holds)

pub returns-in-Err-clause-went : goal.returns-in-Err-clause-went
returns-in-Err-clause-went g c =
    went_err c.args.self.now _ c.make.result c.in-Err.refusal _ c.in-Err.is c.gives.ensures.fault c.make.ensures.goes c.in-None.is refl c.make.ensures.cause
    (limit_to c.in-Err.refusal _ IsFull (λ count limit is. (is.1, is.2)) c.in-Err.ensures.limited)
