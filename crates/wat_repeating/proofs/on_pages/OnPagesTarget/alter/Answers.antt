use Rattle.std.proofs.Common.{refl}
use Rattle.wat_cells.proofs.Then.{limit_to}
use Rattle.wat_repeating.specs.OnPages.{IsFull}
use Rattle.wat_schema.specs.Tables.{after_alter}
use Rattle.wat_repeating.proofs.Moving.{stands_by, moves_by, went_ok, went_err, no_damage}
use Rattle.wat_repeating.proofs.on_pages.OnPagesTarget.alter.Goals as goal

pub returns-in-Ok-clause-altered : goal.returns-in-Ok-clause-altered
returns-in-Ok-clause-altered g c s is allowed = stands_by c.args.self.now _ s (record { tables = after_alter c.args.change.now s.tables; lists = s.lists }) is (c.alter.ensures.goes is.tells) (c.in-Ok.ensures.keeps is.tells) is.going (c.in-Ok.ensures.altered is.tells s is.holds allowed)

pub returns-in-Ok-clause-went : goal.returns-in-Ok-clause-went
returns-in-Ok-clause-went g c = went_ok c.args.self.now _ c.alter.result c.in-Ok.field-0 tt c.in-Ok.is (moves_by c.args.self.now _ c.alter.ensures.goes c.in-Ok.ensures.keeps c.in-None.is c.in-None.is c.alter.ensures.cause.later) c.alter.ensures.cause

pub returns-in-Err-clause-altered : goal.returns-in-Err-clause-altered
returns-in-Err-clause-altered g c s is allowed = no_damage c.gives.result _ _ c.gives.ensures.damage (c.in-Err.ensures.undamaged is.tells is.saved is.safe is.counted s is.holds)

pub returns-in-Err-clause-went : goal.returns-in-Err-clause-went
returns-in-Err-clause-went g c =
    went_err c.args.self.now _ c.alter.result c.in-Err.refusal _ c.in-Err.is c.gives.ensures.fault c.alter.ensures.goes c.in-None.is refl c.alter.ensures.cause
    (limit_to c.in-Err.refusal _ IsFull (λ count limit is. (is.0, is.1)) c.in-Err.ensures.limited)
