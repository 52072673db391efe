use Rattle.std.proofs.Common.{sym, ◌∙◌}
use Rattle.wat_payload.proofs.Going.{covers_then}
use Rattle.wat_payload.proofs.Laying.{took_one, within_one}
use Rattle.wat_payload.proofs.writing.add_part.Goals as goal

pub returns-in-Ok-write_page-clause-took : goal.returns-in-Ok-write_page-clause-took
returns-in-Ok-write_page-clause-took g c tells me kept owners free list rest real plain owned tail =
    took_one me _ owners free _ _ kept c.in-Ok.page c.args.next list rest c.in_ok-held.held c.args.part.now real plain owned tail (c.in-Ok.ensures.taken tells) c.in-Ok.ensures.page c.in_ok-held.ensures.link (c.in-Ok-write_page.ensures.written tells)

pub returns-in-Ok-write_page-clause-within : goal.returns-in-Ok-write_page-clause-within
returns-in-Ok-write_page-clause-within g c tells = within_one _ _ _ _ (c.in-Ok.ensures.taken tells) c.in-Ok.ensures.within c.write_page.ensures.same.count

pub returns-in-Ok-write_page-clause-stops : goal.returns-in-Ok-write_page-clause-stops
returns-in-Ok-write_page-clause-stops g c tells saved safe = covers_then saved _ _ _ (c.new_page.ensures.stops tells saved safe) (c.write_page.ensures.stops tells saved (c.in-Ok.ensures.safe tells saved safe))

pub returns-clause-stops : goal.returns-clause-stops
returns-clause-stops g c tells saved safe = covers_then saved _ _ _ (c.new_page.ensures.stops tells saved safe) (c.write_page.ensures.stops tells saved (c.in-Ok.ensures.safe tells saved safe))

pub returns-clause-undamaged : goal.returns-clause-undamaged
returns-clause-undamaged g c tells saved owners free safe count owned = c.in-Err-write_page.ensures.undamaged tells saved (c.in-Ok.ensures.safe tells saved safe) (count ∙ sym c.new_page.ensures.stored)

pub returns-in-Ok-write_page-clause-safe : goal.returns-in-Ok-write_page-clause-safe
returns-in-Ok-write_page-clause-safe g c tells saved safe = c.in-Ok-write_page.ensures.safe tells saved (c.in-Ok.ensures.safe tells saved safe)
