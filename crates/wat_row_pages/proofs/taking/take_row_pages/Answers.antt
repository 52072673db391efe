use Rattle.std.proofs.Common.{sym}
use Rattle.wat_roots.proofs.Going.{went_nowhere}
use Rattle.wat_row_pages.proofs.taking.take_row_pages.Goals as goal

pub returns-in-Err-clause-went : goal.returns-in-Err-clause-went
returns-in-Err-clause-went g c tells = went_nowhere _ _

pub returns-in-Err-page_set-clause-went : goal.returns-in-Err-page_set-clause-went
returns-in-Err-page_set-clause-went g c tells = went_nowhere _ _

pub returns-in-Ok-take_pages-clause-taken : goal.returns-in-Ok-take_pages-clause-taken
returns-in-Ok-take_pages-clause-taken g c tells = c.in-Ok-take_pages.ensures.taken tells c.args.schema.now c.args.listed.now c.catalog_law.ensures (sym c.in-Ok.ensures) c.in-Ok-page_set.ensures

pub returns-clause-damaged : goal.returns-clause-damaged
returns-clause-damaged g c tells = c.in-Err-take_pages.ensures.damaged tells c.args.schema.now c.args.listed.now c.catalog_law.ensures (sym c.in-Ok.ensures) c.in-Ok-page_set.ensures
