use Rattle.std.proofs.Common.{refl, sym, ◌∙◌}
use Rattle.wat_images.proofs.Writing.{no_cause, caused}
use Rattle.wat_payload.proofs.Going.{covers_none, covers_then}
use Rattle.wat_payload.proofs.Laying.{freed_none, freed_at, freed_all}
use Rattle.wat_payload.proofs.writing.free_pages.Goals as goal

pub loop-page-init : goal.loop-page-init
loop-page-init g c = record {
  freed = λ tells me kept owners free real plain owned left. freed_none me _ owners free kept c.args.list.now owned left;
  count = refl;
  limit = refl;
  stored = refl;
  header_is = refl;
  known = c.requires.known;
  others = λ file from. refl;
  stops = λ tells saved safe. covers_none saved _ safe;
  safe = λ tells saved safe. safe;
  cause = no_cause _;
}

pub loop-page-preserved : goal.loop-page-preserved
loop-page-preserved g c =
    let i = c.loop-page.invariant in
    let f = c.free_page.ensures in
    record {
      freed = λ tells me kept owners free real plain owned left. freed_at me _ owners free _ _ kept c.args.list.now c.loop-page.page-index c.loop-page-test.true real plain (i.freed tells me kept owners free real plain owned left) (c.in-Ok.ensures.given tells);
      count = f.count ∙ i.count;
      limit = f.limit ∙ i.limit;
      stored = f.stored ∙ i.stored;
      header_is = f.header ∙ i.header_is;
      known = c.in-Ok.ensures.known;
      others = λ file from. f.others file from ∙ i.others file from;
      stops = λ tells saved safe. covers_then saved _ _ _ (i.stops tells saved safe) (f.stops tells saved (i.safe tells saved safe));
      safe = λ tells saved safe. c.in-Ok.ensures.safe tells saved (i.safe tells saved safe);
      cause = caused _ _ _ _ i.cause f.cause (λ e. let ok = c.in-Ok.is in cc);
    }

pub returns-in-Err-clause-stops : goal.returns-in-Err-clause-stops
returns-in-Err-clause-stops g c tells saved safe =
    let i = c.loop-page.invariant in covers_then saved _ _ _ (i.stops tells saved safe) (c.free_page.ensures.stops tells saved (i.safe tells saved safe))

pub returns-in-Err-clause-undamaged : goal.returns-in-Err-clause-undamaged
returns-in-Err-clause-undamaged g c tells saved safe count =
    let i = c.loop-page.invariant in c.in-Err.ensures.undamaged tells saved (i.safe tells saved safe) (count ∙ sym i.stored)

pub returns-clause-freed : goal.returns-clause-freed
returns-clause-freed g c tells me kept owners free real plain owned left =
    freed_all me _ owners free _ kept c.args.list.now c.loop-page.page-index c.loop-page-test.false c.loop-page.auto.page-index-end (c.loop-page.invariant.freed tells me kept owners free real plain owned left)
