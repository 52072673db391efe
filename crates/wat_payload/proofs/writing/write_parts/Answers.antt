use Rattle.std.proofs.Common.{◌≡◌, ◌⊎◌, ◌*◌, ◌≤◌, inl, length, drop, refl, sym, ◌∙◌, subst, arith}
use Rattle.wat_pages.specs.Pages.{count_of}
use Rattle.wat_images.proofs.Writing.{no_cause, caused}
use Rattle.wat_payload.proofs.Going.{covers_none, covers_then, if_page_limit}
use Rattle.wat_payload.proofs.Laying.{lays_none, lays_more, lays_all, lays_too_few, part_before, within_more, bound_same}
use Rattle.wat_payload.proofs.writing.write_parts.Goals as goal

pub loop-left-init : goal.loop-left-init
loop-left-init g c = record {
  few = omega (arith, c.parts_in-left.ensures.few);
  laid = λ tells me kept owners free real plain owned tail. lays_none me _ owners free kept c.args.payload.now c.parts_in-left.result owned tail (omega (arith, c.parts_in-left.ensures.enough)) (omega (arith, c.parts_in-left.ensures.few));
  grows = omega arith;
  within = λ tells. inl refl;
  limit = refl;
  stored = refl;
  header_is = refl;
  known = c.requires.known;
  others = λ file from. refl;
  stops = λ tells saved safe. covers_none saved _ safe;
  safe = λ tells saved safe. safe;
  cause = no_cause _;
}

pub loop-left-preserved : goal.loop-left-preserved
loop-left-preserved g c =
    let i = c.loop-left.invariant in
    let a = c.add_part.ensures in
    let payload = c.args.payload.now in
    let left = c.loop-left.left in
    record {
      few = omega (arith, i.few);
      laid = λ tells me kept owners free real plain owned tail.
          let l = i.laid tells me kept owners free real plain owned tail in
          lays_more me _ owners free _ _ kept c.loop-left.first c.in-Ok.page (drop (4080 * left) payload) c.part.result.now _ (length payload) left _ real (omega arith) l
          (c.in-Ok.ensures.took tells me kept l.took.next l.took.unused l.list (drop (4080 * left) payload) real plain l.took.owned l.took.tail)
          (part_before payload c.part.result.now left _ (omega arith) c.part.ensures.part);
      grows = omega (arith, i.grows, a.grows);
      within = λ tells. within_more _ _ _ _ (i.within tells)
          (subst (λ n. (count_of c.add_part.new.pages ≡ count_of c.loop-left.pages) ⊎ (count_of c.add_part.new.pages ≤ n)) (bound_same c.args.within c.args.pages.now c.loop-left.pages i.limit) (c.in-Ok.ensures.within tells));
      limit = a.limit ∙ i.limit;
      stored = a.stored ∙ i.stored;
      header_is = a.header ∙ i.header_is;
      known = c.in-Ok.ensures.known;
      others = λ file from. a.others file from ∙ i.others file from;
      stops = λ tells saved safe. covers_then saved _ _ _ (i.stops tells saved safe) (a.stops tells saved (i.safe tells saved safe));
      safe = λ tells saved safe. c.in-Ok.ensures.safe tells saved (i.safe tells saved safe);
      cause = caused _ _ _ _ i.cause a.cause (λ e. let ok = c.in-Ok.is in cc);
    }

pub returns-in-Err-clause-stops : goal.returns-in-Err-clause-stops
returns-in-Err-clause-stops g c tells saved safe =
    let i = c.loop-left.invariant in covers_then saved _ _ _ (i.stops tells saved safe) (c.add_part.ensures.stops tells saved (i.safe tells saved safe))

pub returns-in-Err-clause-undamaged : goal.returns-in-Err-clause-undamaged
returns-in-Err-clause-undamaged g c tells saved me kept owners free safe count real plain owned tail =
    let i = c.loop-left.invariant in
    let l = i.laid tells me kept owners free real plain owned tail in
    c.in-Err.ensures.undamaged tells saved l.took.next l.took.unused (i.safe tells saved safe) (count ∙ sym i.stored) l.took.owned

pub returns-in-Err-clause-needed : goal.returns-in-Err-clause-needed
returns-in-Err-clause-needed g c tells me kept owners free real plain owned tail =
    let i = c.loop-left.invariant in
    let l = i.laid tells me kept owners free real plain owned tail in
    if_page_limit c.in-Err.refusal _ _ (λ count limit at. lays_too_few me _ owners free _ kept c.loop-left.first _ (length c.args.payload.now) c.loop-left.left limit l (omega arith) at.0 (omega (arith, at.1, at.3))) c.in-Err.ensures.limited

pub returns-clause-laid : goal.returns-clause-laid
returns-clause-laid g c tells me kept owners free real plain owned tail =
    lays_all me _ owners free _ kept c.loop-left.first c.args.payload.now c.loop-left.left (omega arith) (c.loop-left.invariant.laid tells me kept owners free real plain owned tail)
