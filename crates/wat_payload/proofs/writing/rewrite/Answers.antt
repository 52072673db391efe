use Rattle.std.proofs.Common.{◌≡◌, ◌⊎◌, ◌≤◌, inl, length, sym, ◌∙◌, subst, arith}
use Rattle.std.proofs.lemmas.List.{take_rest}
use Rattle.wat_pages.specs.Pages.{count_of}
use Rattle.wat_pages.specs.Within.{bound_of}
use Rattle.wat_payload.proofs.Going.{covers_then, if_page_limit}
use Rattle.wat_payload.proofs.Laying.{none_left, worked_anew, within_more, bound_same}
use Rattle.wat_payload.proofs.Cutting.{front_and_back, full_or_none, back_least, more_needed}
use Rattle.wat_payload.proofs.writing.rewrite.Goals as goal

pub returns-in-Ok-write_part-clause-written : goal.returns-in-Ok-write_part-clause-written
returns-in-Ok-write_part-clause-written g c tells me owners free real plain owned left =
    let payload = c.args.payload.now in
    let front = c.part-front.result.now in
    let rest = take_rest payload (length front) in
    let f = c.in-Ok.ensures.freed tells me c.args.here owners free real plain owned left in
    let l = c.in-Ok-write_parts.ensures.laid tells me c.args.here f.next f.unused real plain f.owned (none_left _ c.args.here f.left) in
    let w = c.in-Ok-write_part.ensures.written tells me l.took.next l.took.unused l.list _ real l.took.owned l.took.tail in
    worked_anew me _ owners free _ _ _ c.args.here c.in-Ok-write_parts.next _ front _ payload real f l w (front_and_back payload front _ c.part-front.ensures.part rest) (back_least payload front _ rest c.requires.some c.part-front.ensures.part)
    (full_or_none payload front _ c.part-front.ensures.part rest)

pub returns-in-Ok-write_part-clause-within : goal.returns-in-Ok-write_part-clause-within
returns-in-Ok-write_part-clause-within g c tells =
    let count = c.write_part.ensures.same.count in
    let old = c.args.pages.now in
    let mid = c.free_pages.new.pages in
    subst (λ n. (n ≡ count_of old) ⊎ (n ≤ bound_of c.args.within old)) (sym count)
    (within_more _ _ _ _ (inl c.free_pages.ensures.count) (subst (λ n. (count_of c.write_parts.new.pages ≡ count_of mid) ⊎ (count_of c.write_parts.new.pages ≤ n)) (bound_same c.args.within old mid c.free_pages.ensures.limit) (c.in-Ok-write_parts.ensures.within tells)))

pub returns-in-Err-write_parts-clause-limited : goal.returns-in-Err-write_parts-clause-limited
returns-in-Err-write_parts-clause-limited g c =
    if_page_limit c.in-Err-write_parts.refusal _ _ (λ count limit at. (omega (arith, at.0, c.free_pages.ensures.count), at.1 ∙ bound_same c.args.within c.args.pages.now c.free_pages.new.pages c.free_pages.ensures.limit, at.2)) c.in-Err-write_parts.ensures.limited

pub returns-in-Err-write_parts-clause-needed : goal.returns-in-Err-write_parts-clause-needed
returns-in-Err-write_parts-clause-needed g c tells me owners free real plain owned left =
    let payload = c.args.payload.now in
    let front = c.part-front.result.now in
    let rest = take_rest payload (length front) in
    let f = c.in-Ok.ensures.freed tells me c.args.here owners free real plain owned left in
    let n = c.in-Err-write_parts.ensures.needed tells me c.args.here f.next f.unused real plain f.owned (none_left _ c.args.here f.left) in
    let count = c.free_pages.ensures.count in
    if_page_limit c.in-Err-write_parts.refusal _ _ (λ k limit at. more_needed payload front _ (length c.args.behind.now) (length free) (length f.unused) limit (count_of c.args.pages.now) (count_of c.free_pages.new.pages) (full_or_none payload front _ c.part-front.ensures.part rest) f.more count at) n

pub returns-in-Err-write_parts-clause-undamaged : goal.returns-in-Err-write_parts-clause-undamaged
returns-in-Err-write_parts-clause-undamaged g c tells saved me owners free safe count real plain owned left =
    let f = c.in-Ok.ensures.freed tells me c.args.here owners free real plain owned left in
    c.in-Err-write_parts.ensures.undamaged tells saved me c.args.here f.next f.unused (c.in-Ok.ensures.safe tells saved safe) (count ∙ sym c.free_pages.ensures.stored) real plain f.owned (none_left _ c.args.here f.left)

pub returns-in-Err-write_part-clause-undamaged : goal.returns-in-Err-write_part-clause-undamaged
returns-in-Err-write_part-clause-undamaged g c tells saved me owners free safe count real plain owned left =
    c.in-Err-write_part.ensures.undamaged tells saved (c.in-Ok-write_parts.ensures.safe tells saved (c.in-Ok.ensures.safe tells saved safe)) (count ∙ sym c.free_pages.ensures.stored ∙ sym c.write_parts.ensures.stored)

pub returns-in-Err-write_parts-clause-stops : goal.returns-in-Err-write_parts-clause-stops
returns-in-Err-write_parts-clause-stops g c tells saved safe = covers_then saved _ _ _ (c.free_pages.ensures.stops tells saved safe) (c.write_parts.ensures.stops tells saved (c.in-Ok.ensures.safe tells saved safe))

pub returns-in-Err-write_part-clause-stops : goal.returns-in-Err-write_part-clause-stops
returns-in-Err-write_part-clause-stops g c tells saved safe =
    let one = c.in-Ok.ensures.safe tells saved safe in
    covers_then saved _ _ _ (covers_then saved _ _ _ (c.free_pages.ensures.stops tells saved safe) (c.write_parts.ensures.stops tells saved one)) (c.write_part.ensures.stops tells saved (c.in-Ok-write_parts.ensures.safe tells saved one))

pub returns-in-Ok-write_part-clause-stops : goal.returns-in-Ok-write_part-clause-stops
returns-in-Ok-write_part-clause-stops g c tells saved safe =
    let one = c.in-Ok.ensures.safe tells saved safe in
    covers_then saved _ _ _ (covers_then saved _ _ _ (c.free_pages.ensures.stops tells saved safe) (c.write_parts.ensures.stops tells saved one)) (c.write_part.ensures.stops tells saved (c.in-Ok-write_parts.ensures.safe tells saved one))

pub returns-in-Err-clause-undamaged : goal.returns-in-Err-clause-undamaged
returns-in-Err-clause-undamaged g c tells saved me owners free safe count real plain owned left = c.in-Err.ensures.undamaged tells saved safe count

pub returns-in-Ok-write_part-clause-safe : goal.returns-in-Ok-write_part-clause-safe
returns-in-Ok-write_part-clause-safe g c tells saved safe = c.in-Ok-write_part.ensures.safe tells saved (c.in-Ok-write_parts.ensures.safe tells saved (c.in-Ok.ensures.safe tells saved safe))
