use Rattle.std.proofs.Common.{◌-◌, ◌<◌, length, sym, ◌∙◌}
use Rattle.std.proofs.lemmas.Bool.{eqb-true}
use Rattle.std.proofs.lemmas.List.Elements.{All-rest}
use Rattle.wat_pages.specs.Pages.{count_of}
use Rattle.wat_payload.proofs.Going.{if_page_limit}
use Rattle.wat_payload.proofs.Laying.{worked_laid}
use Rattle.wat_payload.proofs.Starting.{whole_left, behind_left, whole_none, gives_up, too_much_behind, too_much_none}
use Rattle.wat_payload.proofs.writing.write_over.Goals as goal

pub returns-in-Ok-clause-written : goal.returns-in-Ok-clause-written
returns-in-Ok-clause-written g c tells me first owners free before real plain owned whole =
    gives_up me _ owners free _ (length c.args.list.now) c.args.payload.now plain (eqb-true (length c.args.payload.now) 0 (sym c.is_empty.ensures ∙ c.if-is_empty.true)) (c.in-Ok.ensures.freed tells me 0 owners free real plain owned (whole_left _ first c.args.list.now before whole))

pub returns-in-Err-clause-undamaged : goal.returns-in-Err-clause-undamaged
returns-in-Err-clause-undamaged g c tells saved me first owners free before safe count real plain owned whole = c.in-Err.ensures.undamaged tells saved safe count

pub rewrite-requires-clause-numbered : goal.rewrite-requires-clause-numbered
rewrite-requires-clause-numbered g c =
    All-rest (λ page. (0 < page) × (page < count_of c.args.pages.now)) c.in-Some.here.now c.in-Some.behind.now c.args.list.now c.in-Some.ensures.cases.0 c.requires.numbered

pub returns-in-Ok-rewrite-clause-written : goal.returns-in-Ok-rewrite-clause-written
returns-in-Ok-rewrite-clause-written g c tells me first owners free before real plain owned whole =
    c.in-Ok-rewrite.ensures.written tells me owners free real plain owned (behind_left _ first c.args.list.now before whole c.in-Some.here.now c.in-Some.behind.now c.in-Some.ensures.cases.0)

pub returns-in-Err-rewrite-clause-undamaged : goal.returns-in-Err-rewrite-clause-undamaged
returns-in-Err-rewrite-clause-undamaged g c tells saved me first owners free before safe count real plain owned whole =
    c.in-Err-rewrite.ensures.undamaged tells saved me owners free safe count real plain owned (behind_left _ first c.args.list.now before whole c.in-Some.here.now c.in-Some.behind.now c.in-Some.ensures.cases.0)

pub returns-in-Err-rewrite-clause-needed : goal.returns-in-Err-rewrite-clause-needed
returns-in-Err-rewrite-clause-needed g c tells me first owners free before real plain owned whole =
    if_page_limit c.in-Err-rewrite.refusal _ _
    (λ count limit at. too_much_behind c.args.list.now c.in-Some.here.now c.in-Some.behind.now (length free) (limit - count_of c.args.pages.now) (length c.args.payload.now) c.in-Some.ensures.cases.0 at)
    (c.in-Err-rewrite.ensures.needed tells me owners free real plain owned (behind_left _ first c.args.list.now before whole c.in-Some.here.now c.in-Some.behind.now c.in-Some.ensures.cases.0))

pub returns-in-Ok-write_parts-clause-written : goal.returns-in-Ok-write_parts-clause-written
returns-in-Ok-write_parts-clause-written g c tells me first owners free before real plain owned whole =
    worked_laid me _ owners free _ c.in-Ok-write_parts.now c.args.payload.now plain (c.in-Ok-write_parts.ensures.laid tells me 0 owners free real plain owned (whole_none _ first c.args.list.now before whole c.in-None.ensures.cases))

pub returns-in-Err-write_parts-clause-undamaged : goal.returns-in-Err-write_parts-clause-undamaged
returns-in-Err-write_parts-clause-undamaged g c tells saved me first owners free before safe count real plain owned whole =
    c.in-Err-write_parts.ensures.undamaged tells saved me 0 owners free safe count real plain owned (whole_none _ first c.args.list.now before whole c.in-None.ensures.cases)

pub returns-in-Err-write_parts-clause-needed : goal.returns-in-Err-write_parts-clause-needed
returns-in-Err-write_parts-clause-needed g c tells me first owners free before real plain owned whole =
    if_page_limit c.in-Err-write_parts.refusal _ _
    (λ count limit at. too_much_none c.args.list.now (length free) (limit - count_of c.args.pages.now) (length c.args.payload.now) c.in-None.ensures.cases at)
    (c.in-Err-write_parts.ensures.needed tells me 0 owners free real plain owned (whole_none _ first c.args.list.now before whole c.in-None.ensures.cases))
