use Rattle.wat_payload.proofs.Laying.{worked_first}
use Rattle.wat_payload.proofs.writing.write_part.Goals as goal

pub returns-in-Ok-clause-written : goal.returns-in-Ok-clause-written
returns-in-Ok-clause-written g c tells me owners free list rest real owned tail =
    worked_first me _ owners free _ c.args.page c.args.next list rest c.in_ok-held.held c.args.part.now real c.requires.numbered.0 owned tail c.in_ok-held.ensures.link (c.in-Ok.ensures.written tells)
