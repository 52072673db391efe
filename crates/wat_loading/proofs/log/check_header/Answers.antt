use Rattle.wat_pages.specs.Header.{head_of}
use Rattle.wat_files.specs.Formed.{LogStops}
use Rattle.wat_loading.proofs.Logging.{has_log, log_stops, never, at_place, of_gate}
use Rattle.wat_loading.proofs.log.check_header.Goals as goal

pub returns-in-Err-clause-damaged : goal.returns-in-Err-clause-damaged
returns-in-Err-clause-damaged g c tells limit count free = never _ _ (of_gate c.in-Err.refusal _ (λ at. ⊥) (c.in-Err.ensures.undamaged tells) c.of_log.ensures.place)

pub returns-then-not-agrees-clause-damaged : goal.returns-then-not-agrees-clause-damaged
returns-then-not-agrees-clause-damaged g c tells limit count free =
    let told = g.D.Disk.told c.args.disk.now in
    let head = head_of c.args.header.now limit count free in
    at_place _ c.in-Ok.at (LogStops (told.content 2) head)
    (log_stops told c.args.log.now (c.requires.known tells) head c.frames-frames.result c.least.result c.in-Ok.at c.frames-frames.ensures c.least.ensures.first c.least.ensures.second (c.in-Ok.ensures.place tells) c.agrees.result c.agrees.ensures c.if-not-agrees.true) c.broken.ensures.place

pub returns-clause-has : goal.returns-clause-has
returns-clause-has g c tells limit count free =
    let told = g.D.Disk.told c.args.disk.now in
    has_log told c.args.log.now (c.requires.known tells) (head_of c.args.header.now limit count free) c.frames-frames.result c.least.result c.in-Ok.at c.frames-frames.ensures c.least.ensures.first c.least.ensures.second (c.in-Ok.ensures.place tells) c.agrees.result c.agrees.ensures c.if-not-agrees.false
