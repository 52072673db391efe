use Rattle.std.proofs.Common.{ℕ, List, inl, subst}
use Rattle.wat_disk.proofs.Stops.{both_same}
use Rattle.wat_gate.specs.Bodies.{IsBrokenAt}
use Rattle.wat_pages.specs.Header.{head_of}
use Rattle.wat_files.specs.Formed.{HasLog, LogStops}
use Rattle.wat_loading.proofs.Logging.{in_log, of_gate}
use Rattle.wat_loading.proofs.log.open_log.Goals as goal

pub returns-in-Err-clause-damaged : goal.returns-in-Err-clause-damaged
returns-in-Err-clause-damaged g c tells limit count free =
    let told = g.D.Disk.told c.args.disk.now in
    in_log _ (IsBrokenAt (told.content 2)) (LogStops (told.content 2) (head_of c.args.header.now limit count free)) (λ at is. inl is) (of_gate c.in-Err.refusal _ (IsBrokenAt (told.content 2)) (c.in-Err.ensures.damaged tells) c.of_log.ensures.place)

pub returns-in-Err-check_header-clause-damaged : goal.returns-in-Err-check_header-clause-damaged
returns-in-Err-check_header-clause-damaged g c tells limit count free =
    let head = head_of c.args.header.now limit count free in
    let old = g.D.Disk.told c.args.disk.now in
    let mid = g.D.Disk.told c.open.new.disk in
    in_log _ (LogStops (mid.content 2) head) (LogStops (old.content 2) head) (λ at is. subst (λ (content : List ℕ). LogStops content head at) (c.open.ensures.content 2) is) (c.in-Err-check_header.ensures.damaged tells limit count free)

pub returns-in-Ok-check_header-clause-has : goal.returns-in-Ok-check_header-clause-has
returns-in-Ok-check_header-clause-has g c tells limit count free =
    subst (λ (content : List ℕ). HasLog content (head_of c.args.header.now limit count free)) (c.open.ensures.content 2) (c.in-Ok-check_header.ensures.has tells limit count free)

pub returns-in-Ok-check_header-clause-stops : goal.returns-in-Ok-check_header-clause-stops
returns-in-Ok-check_header-clause-stops g c = both_same _ _ _ c.open.ensures.stops c.check_header.ensures.stops

pub returns-in-Err-check_header-clause-stops : goal.returns-in-Err-check_header-clause-stops
returns-in-Err-check_header-clause-stops g c = both_same _ _ _ c.open.ensures.stops c.check_header.ensures.stops
