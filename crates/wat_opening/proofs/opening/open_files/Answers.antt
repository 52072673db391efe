use Rattle.std.proofs.Common.{◌≡◌}
use Rattle.wat_faults.specs.Faults.{Rose}
use Rattle.wat_images.specs.declared.refusal.PageRefusal.TheVariants.{DiskFault}
use Rattle.wat_images.specs.Refusal.{IfDamaged}
use Rattle.wat_cells.proofs.Then.{damaged_to}
use Rattle.wat_disk.specs.Disk.{EachStop}
use Rattle.wat_replay.specs.State.{State}
use Rattle.wat_files.specs.Formed.{AppliesBodies, IsFormed, FailsInRecords, FailsAt}
use Rattle.wat_keeping.specs.Durable.{LeavesEither}
use Rattle.wat_keeping.proofs.Calls.{call_behind}
use Rattle.wat_repeating.proofs.Moving.{not_limited}
use Rattle.wat_store.specs.Store.{told_of}
use Rattle.wat_opening.specs.Bringing.{later_in}
use Rattle.wat_opening.specs.Opening.{LeavesPages}
use Rattle.wat_opening.proofs.Reading.{load_stops, read_so, are_read, safe_loaded, later_now, frames_loaded, formed_so, fails_in_records}
use Rattle.wat_opening.proofs.Answering.{ok_to, err_to, any_damage, rose_then, leaves_then}
use Rattle.wat_opening.proofs.opening.open_files.Goals as goal

pub start-requires : goal.start-requires
start-requires g c = record {
  read = λ tells. are_read (g.D.Disk.told c.args.disk) (g.D.Disk.told c.load.new.disk) c.in-Ok.loaded (c.in-Ok.ensures.loaded tells) (c.load.ensures.others tells);
}

pub returns-in-Ok-clause-opened : goal.returns-in-Ok-clause-opened
returns-in-Ok-clause-opened g c tells limit t there is =
    c.start.ensures.opened tells limit t
    (read_so (g.D.Disk.told c.args.disk) (g.D.Disk.told c.load.new.disk) limit t there is c.in-Ok.loaded (c.in-Ok.ensures.loaded tells) (c.load.ensures.others tells) (c.load.ensures.stops tells) (c.in-Ok.ensures.safe tells))

pub returns-in-Ok-clause-limit : goal.returns-in-Ok-clause-limit
returns-in-Ok-clause-limit g c tells limit t there is =
    c.start.ensures.limit tells limit t
    (read_so (g.D.Disk.told c.args.disk) (g.D.Disk.told c.load.new.disk) limit t there is c.in-Ok.loaded (c.in-Ok.ensures.loaded tells) (c.load.ensures.others tells) (c.load.ensures.stops tells) (c.in-Ok.ensures.safe tells))

pub returns-in-Ok-clause-stops : goal.returns-in-Ok-clause-stops
returns-in-Ok-clause-stops g c tells limit t there is =
    let old = g.D.Disk.told c.args.disk in
    let mid = g.D.Disk.told c.load.new.disk in
    let read = read_so old mid limit t there is c.in-Ok.loaded (c.in-Ok.ensures.loaded tells) (c.load.ensures.others tells) (c.load.ensures.stops tells) (c.in-Ok.ensures.safe tells) in
    ok_to c.start.result (λ store. EachStop mid (told_of store) (LeavesEither limit t t)) (λ store. EachStop old (told_of store) (LeavesEither limit t t))
    (λ store next. call_behind old mid (told_of store) limit t t (load_stops old mid limit t there is (c.load.ensures.stops tells)) next)
    (c.start.ensures.stops tells limit t read)

pub returns-in-Ok-clause-stops_refused : goal.returns-in-Ok-clause-stops_refused
returns-in-Ok-clause-stops_refused g c tells limit t there is =
    let old = g.D.Disk.told c.args.disk in
    let mid = g.D.Disk.told c.load.new.disk in
    let read = read_so old mid limit t there is c.in-Ok.loaded (c.in-Ok.ensures.loaded tells) (c.load.ensures.others tells) (c.load.ensures.stops tells) (c.in-Ok.ensures.safe tells) in
    err_to c.start.result (λ refused. EachStop mid (g.D.Disk.told refused.disk) (LeavesEither limit t t)) (λ refused. EachStop old (g.D.Disk.told refused.disk) (LeavesEither limit t t))
    (λ refused next. call_behind old mid (g.D.Disk.told refused.disk) limit t t (load_stops old mid limit t there is (c.load.ensures.stops tells)) next)
    (c.start.ensures.stops_refused tells limit t read)

pub returns-in-Err-clause-stops_refused : goal.returns-in-Err-clause-stops_refused
returns-in-Err-clause-stops_refused g c tells limit t there is = load_stops (g.D.Disk.told c.args.disk) (g.D.Disk.told c.load.new.disk) limit t there is (c.load.ensures.stops tells)

pub returns-in-Ok-clause-formed : goal.returns-in-Ok-clause-formed
returns-in-Ok-clause-formed g c tells t there opens =
    let old = g.D.Disk.told c.args.disk in
    let mid = g.D.Disk.told c.load.new.disk in
    let l = c.in-Ok.ensures.loaded tells in
    c.start.ensures.restored tells l.saved opens.formed.now t (safe_loaded old mid c.in-Ok.loaded there l (c.load.ensures.others tells) (c.load.ensures.stops tells) (c.in-Ok.ensures.safe tells))
    (later_now old mid c.in-Ok.loaded opens.formed l (c.load.ensures.others tells)) opens.undone

pub returns-in-Ok-clause-damaged : goal.returns-in-Ok-clause-damaged
returns-in-Ok-clause-damaged g c tells there =
    let old = g.D.Disk.told c.args.disk in
    let mid = g.D.Disk.told c.load.new.disk in
    let l = c.in-Ok.ensures.loaded tells in
    err_to c.start.result (λ refused. IfDamaged refused.why (FailsInRecords (mid.content 2) l.head l.saved)) (λ refused. IfDamaged refused.why (FailsAt old.content))
    (λ refused fails. fails_in_records refused.why old.content mid c.in-Ok.loaded l (c.load.ensures.others tells) fails)
    (c.start.ensures.damaged tells l.saved l.head (safe_loaded old mid c.in-Ok.loaded there l (c.load.ensures.others tells) (c.load.ensures.stops tells) (c.in-Ok.ensures.safe tells)) (frames_loaded old mid c.in-Ok.loaded l))

pub returns-in-Ok-clause-left : goal.returns-in-Ok-clause-left
returns-in-Ok-clause-left g c tells there =
    let old = g.D.Disk.told c.args.disk in
    let mid = g.D.Disk.told c.load.new.disk in
    let l = c.in-Ok.ensures.loaded tells in
    err_to c.start.result (λ refused. IfDamaged refused.why (λ file at. LeavesPages mid (g.D.Disk.told refused.disk))) (λ refused. IfDamaged refused.why (λ file at. LeavesPages old (g.D.Disk.told refused.disk)))
    (λ refused left.
    damaged_to refused.why (λ file at. LeavesPages mid (g.D.Disk.told refused.disk)) (λ file at. LeavesPages old (g.D.Disk.told refused.disk))
    (λ file at is. leaves_then old mid (g.D.Disk.told refused.disk) (record { others = c.load.ensures.others tells; stops = c.load.ensures.stops tells }) (c.in-Ok.ensures.safe tells) is) left)
    (c.start.ensures.left tells l.saved (safe_loaded old mid c.in-Ok.loaded there l (c.load.ensures.others tells) (c.load.ensures.stops tells) (c.in-Ok.ensures.safe tells)))

pub returns-in-Err-clause-left : goal.returns-in-Err-clause-left
returns-in-Err-clause-left g c tells there = any_damage c.in-Err.why (LeavesPages (g.D.Disk.told c.args.disk) (g.D.Disk.told c.load.new.disk)) (record { others = c.load.ensures.others tells; stops = c.load.ensures.stops tells })

pub returns-in-Err-clause-limited : goal.returns-in-Err-clause-limited
returns-in-Err-clause-limited g c = not_limited c.in-Err.why c.in-Err.ensures.limited

pub returns-in-Ok-clause-cause : goal.returns-in-Ok-clause-cause
returns-in-Ok-clause-cause g c =
    let old = g.D.Disk.told c.args.disk in
    let mid = g.D.Disk.told c.load.new.disk in
    err_to c.start.result (λ refused. refused.why ≡ DiskFault → Rose mid.faults (g.D.Disk.told refused.disk).faults) (λ refused. refused.why ≡ DiskFault → Rose old.faults (g.D.Disk.told refused.disk).faults)
    (λ refused rose fault. rose_then old.faults mid.faults (g.D.Disk.told refused.disk).faults c.load.ensures.cause.later (rose fault))
    c.start.ensures.cause

pub returns-in-Ok-clause-only : goal.returns-in-Ok-clause-only
returns-in-Ok-clause-only g c tells there =
    let old = g.D.Disk.told c.args.disk in
    let mid = g.D.Disk.told c.load.new.disk in
    let l = c.in-Ok.ensures.loaded tells in
    ok_to c.start.result (λ store. (now : State) × AppliesBodies (later_in mid c.in-Ok.loaded.objects) l.saved now) (λ store. IsFormed old.content)
    (λ store led. formed_so old mid c.in-Ok.loaded l (c.load.ensures.others tells) led.0 led.1)
    (c.start.ensures.brought tells l.saved (safe_loaded old mid c.in-Ok.loaded there l (c.load.ensures.others tells) (c.load.ensures.stops tells) (c.in-Ok.ensures.safe tells)))
