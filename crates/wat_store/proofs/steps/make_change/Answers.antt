use Rattle.std.proofs.Common.{◌≡◌, ◌++◌, ◌∷◌, [], List, sym, subst}
use Rattle.std.proofs.lemmas.Result.{err_from_is_err_and}
use Rattle.wat_replay.specs.State.{State}
use Rattle.wat_log_record.specs.declared.log_record.LogRecord.TheVariants.{Changed}
use Rattle.wat_store.specs.Parts.{IsStore}
use Rattle.wat_store.proofs.Standing.{stops_beside, safe_of}
use Rattle.wat_store.proofs.Changing.{changed_so, open_after, limit_after, stops_two}
use Rattle.wat_store.proofs.steps.make_change.Goals as goal

pub relieve-requires : goal.relieve-requires
relieve-requires g c = record {
  known = λ tells. open_after (g.D.Disk.told c.args.disk.now) (g.D.Disk.told c.make.new.disk) c.args.objects.now c.make.new.self c.record_change.new.objects c.args.log.now c.record_change.new.log (c.requires.known tells)
      (c.make.ensures.goes tells) (c.in_ok-make.ensures.keeps tells) c.record_change.ensures.pages c.record_change.ensures.gate;
}

pub returns-clause-changed : goal.returns-clause-changed
returns-clause-changed g c tells s next t is applies =
    c.in_ok-relieve.ensures.stands tells next t
    (changed_so (g.D.Disk.told c.args.disk.now) (g.D.Disk.told c.make.new.disk) c.args.objects.now c.make.new.self c.record_change.new.objects c.args.log.now c.record_change.new.log c.args.conn c.args.change s next t is applies
    (c.make.ensures.goes tells) (c.in_ok-make.ensures.keeps tells) (c.in_ok-make.ensures.made tells s next.tables is.holds applies.tables) c.in_ok-record_change.ensures.noted c.record_change.ensures.gate c.in_ok-record_change.ensures.pushed
    c.record_change.ensures.pages)

pub returns-clause-stops : goal.returns-clause-stops
returns-clause-stops g c tells s next t is applies =
    let old = g.D.Disk.told c.args.disk.now in
    let mid = g.D.Disk.told c.make.new.disk in
    let goes = c.make.ensures.goes tells in
    stops_two old mid (g.D.Disk.told c.relieve.new.disk) c.args.objects.now c.record_change.new.objects t t (stops_beside old mid c.args.objects.now c.make.new.self c.args.log.now s t is goes)
    (limit_after old mid c.args.objects.now c.make.new.self c.record_change.new.objects goes c.record_change.ensures.pages)
    (c.relieve.ensures.stops tells next t
    (changed_so old mid c.args.objects.now c.make.new.self c.record_change.new.objects c.args.log.now c.record_change.new.log c.args.conn c.args.change s next t is applies
    goes (c.in_ok-make.ensures.keeps tells) (c.in_ok-make.ensures.made tells s next.tables is.holds applies.tables) c.in_ok-record_change.ensures.noted c.record_change.ensures.gate c.in_ok-record_change.ensures.pushed
    c.record_change.ensures.pages))

pub returns-in_err-relieve-clause-stops : goal.returns-in_err-relieve-clause-stops
returns-in_err-relieve-clause-stops g c tells s next t is applies =
    let old = g.D.Disk.told c.args.disk.now in
    let mid = g.D.Disk.told c.make.new.disk in
    let goes = c.make.ensures.goes tells in
    stops_two old mid (g.D.Disk.told c.relieve.new.disk) c.args.objects.now c.record_change.new.objects t t (stops_beside old mid c.args.objects.now c.make.new.self c.args.log.now s t is goes)
    (limit_after old mid c.args.objects.now c.make.new.self c.record_change.new.objects goes c.record_change.ensures.pages)
    (c.relieve.ensures.stops tells next t
    (changed_so old mid c.args.objects.now c.make.new.self c.record_change.new.objects c.args.log.now c.record_change.new.log c.args.conn c.args.change s next t is applies
    goes (c.in_ok-make.ensures.keeps tells) (c.in_ok-make.ensures.made tells s next.tables is.holds applies.tables) c.in_ok-record_change.ensures.noted c.record_change.ensures.gate c.in_ok-record_change.ensures.pushed
    c.record_change.ensures.pages))

pub returns-in_err-record_change-clause-stops : goal.returns-in_err-record_change-clause-stops
returns-in_err-record_change-clause-stops g c tells s next t is applies =
    stops_beside (g.D.Disk.told c.args.disk.now) (g.D.Disk.told c.make.new.disk) c.args.objects.now c.make.new.self c.args.log.now s t is (c.make.ensures.goes tells)

pub returns-in_err-make-clause-stops : goal.returns-in_err-make-clause-stops
returns-in_err-make-clause-stops g c tells s next t is applies =
    stops_beside (g.D.Disk.told c.args.disk.now) (g.D.Disk.told c.make.new.disk) c.args.objects.now c.make.new.self c.args.log.now s t is (c.make.ensures.goes tells)

pub returns-clause-limit : goal.returns-clause-limit
returns-clause-limit g c tells =
    limit_after (g.D.Disk.told c.args.disk.now) (g.D.Disk.told c.make.new.disk) c.args.objects.now c.make.new.self c.record_change.new.objects (c.make.ensures.goes tells) c.record_change.ensures.pages

pub returns-in_err-relieve-clause-limit : goal.returns-in_err-relieve-clause-limit
returns-in_err-relieve-clause-limit g c tells =
    limit_after (g.D.Disk.told c.args.disk.now) (g.D.Disk.told c.make.new.disk) c.args.objects.now c.make.new.self c.record_change.new.objects (c.make.ensures.goes tells) c.record_change.ensures.pages

pub returns-in_err-record_change-clause-limit : goal.returns-in_err-record_change-clause-limit
returns-in_err-record_change-clause-limit g c tells =
    limit_after (g.D.Disk.told c.args.disk.now) (g.D.Disk.told c.make.new.disk) c.args.objects.now c.make.new.self c.record_change.new.objects (c.make.ensures.goes tells) c.record_change.ensures.pages

pub returns-in_err-make-clause-undamaged : goal.returns-in_err-make-clause-undamaged
returns-in_err-make-clause-undamaged g c tells s t is =
    let safe = safe_of (g.D.Disk.told c.args.disk.now) c.args.objects.now c.args.log.now s t is in
    let p = err_from_is_err_and c.from_residual.result c.from_residual.ensures.1 in
    rw (p.1, p.2) (c.in_err-make.ensures.undamaged tells is.kept.saved safe.0 safe.1 s is.holds)
