use Rattle.std.proofs.Common.{◌≡◌, ◌∙◌, ◌++◌, ◌∷◌, [], length, refl, sym, ap, subst, arith}
use Rattle.std.proofs.lemmas.Result.{err_from_is_err_and}
use Rattle.wat_replay.specs.State.{State}
use Rattle.wat_objects.specs.Objects.{pages_of}
use Rattle.wat_store.specs.Parts.{AreOpen, IsStore}
use Rattle.wat_store.proofs.Standing.{stops_beside, safe_of}
use Rattle.wat_store.proofs.Changing.{open_after, limit_after, stops_two}
use Rattle.wat_store.proofs.Ending.{undone_so, nothing_undone, stops_still}
use Rattle.wat_store.proofs.changes.undo_noted.Goals as goal

pub undo_changes-requires : goal.undo_changes-requires
undo_changes-requires g c = record { known = λ tells. (c.requires.known tells).pages }

pub relieve-requires : goal.relieve-requires
relieve-requires g c = record {
  known = λ tells. open_after (g.D.Disk.told c.args.disk.now) (g.D.Disk.told c.undo_changes.new.disk) c.args.objects.now c.undo_changes.new.objects c.undo_changes.new.objects c.args.log.now c.note.new.self (c.requires.known tells)
      (c.undo_changes.ensures.goes tells) (c.in_ok-undo_changes.ensures.keeps tells) refl c.note.ensures.gate;
}

pub returns-then-count-clause-undone : goal.returns-then-count-clause-undone
returns-then-count-clause-undone g c tells s next t is applies =
    subst (λ (u : State). IsStore (g.D.Disk.told c.args.disk.now) c.args.objects.now c.args.log.now u t)
    (nothing_undone s next c.args.conn c.args.count applies (omega (arith, c.count.ensures _ s is.holds.on, c.if-count.true))) is

pub returns-then-count-clause-stops : goal.returns-then-count-clause-stops
returns-then-count-clause-stops g c tells s next t is applies =
    stops_still (g.D.Disk.told c.args.disk.now) c.args.objects.now c.args.log.now s t t is

pub returns-clause-undone : goal.returns-clause-undone
returns-clause-undone g c tells s next t is applies =
    c.in_ok-relieve.ensures.stands tells next t
    (undone_so (g.D.Disk.told c.args.disk.now) (g.D.Disk.told c.undo_changes.new.disk) c.args.objects.now c.undo_changes.new.objects c.args.log.now c.note.new.self c.args.conn c.args.count c.args.noted.now s next t is applies
    (c.undo_changes.ensures.goes tells) (c.in_ok-undo_changes.ensures.keeps tells) (c.in_ok-undo_changes.ensures.undone tells s is.holds is.lawful applies.allowed) c.in_ok-note.ensures.noted c.note.ensures.gate
    (c.requires.says s next applies) c.requires.quiet)

pub returns-clause-stops : goal.returns-clause-stops
returns-clause-stops g c tells s next t is applies =
    let old = g.D.Disk.told c.args.disk.now in
    let mid = g.D.Disk.told c.undo_changes.new.disk in
    let goes = c.undo_changes.ensures.goes tells in
    stops_two old mid (g.D.Disk.told c.relieve.new.disk) c.args.objects.now c.undo_changes.new.objects t t (stops_beside old mid c.args.objects.now c.undo_changes.new.objects c.args.log.now s t is goes) goes.limit
    (c.relieve.ensures.stops tells next t
    (undone_so old mid c.args.objects.now c.undo_changes.new.objects c.args.log.now c.note.new.self c.args.conn c.args.count c.args.noted.now s next t is applies
    goes (c.in_ok-undo_changes.ensures.keeps tells) (c.in_ok-undo_changes.ensures.undone tells s is.holds is.lawful applies.allowed) c.in_ok-note.ensures.noted c.note.ensures.gate
    (c.requires.says s next applies) c.requires.quiet))

pub returns-in_err-relieve-clause-stops : goal.returns-in_err-relieve-clause-stops
returns-in_err-relieve-clause-stops g c tells s next t is applies =
    let old = g.D.Disk.told c.args.disk.now in
    let mid = g.D.Disk.told c.undo_changes.new.disk in
    let goes = c.undo_changes.ensures.goes tells in
    stops_two old mid (g.D.Disk.told c.relieve.new.disk) c.args.objects.now c.undo_changes.new.objects t t (stops_beside old mid c.args.objects.now c.undo_changes.new.objects c.args.log.now s t is goes) goes.limit
    (c.relieve.ensures.stops tells next t
    (undone_so old mid c.args.objects.now c.undo_changes.new.objects c.args.log.now c.note.new.self c.args.conn c.args.count c.args.noted.now s next t is applies
    goes (c.in_ok-undo_changes.ensures.keeps tells) (c.in_ok-undo_changes.ensures.undone tells s is.holds is.lawful applies.allowed) c.in_ok-note.ensures.noted c.note.ensures.gate
    (c.requires.says s next applies) c.requires.quiet))

pub returns-in_err-note-clause-stops : goal.returns-in_err-note-clause-stops
returns-in_err-note-clause-stops g c tells s next t is applies =
    stops_beside (g.D.Disk.told c.args.disk.now) (g.D.Disk.told c.undo_changes.new.disk) c.args.objects.now c.undo_changes.new.objects c.args.log.now s t is (c.undo_changes.ensures.goes tells)

pub returns-in_err-undo_changes-clause-stops : goal.returns-in_err-undo_changes-clause-stops
returns-in_err-undo_changes-clause-stops g c tells s next t is applies =
    stops_beside (g.D.Disk.told c.args.disk.now) (g.D.Disk.told c.undo_changes.new.disk) c.args.objects.now c.undo_changes.new.objects c.args.log.now s t is (c.undo_changes.ensures.goes tells)

pub returns-in_err-undo_changes-clause-undamaged : goal.returns-in_err-undo_changes-clause-undamaged
returns-in_err-undo_changes-clause-undamaged g c tells s next t is applies =
    let safe = safe_of (g.D.Disk.told c.args.disk.now) c.args.objects.now c.args.log.now s t is in
    let p = err_from_is_err_and c.from_residual.result c.from_residual.ensures.1 in
    rw (p.1, p.2) (c.in_err-undo_changes.ensures.undamaged tells is.kept.saved safe.0 safe.1 s is.holds is.lawful applies.allowed)
