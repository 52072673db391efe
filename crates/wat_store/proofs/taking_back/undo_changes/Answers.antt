use Rattle.std.proofs.Common.{◌≡◌, ◌+◌, ◌-◌, ◌∙◌, suc, sym, length, subst, arith}
use Rattle.std.proofs.lemmas.Result.{err_from_is_err_and}
use Rattle.wat_cells.proofs.Then.{goes_nowhere, goes_then, keeps_still, keeps_then}
use Rattle.wat_log_record.specs.declared.log_record.LogRecord.TheVariants.{UndoTo}
use Rattle.wat_objects.specs.Objects.{pages_of}
use Rattle.wat_replay.specs.Replay.{Applies}
use Rattle.wat_replay.proofs.Replaying.{stays_lawful}
use Rattle.wat_recover.proofs.Stepping.{known, none_cut, cut_further, left_length}
use Rattle.wat_store.proofs.Ending.{ok_not_fault}
use Rattle.wat_store.proofs.taking_back.undo_changes.Goals as goal

pub loop-i-init : goal.loop-i-init
loop-i-init g c =
    let told = g.D.Disk.told c.args.disk.now in
    record {
      undone = λ tells s holds lawful within n e.
          let all : length (s.lists c.args.conn) ≡ n = omega (arith, c.count-standing.ensures _ s holds.on, e) in
          (s, subst (λ m. Applies (UndoTo c.args.conn m) s s) all (none_cut s c.args.conn (known c.args.conn c.ranges.conn.fits)), holds);
      goes = λ tells. goes_nowhere told (pages_of c.args.objects.now);
      keeps = λ tells. keeps_still told (pages_of c.args.objects.now) (c.requires.known tells);
      same = search;
    }

pub undo_last-requires : goal.undo_last-requires
undo_last-requires g c = record { known = λ tells. (c.loop-i.invariant.keeps tells).known }

pub loop-i-preserved : goal.loop-i-preserved
loop-i-preserved g c =
    let old = g.D.Disk.told c.args.disk.now in
    let mid = g.D.Disk.told c.loop-i.disk in
    let new = g.D.Disk.told c.undo_last.new.disk in
    record {
      undone = λ tells s holds lawful within n e.
          let m = c.loop-i.invariant.undone tells s holds lawful within (suc n) (omega (arith, e)) in
          let lawful_there = stays_lawful (UndoTo c.args.conn (suc n)) s m.0 lawful m.1 in
          let more : suc n ≡ n + 1 = omega arith in
          let next = c.in_ok-undo_last.ensures.undone tells m.0 n m.2 lawful_there (left_length s m.0 c.args.conn (suc n) m.1 ∙ more) in
          (next.0, cut_further s m.0 next.0 c.args.conn (suc n) n (omega arith) m.1 next.1, next.2);
      goes = λ tells. goes_then old mid new (pages_of c.args.objects.now) (pages_of c.loop-i.objects) (pages_of c.undo_last.new.objects) (c.loop-i.invariant.goes tells) (c.loop-i.invariant.keeps tells) (c.undo_last.ensures.goes tells);
      keeps = λ tells. keeps_then old mid new (pages_of c.loop-i.objects) (pages_of c.undo_last.new.objects) (c.loop-i.invariant.keeps tells) (c.in_ok-undo_last.ensures.keeps tells);
      same = c.undo_last.ensures.cause.kept (ok_not_fault c.undo_last.result c.in_ok-undo_last.field-0 c.in_ok-undo_last.was) ∙ c.loop-i.invariant.same;
    }

pub returns-clause-undone : goal.returns-clause-undone
returns-clause-undone g c tells s holds lawful within =
    c.loop-i.invariant.undone tells s holds lawful within c.args.count (omega (arith, c.count-standing.ensures _ s holds.on, within))

pub returns-in_err-undo_last-clause-goes : goal.returns-in_err-undo_last-clause-goes
returns-in_err-undo_last-clause-goes g c tells =
    goes_then (g.D.Disk.told c.args.disk.now) (g.D.Disk.told c.loop-i.disk) (g.D.Disk.told c.undo_last.new.disk) (pages_of c.args.objects.now) (pages_of c.loop-i.objects) (pages_of c.undo_last.new.objects)
    (c.loop-i.invariant.goes tells) (c.loop-i.invariant.keeps tells) (c.undo_last.ensures.goes tells)

pub returns-in_err-undo_last-clause-undamaged : goal.returns-in_err-undo_last-clause-undamaged
returns-in_err-undo_last-clause-undamaged g c tells saved safe counted s holds lawful within =
    let m = c.loop-i.invariant.undone tells s holds lawful within (length (s.lists c.args.conn) + c.args.count - c.loop-i._i) (omega (arith, c.count-standing.ensures _ s holds.on, within)) in
    let p = err_from_is_err_and c.from_residual.result c.from_residual.ensures.1 in
    rw (p.1, p.2) (c.in_err-undo_last.ensures.undamaged tells saved ((c.loop-i.invariant.keeps tells).safe saved safe) (counted ∙ sym (c.loop-i.invariant.goes tells).stored) m.0 m.2)
