use Rattle.std.proofs.Common.{◌≡◌, ◌∙◌, ◌++◌, ◌∷◌, [], length, refl, sym, ap, subst, arith}
use Rattle.std.proofs.lemmas.Result.{err_from_is_err_and}
use Rattle.wat_pages.specs.declared.pages.Pages.{Pages}
use Rattle.wat_pages.specs.Pages.{limit_of, stored_of, IsPagesOf}
use Rattle.wat_log_record.specs.declared.log_record.LogRecord.TheVariants.{Schema}
use Rattle.wat_keeping.specs.Kept.{IsKept}
use Rattle.wat_objects.specs.Objects.{pages_of}
use Rattle.wat_store.specs.Parts.{AreOpen}
use Rattle.wat_store.proofs.Standing.{log_beside, kept_beside, stops_beside, safe_of}
use Rattle.wat_store.proofs.Changing.{altered, same_gate, stops_two}
use Rattle.wat_store.proofs.Ending.{altered_so, stops_less}
use Rattle.wat_store.proofs.changes.alter_schema.Goals as goal

pub flush_noted-requires : goal.flush_noted-requires
flush_noted-requires g c =
    let mid = g.D.Disk.told c.alter.new.disk in
    record { known = λ tells. same_gate mid c.args.log.now c.note.new.self c.note.ensures.gate (log_beside (g.D.Disk.told c.args.disk.now) mid c.args.log.now (c.alter.ensures.goes tells).others (c.requires.known tells).records) }

pub returns-clause-known : goal.returns-clause-known
returns-clause-known g c tells =
    let mid = g.D.Disk.told c.alter.new.disk in
    let new = g.D.Disk.told c.flush_noted.new.disk in
    let e = c.pages.ensures in
    record {
      pages = subst (λ (p : Pages). IsPagesOf new p) e (c.flush_noted.ensures.pages tells (subst (λ (p : Pages). IsPagesOf mid p) (sym e) (c.in_ok-alter.ensures.keeps tells).known));
      records = c.in_ok-flush_noted.ensures.known tells;
    }

pub returns-clause-room : goal.returns-clause-room
returns-clause-room g c = omega (arith, ap length c.in_ok-flush_noted.ensures.noted.spelled)

pub returns-clause-altered : goal.returns-clause-altered
returns-clause-altered g c tells s next t after is applies ends =
    let old = g.D.Disk.told c.args.disk.now in
    let mid = g.D.Disk.told c.alter.new.disk in
    let new = g.D.Disk.told c.flush_noted.new.disk in
    let e = c.pages.ensures in
    let limit = limit_of (pages_of c.alter.new.self) in
    let kept = kept_beside old mid c.args.objects.now c.alter.new.self is.noted s t is.kept (c.alter.ensures.goes tells) (c.in_ok-alter.ensures.keeps tells) in
    altered_so old mid new c.args.objects.now c.alter.new.self c.args.log.now c.flush_noted.new.log c.args.change s next t after is applies
    (c.in_ok-alter.ensures.altered tells s is.holds (altered c.args.change s next applies).allowed) c.flush_noted.ensures.others (c.in_ok-flush_noted.ensures.known tells) c.in_ok-flush_noted.ensures.noted
    (subst (λ (p : Pages). IsKept limit (stored_of p) new [] next after) e
    (c.in_ok-flush_noted.ensures.kept tells limit is.noted (Schema c.args.change ∷ []) s next t after (subst (λ (p : Pages). IsKept limit (stored_of p) mid is.noted s t) (sym e) kept) (c.in_ok-note.ensures.noted is.noted is.has) (next, applies, refl) ends))

pub returns-clause-stops : goal.returns-clause-stops
returns-clause-stops g c tells s next t after is applies ends =
    let old = g.D.Disk.told c.args.disk.now in
    let mid = g.D.Disk.told c.alter.new.disk in
    let new = g.D.Disk.told c.flush_noted.new.disk in
    let e = c.pages.ensures in
    let goes = c.alter.ensures.goes tells in
    let limit = limit_of (pages_of c.alter.new.self) in
    let kept = kept_beside old mid c.args.objects.now c.alter.new.self is.noted s t is.kept goes (c.in_ok-alter.ensures.keeps tells) in
    stops_two old mid new c.args.objects.now c.alter.new.self t after (stops_beside old mid c.args.objects.now c.alter.new.self c.args.log.now s t is goes) goes.limit
    (c.flush_noted.ensures.stops tells limit is.noted (Schema c.args.change ∷ []) s next t after (subst (λ (p : Pages). IsKept limit (stored_of p) mid is.noted s t) (sym e) kept) (c.in_ok-note.ensures.noted is.noted is.has) (next, applies, refl) ends)

pub returns-in_err-flush_noted-clause-stops : goal.returns-in_err-flush_noted-clause-stops
returns-in_err-flush_noted-clause-stops g c tells s next t after is applies ends =
    let old = g.D.Disk.told c.args.disk.now in
    let mid = g.D.Disk.told c.alter.new.disk in
    let new = g.D.Disk.told c.flush_noted.new.disk in
    let e = c.pages.ensures in
    let goes = c.alter.ensures.goes tells in
    let limit = limit_of (pages_of c.alter.new.self) in
    let kept = kept_beside old mid c.args.objects.now c.alter.new.self is.noted s t is.kept goes (c.in_ok-alter.ensures.keeps tells) in
    stops_two old mid new c.args.objects.now c.alter.new.self t after (stops_beside old mid c.args.objects.now c.alter.new.self c.args.log.now s t is goes) goes.limit
    (c.flush_noted.ensures.stops tells limit is.noted (Schema c.args.change ∷ []) s next t after (subst (λ (p : Pages). IsKept limit (stored_of p) mid is.noted s t) (sym e) kept) (c.in_ok-note.ensures.noted is.noted is.has) (next, applies, refl) ends)

pub returns-in_err-note-clause-stops : goal.returns-in_err-note-clause-stops
returns-in_err-note-clause-stops g c tells s next t after is applies ends =
    let old = g.D.Disk.told c.args.disk.now in
    let mid = g.D.Disk.told c.alter.new.disk in
    stops_less old mid c.args.objects.now t after (stops_beside old mid c.args.objects.now c.alter.new.self c.args.log.now s t is (c.alter.ensures.goes tells))

pub returns-in_err-alter-clause-stops : goal.returns-in_err-alter-clause-stops
returns-in_err-alter-clause-stops g c tells s next t after is applies ends =
    let old = g.D.Disk.told c.args.disk.now in
    let mid = g.D.Disk.told c.alter.new.disk in
    stops_less old mid c.args.objects.now t after (stops_beside old mid c.args.objects.now c.alter.new.self c.args.log.now s t is (c.alter.ensures.goes tells))

pub returns-in_err-note-clause-without : goal.returns-in_err-note-clause-without
returns-in_err-note-clause-without g c tells s next t after is applies ends =
    let p = err_from_is_err_and c.from_residual-in_err-note.result c.from_residual-in_err-note.ensures.1 in
    rw (p.1) (λ fine. stops_beside (g.D.Disk.told c.args.disk.now) (g.D.Disk.told c.alter.new.disk) c.args.objects.now c.alter.new.self c.args.log.now s t is (c.alter.ensures.goes tells))

pub returns-in_err-alter-clause-without : goal.returns-in_err-alter-clause-without
returns-in_err-alter-clause-without g c tells s next t after is applies ends =
    let p = err_from_is_err_and c.from_residual.result c.from_residual.ensures.1 in
    rw (p.1) (λ fine. stops_beside (g.D.Disk.told c.args.disk.now) (g.D.Disk.told c.alter.new.disk) c.args.objects.now c.alter.new.self c.args.log.now s t is (c.alter.ensures.goes tells))

pub returns-in_err-alter-clause-undamaged : goal.returns-in_err-alter-clause-undamaged
returns-in_err-alter-clause-undamaged g c tells s t is =
    let safe = safe_of (g.D.Disk.told c.args.disk.now) c.args.objects.now c.args.log.now s t is in
    let p = err_from_is_err_and c.from_residual.result c.from_residual.ensures.1 in
    rw (p.1, p.2) (c.in_err-alter.ensures.undamaged tells is.kept.saved safe.0 safe.1 s is.holds)
