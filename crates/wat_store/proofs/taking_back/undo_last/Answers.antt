use Rattle.std.proofs.Common.{◌≡◌, ◌∙◌, ap, sym, subst}
use Rattle.std.proofs.lemmas.Result.{err_from_is_err_and}
use Rattle.wat_pages.specs.declared.pages.Pages.{Pages}
use Rattle.wat_pages.specs.Pages.{stored_of, book_of, IsPagesOf}
use Rattle.wat_cells.specs.Going.{Goes, Keeps}
use Rattle.wat_cells.proofs.Then.{goes_nowhere, keeps_still, match_some, match_none}
use Rattle.wat_schema.specs.Tables.{apply_change}
use Rattle.wat_objects.specs.Objects.{pages_of}
use Rattle.wat_recover.proofs.Stepping.{known, last_undone}
use Rattle.wat_store.proofs.Undoing.{Taken, taken, taken_none, held_after}
use Rattle.wat_store.proofs.taking_back.undo_last.Goals as goal

pub make-requires : goal.make-requires
make-requires g c = record { known = λ tells. subst (λ (p : Pages). IsPagesOf (g.D.Disk.told c.args.disk.now) p) (sym c.pop.ensures.pages) (c.requires.known tells) }

pub returns-clause-undone : goal.returns-clause-undone
returns-clause-undone g c tells s n holds lawful len =
    let told = g.D.Disk.told c.args.disk.now in
    let p = taken told c.args.objects.now c.pop.new.self c.args.conn n c.pop.result c.in-Some.change s c.pop.ensures.popped c.pop.ensures.pages c.in-Some.is (known c.args.conn c.ranges.conn.fits) holds lawful len in
    let made = c.in_ok-make.ensures.made tells (record { tables = s.tables; lists = p.lists }) p.last.to p.holds (ap (λ x. apply_change x s.tables) c.inverse.ensures ∙ p.last.makes) in
    (record { tables = p.last.to; lists = p.lists }, p.last.applies, made)

pub returns-clause-goes : goal.returns-clause-goes
returns-clause-goes g c tells =
    let old = g.D.Disk.told c.args.disk.now in
    let new = g.D.Disk.told c.make.new.disk in
    subst (λ (p : Pages). Goes old new p (pages_of c.make.new.self)) c.pop.ensures.pages (c.make.ensures.goes tells)

pub returns-in_err-make-clause-goes : goal.returns-in_err-make-clause-goes
returns-in_err-make-clause-goes g c tells =
    let old = g.D.Disk.told c.args.disk.now in
    let new = g.D.Disk.told c.make.new.disk in
    subst (λ (p : Pages). Goes old new p (pages_of c.make.new.self)) c.pop.ensures.pages (c.make.ensures.goes tells)

pub returns-in_err-make-clause-undamaged : goal.returns-in_err-make-clause-undamaged
returns-in_err-make-clause-undamaged g c tells saved safe counted s holds =
    let told = g.D.Disk.told c.args.disk.now in
    let h = held_after told c.args.objects.now c.pop.new.self c.args.conn c.pop.result c.in-Some.change s c.pop.ensures.popped c.pop.ensures.pages c.in-Some.is holds in
    let p = err_from_is_err_and c.from_residual.result c.from_residual.ensures.1 in
    rw (p.1, p.2) (c.in_err-make.ensures.undamaged tells saved safe (counted ∙ ap stored_of (sym c.pop.ensures.pages)) (record { tables = s.tables; lists = h.0 }) h.1)

pub returns-in_default-clause-undone : goal.returns-in_default-clause-undone
returns-in_default-clause-undone g c tells s n holds lawful len =
    absurd (taken_none (g.D.Disk.told c.args.disk.now) c.args.objects.now c.pop.new.self c.args.conn n c.pop.result s c.pop.ensures.popped c.in_default.is holds len)

pub returns-in_default-clause-goes : goal.returns-in_default-clause-goes
returns-in_default-clause-goes g c tells =
    let told = g.D.Disk.told c.args.disk.now in
    subst (λ (p : Pages). Goes told told (pages_of c.args.objects.now) p) (sym c.pop.ensures.pages) (goes_nowhere told (pages_of c.args.objects.now))

pub returns-in_default-clause-keeps : goal.returns-in_default-clause-keeps
returns-in_default-clause-keeps g c tells =
    let told = g.D.Disk.told c.args.disk.now in
    subst (λ (p : Pages). Keeps told told p) (sym c.pop.ensures.pages) (keeps_still told (pages_of c.args.objects.now) (c.requires.known tells))
