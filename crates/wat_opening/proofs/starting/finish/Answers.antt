use Rattle.std.proofs.Common.{◌≡◌, ◌<◌, false, true, Err, sym, ◌∙◌, ap, subst}
use Rattle.wat_faults.specs.Faults.{Rose}
use Rattle.wat_disk.specs.Disk.{Told}
use Rattle.wat_images.specs.declared.refusal.PageRefusal.{PageRefusal}
use Rattle.wat_pages.specs.declared.pages.Pages.{Pages}
use Rattle.wat_pages.specs.Pages.{image_frames_of}
use Rattle.wat_objects.specs.Objects.{pages_of}
use Rattle.wat_store.specs.Parts.{StopsAt}
use Rattle.wat_store.specs.Store.{told_of}
use Rattle.wat_opening.proofs.Finishing.{counts_there, none_there, limit_there, stops_here, stops_there, no_images, neither}
use Rattle.wat_opening.proofs.starting.finish.Goals as goal

pub returns-then-not-is_due-clause-saved : goal.returns-then-not-is_due-clause-saved
returns-then-not-is_due-clause-saved g c tells counts =
    let no = neither c.args.due c.has_images-images.result (sym c.is_due.ensures ∙ c.if-not-is_due.true) in
    counts_there c.of-store.result c.args.disk c.args.objects c.of-store.ensures.disk c.of-store.ensures.objects (counts no.0)

pub returns-then-not-is_due-clause-none : goal.returns-then-not-is_due-clause-none
returns-then-not-is_due-clause-none g c tells =
    let no = neither c.args.due c.has_images-images.result (sym c.is_due.ensures ∙ c.if-not-is_due.true) in
    let none : 0 < image_frames_of (pages_of c.args.objects) → ⊥ = λ some.
    let bad : false ≡ true = sym no.1 ∙ c.has_images-images.ensures.1 (subst (λ (p : Pages). 0 < image_frames_of p) (sym c.pages.ensures) some) in cc in
    none_there c.of-store.result c.args.disk c.args.objects c.of-store.ensures.disk c.of-store.ensures.objects (no_images (g.D.Disk.told c.args.disk) (pages_of c.args.objects) (c.requires.known tells).pages none)

pub returns-then-not-is_due-clause-flushed : goal.returns-then-not-is_due-clause-flushed
returns-then-not-is_due-clause-flushed g c quiet =
    let no = neither c.args.due c.has_images-images.result (sym c.is_due.ensures ∙ c.if-not-is_due.true) in
    c.of-store.ensures.noted ∙ quiet no.0

pub returns-then-not-is_due-clause-limit : goal.returns-then-not-is_due-clause-limit
returns-then-not-is_due-clause-limit g c tells = limit_there c.of-store.result c.args.disk c.args.objects c.of-store.ensures.disk c.of-store.ensures.objects

pub returns-then-not-is_due-clause-stops : goal.returns-then-not-is_due-clause-stops
returns-then-not-is_due-clause-stops g c tells s t is = stops_here c.of-store.result c.args.disk c.args.objects c.of-store.ensures.disk c.of-store.ensures.objects c.args.log s t is

pub returns-then-many-clause-stops_refused : goal.returns-then-many-clause-stops_refused
returns-then-many-clause-stops_refused g c tells s t is =
    subst (λ (u : Told). StopsAt (g.D.Disk.told c.args.disk) u c.args.objects t t) (sym (ap g.D.Disk.told c.into_disk.ensures))
    (stops_here c.of-store.result c.args.disk c.args.objects c.of-store.ensures.disk c.of-store.ensures.objects c.args.log s t is)

pub returns-in-Ok-clause-limit : goal.returns-in-Ok-clause-limit
returns-in-Ok-clause-limit g c tells = c.checkpoint.ensures.limit tells ∙ limit_there c.of-store.result c.args.disk c.args.objects c.of-store.ensures.disk c.of-store.ensures.objects

pub returns-in-Ok-clause-stops : goal.returns-in-Ok-clause-stops
returns-in-Ok-clause-stops g c tells s t is =
    stops_there c.of-store.result c.args.disk c.args.objects c.of-store.ensures.disk c.of-store.ensures.objects (told_of c.checkpoint.new.self) t (c.checkpoint.ensures.stops tells s t (c.of-store.ensures.stands s t is))

pub returns-in-Err-clause-stops_refused : goal.returns-in-Err-clause-stops_refused
returns-in-Err-clause-stops_refused g c tells s t is =
    subst (λ (u : Told). StopsAt (g.D.Disk.told c.args.disk) u c.args.objects t t) (sym (ap g.D.Disk.told c.into_disk-in-Err.ensures))
    (stops_there c.of-store.result c.args.disk c.args.objects c.of-store.ensures.disk c.of-store.ensures.objects (told_of c.checkpoint.new.self) t (c.checkpoint.ensures.stops tells s t (c.of-store.ensures.stands s t is)))

pub returns-in-Err-clause-cause : goal.returns-in-Err-clause-cause
returns-in-Err-clause-cause g c fault =
    let rose = (c.checkpoint.ensures.cause c.of-store.ensures.going).rose (c.in-Err.is ∙ ap (λ (r : PageRefusal). Err r) fault) in
    subst (λ (q : Told × Told). Rose q.0.faults q.1.faults) (λ i. (ap g.D.Disk.told c.of-store.ensures.disk i, sym (ap g.D.Disk.told c.into_disk-in-Err.ensures) i)) rose

pub returns-in-Ok-clause-stands : goal.returns-in-Ok-clause-stands
returns-in-Ok-clause-stands g c tells s t is = c.in-Ok.ensures.stands tells s t (c.of-store.ensures.stands s t is)

pub returns-in-Ok-clause-holds : goal.returns-in-Ok-clause-holds
returns-in-Ok-clause-holds g c tells s is = c.in-Ok.ensures.holds tells s (c.of-store.ensures.holds s is)

pub returns-in-Err-clause-undamaged : goal.returns-in-Err-clause-undamaged
returns-in-Err-clause-undamaged g c tells s is = c.in-Err.ensures.holds_undamaged tells s (c.of-store.ensures.holds s is)
