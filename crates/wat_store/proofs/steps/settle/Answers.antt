use Rattle.std.proofs.Common.{◌≡◌, ◌++◌, [], List, sym, subst}
use Rattle.wat_pages.specs.declared.pages.Pages.{Pages}
use Rattle.wat_pages.specs.Pages.{limit_of, stored_of, IsPagesOf}
use Rattle.wat_keeping.specs.Kept.{IsKept}
use Rattle.wat_objects.specs.Objects.{pages_of}
use Rattle.wat_store.proofs.Standing.{flushed, flush_stops}
use Rattle.wat_store.proofs.steps.settle.Goals as goal

pub returns-clause-known : goal.returns-clause-known
returns-clause-known g c tells =
    let old = g.D.Disk.told c.args.disk.now in
    let new = g.D.Disk.told c.flush_noted.new.disk in
    let e = c.pages.ensures in
    record {
      pages = subst (λ (p : Pages). IsPagesOf new p) e (c.flush_noted.ensures.pages tells (subst (λ (p : Pages). IsPagesOf old p) (sym e) (c.requires.known tells).pages));
      records = c.in_ok-flush_noted.ensures.known tells;
    }

pub returns-clause-stands : goal.returns-clause-stands
returns-clause-stands g c tells s t is =
    let old = g.D.Disk.told c.args.disk.now in
    let new = g.D.Disk.told c.flush_noted.new.disk in
    let e = c.pages.ensures in
    let limit = limit_of (pages_of c.args.objects.now) in
    flushed old new c.args.objects.now c.args.log.now c.flush_noted.new.log s t is c.flush_noted.ensures.others (c.in_ok-flush_noted.ensures.known tells) c.in_ok-flush_noted.ensures.noted
    (λ noted more s next t after k has applied ends.
    subst (λ (p : Pages). IsKept limit (stored_of p) new [] next after) e
    (c.in_ok-flush_noted.ensures.kept tells limit noted more s next t after (subst (λ (p : Pages). IsKept limit (stored_of p) old noted s t) (sym e) k) has applied ends))

pub returns-clause-stops : goal.returns-clause-stops
returns-clause-stops g c tells s t is =
    let old = g.D.Disk.told c.args.disk.now in
    let e = c.pages.ensures in
    let limit = limit_of (pages_of c.args.objects.now) in
    flush_stops old (g.D.Disk.told c.flush_noted.new.disk) c.args.objects.now c.args.log.now s t is
    (λ noted more s next t after k has applied ends.
    c.flush_noted.ensures.stops tells limit noted more s next t after (subst (λ (p : Pages). IsKept limit (stored_of p) old noted s t) (sym e) k) has applied ends)

pub returns-in_err-flush_noted-clause-stops : goal.returns-in_err-flush_noted-clause-stops
returns-in_err-flush_noted-clause-stops g c tells s t is =
    let old = g.D.Disk.told c.args.disk.now in
    let e = c.pages.ensures in
    let limit = limit_of (pages_of c.args.objects.now) in
    flush_stops old (g.D.Disk.told c.flush_noted.new.disk) c.args.objects.now c.args.log.now s t is
    (λ noted more s next t after k has applied ends.
    c.flush_noted.ensures.stops tells limit noted more s next t after (subst (λ (p : Pages). IsKept limit (stored_of p) old noted s t) (sym e) k) has applied ends)

pub returns-clause-beside : goal.returns-clause-beside
returns-clause-beside g c tells synced = c.flush_noted.ensures.beside tells synced

pub returns-in_err-flush_noted-clause-beside : goal.returns-in_err-flush_noted-clause-beside
returns-in_err-flush_noted-clause-beside g c tells synced = c.flush_noted.ensures.beside tells synced

pub returns-clause-synced : goal.returns-clause-synced
returns-clause-synced g c synced = c.in_ok-flush_noted.ensures.synced synced
