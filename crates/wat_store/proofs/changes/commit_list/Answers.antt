use Rattle.std.proofs.Common.{◌≡◌, ◌∙◌, [], length, sym, ap, subst, arith}
use Rattle.wat_pages.specs.declared.pages.Pages.{Pages}
use Rattle.wat_pages.specs.Pages.{limit_of, stored_of, IsPagesOf}
use Rattle.wat_keeping.specs.Kept.{IsKept}
use Rattle.wat_objects.specs.Objects.{pages_of}
use Rattle.wat_store.proofs.Ending.{committed_so}
use Rattle.wat_store.proofs.changes.commit_list.Goals as goal

pub returns-clause-known : goal.returns-clause-known
returns-clause-known g c tells =
    let old = g.D.Disk.told c.args.disk.now in
    let new = g.D.Disk.told c.commit_noted.new.disk in
    let e = c.pages.ensures in
    record {
      pages = subst (λ (p : Pages). IsPagesOf new p) (sym c.forget_list.ensures.pages)
          (subst (λ (p : Pages). IsPagesOf new p) e (c.commit_noted.ensures.pages tells (subst (λ (p : Pages). IsPagesOf old p) (sym e) (c.requires.known tells).pages)));
      records = c.in_ok-commit_noted.ensures.known tells;
    }

pub returns-clause-room : goal.returns-clause-room
returns-clause-room g c = omega (arith, ap length c.in_ok-commit_noted.ensures.noted.spelled)

pub returns-clause-committed : goal.returns-clause-committed
returns-clause-committed g c tells s next t after is applies ends =
    let old = g.D.Disk.told c.args.disk.now in
    let new = g.D.Disk.told c.commit_noted.new.disk in
    let e = c.pages.ensures in
    let limit = limit_of (pages_of c.args.objects.now) in
    committed_so old new c.args.objects.now c.forget_list.new.objects c.args.log.now c.commit_noted.new.log c.args.conn s next t after is applies c.commit_noted.ensures.others c.forget_list.ensures.left c.forget_list.ensures.pages
    (c.in_ok-commit_noted.ensures.known tells) c.in_ok-commit_noted.ensures.noted
    (subst (λ (p : Pages). IsKept limit (stored_of p) new [] next after) e
    (c.in_ok-commit_noted.ensures.kept tells limit is.noted s next t after (subst (λ (p : Pages). IsKept limit (stored_of p) old is.noted s t) (sym e) is.kept) is.has applies ends))

pub returns-clause-stops : goal.returns-clause-stops
returns-clause-stops g c tells s next t after is applies ends =
    let old = g.D.Disk.told c.args.disk.now in
    let e = c.pages.ensures in
    let limit = limit_of (pages_of c.args.objects.now) in
    c.commit_noted.ensures.stops tells limit is.noted s next t after (subst (λ (p : Pages). IsKept limit (stored_of p) old is.noted s t) (sym e) is.kept) is.has applies ends

pub returns-in_err-commit_noted-clause-stops : goal.returns-in_err-commit_noted-clause-stops
returns-in_err-commit_noted-clause-stops g c tells s next t after is applies ends =
    let old = g.D.Disk.told c.args.disk.now in
    let e = c.pages.ensures in
    let limit = limit_of (pages_of c.args.objects.now) in
    c.commit_noted.ensures.stops tells limit is.noted s next t after (subst (λ (p : Pages). IsKept limit (stored_of p) old is.noted s t) (sym e) is.kept) is.has applies ends

pub returns-clause-limit : goal.returns-clause-limit
returns-clause-limit g c = ap limit_of c.forget_list.ensures.pages
