use Rattle.std.proofs.Common.{refl, ◌∙◌}
use Rattle.std.proofs.lemmas.Result.{err_from_is_err_and}
use Rattle.wat_pages.proofs.Changed.{page_by, kind_by, next_by}
use Rattle.wat_pages.proofs.pages.Pages.free_page.Goals as goal

pub returns-in_err-write_page-clause-undamaged : goal.returns-in_err-write_page-clause-undamaged
returns-in_err-write_page-clause-undamaged g c tells saved safe count =
    let p = err_from_is_err_and c.from_residual-in_err-write_page.result c.from_residual-in_err-write_page.ensures.1 in
    rw (p.1, p.2) (c.in_err-write_page.ensures.undamaged tells saved safe count)

pub returns-clause-given : goal.returns-clause-given
returns-clause-given g c tells =
    let told = g.D.Disk.told c.write_page.new.disk in
    let w = c.in_ok-write_page.ensures.written tells in
    let mid = c.write_page.new.self in
    record {
      others = λ q below other. page_by told mid _ refl q ∙ w.others q below other;
      kind = kind_by told mid _ c.args.page c.in_ok-freed.freed refl w.is c.in_ok-freed.ensures.kind;
      tells = next_by told mid _ c.args.page c.args.self.now.first_free c.in_ok-freed.freed refl w.is c.in_ok-freed.ensures.tells;
      count = w.count;
      first = refl;
    }
