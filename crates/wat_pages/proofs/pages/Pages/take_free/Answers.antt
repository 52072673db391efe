use Rattle.std.proofs.Common.{refl, ◌∙◌}
use Rattle.std.proofs.lemmas.Result.{err_from_is_err_and}
use Rattle.wat_pages.proofs.Changed.{page_by}
use Rattle.wat_pages.proofs.pages.Pages.take_free.Goals as goal

pub returns-clause-known : goal.returns-clause-known
returns-clause-known g c tells =
    let k = c.in_ok-read_page.ensures.known tells in
    record { log = k.log; images = k.images; read = k.read }

pub returns-clause-pages : goal.returns-clause-pages
returns-clause-pages g c tells page below = page_by _ c.read_page.new.self _ refl page ∙ (c.in_ok-read_page.ensures.pages tells).pages page below

pub returns-in_err-read_page-clause-undamaged : goal.returns-in_err-read_page-clause-undamaged
returns-in_err-read_page-clause-undamaged g c tells saved safe count below =
    let p = err_from_is_err_and c.from_residual-in_err-read_page.result c.from_residual-in_err-read_page.ensures.1 in
    rw (p.1, p.2) (c.in_err-read_page.ensures.undamaged tells saved safe count)
