use Rattle.std.proofs.Common.{◌≡◌, sym, subst, arith}
use Rattle.wat_slot.specs.Cells.{IsCellPage}
use Rattle.wat_pages.specs.Pages.{page_in}
use Rattle.wat_cells.proofs.Then.{cut_short, goes_nowhere, goes_by, keeps_by, some_of}
use Rattle.wat_cells.proofs.edit.read_cells.Goals as goal

pub returns-in_err-bytes-clause-goes : goal.returns-in_err-bytes-clause-goes
returns-in_err-bytes-clause-goes g c tells = goes_nowhere (g.D.Disk.told c.args.disk.now) c.args.pages.now

pub returns-in-Err-clause-goes : goal.returns-in-Err-clause-goes
returns-in-Err-clause-goes g c tells = goes_by (g.D.Disk.told c.args.disk.now) (g.D.Disk.told c.read_page.new.disk) c.args.pages.now c.read_page.new.self c.read_page.ensures.others c.read_page.ensures.same (c.read_page.ensures.stops tells)

pub returns-in-Ok-Some-clause-goes : goal.returns-in-Ok-Some-clause-goes
returns-in-Ok-Some-clause-goes g c tells = goes_by (g.D.Disk.told c.args.disk.now) (g.D.Disk.told c.read_page.new.disk) c.args.pages.now c.read_page.new.self c.read_page.ensures.others c.read_page.ensures.same (c.read_page.ensures.stops tells)

pub returns-in-Ok-None-clause-goes : goal.returns-in-Ok-None-clause-goes
returns-in-Ok-None-clause-goes g c tells = goes_by (g.D.Disk.told c.args.disk.now) (g.D.Disk.told c.read_page.new.disk) c.args.pages.now c.read_page.new.self c.read_page.ensures.others c.read_page.ensures.same (c.read_page.ensures.stops tells)

pub returns-clause-goes : goal.returns-clause-goes
returns-clause-goes g c tells = goes_by (g.D.Disk.told c.args.disk.now) (g.D.Disk.told c.read_page.new.disk) c.args.pages.now c.read_page.new.self c.read_page.ensures.others c.read_page.ensures.same (c.read_page.ensures.stops tells)

pub returns-in-Ok-Some-clause-keeps : goal.returns-in-Ok-Some-clause-keeps
returns-in-Ok-Some-clause-keeps g c tells = keeps_by (g.D.Disk.told c.args.disk.now) (g.D.Disk.told c.read_page.new.disk) c.read_page.new.self (c.in-Ok.ensures.known tells) (λ saved safe. c.in-Ok.ensures.safe tells saved safe)

pub returns-in-Ok-Some-clause-cells : goal.returns-in-Ok-Some-clause-cells
returns-in-Ok-Some-clause-cells g c tells =
    subst (λ p. IsCellPage p c.in-Ok-Some.cells) (c.in-Ok.ensures.read tells) (some_of (IsCellPage c.read_page.new.into) c.in-Ok-Some.field-0 c.in-Ok-Some.cells c.in-Ok-Some.field-0-is c.in-Ok-Some.ensures.some)

pub returns-in-Ok-Some-clause-fit : goal.returns-in-Ok-Some-clause-fit
returns-in-Ok-Some-clause-fit g c =
    let is = some_of (IsCellPage c.read_page.new.into) c.in-Ok-Some.field-0 c.in-Ok-Some.cells c.in-Ok-Some.field-0-is c.in-Ok-Some.ensures.some in
    omega (arith, is.fit)

pub returns-in-Err-clause-damaged : goal.returns-in-Err-clause-damaged
returns-in-Err-clause-damaged g c tells =
    let told = g.D.Disk.told c.args.disk.now in
    cut_short c.in-Err.refusal told.content c.args.page _ (page_in told c.args.pages.now c.args.page) (c.in-Err.ensures.damaged tells) (c.in-Err.ensures.cut tells)
