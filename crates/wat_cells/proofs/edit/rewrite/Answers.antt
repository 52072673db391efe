use Rattle.std.proofs.Common.{◌≡◌, ◌<◌, ℕ, List, length, true, false, sym, ap, subst, ◌∙◌}
use Rattle.std.specs.Prelude.{MatchOption}
use Rattle.wat_pages.specs.Pages.{book_of, page_in}
use Rattle.wat_slot.specs.Cells.{cells_bytes}
use Rattle.wat_cells.specs.Edit.{edited}
use Rattle.wat_cells.specs.Wrote.{WroteCells}
use Rattle.wat_cells.proofs.Edited.{edited_is, can_edit}
use Rattle.wat_cells.proofs.Then.{goes_then, keeps_then, damaged_to, some_to, wrote_then}
use Rattle.wat_cells.proofs.edit.rewrite.Goals as goal

pub returns-in-Ok-write_cells-clause-goes : goal.returns-in-Ok-write_cells-clause-goes
returns-in-Ok-write_cells-clause-goes g c tells =
    goes_then (g.D.Disk.told c.args.disk.now) (g.D.Disk.told c.read_cells.new.disk) (g.D.Disk.told c.write_cells.new.disk) c.args.pages.now c.read_cells.new.pages c.write_cells.new.pages
    (c.read_cells.ensures.goes tells) (c.in-Ok.ensures.keeps tells) (c.write_cells.ensures.goes tells)

pub returns-clause-goes : goal.returns-clause-goes
returns-clause-goes g c tells =
    goes_then (g.D.Disk.told c.args.disk.now) (g.D.Disk.told c.read_cells.new.disk) (g.D.Disk.told c.write_cells.new.disk) c.args.pages.now c.read_cells.new.pages c.write_cells.new.pages
    (c.read_cells.ensures.goes tells) (c.in-Ok.ensures.keeps tells) (c.write_cells.ensures.goes tells)

pub returns-in-Ok-write_cells-clause-keeps : goal.returns-in-Ok-write_cells-clause-keeps
returns-in-Ok-write_cells-clause-keeps g c tells =
    keeps_then (g.D.Disk.told c.args.disk.now) (g.D.Disk.told c.read_cells.new.disk) (g.D.Disk.told c.write_cells.new.disk) c.read_cells.new.pages c.write_cells.new.pages (c.in-Ok.ensures.keeps tells) (c.in-Ok-write_cells.ensures.keeps tells)

pub returns-in-Err-clause-undamaged : goal.returns-in-Err-clause-undamaged
returns-in-Err-clause-undamaged g c tells saved safe count cells are can =
    damaged_to c.in-Err.refusal _ (λ file at. ⊥) (λ file at not. not.2 cells are) (c.in-Err.ensures.damaged tells)

pub returns-in-Ok-false-clause-undamaged : goal.returns-in-Ok-false-clause-undamaged
returns-in-Ok-false-clause-undamaged g c tells saved safe count cells are can =
    let page = page_in (g.D.Disk.told c.args.disk.now) c.args.pages.now c.args.page in
    let yes : c.in-Ok-false.field-0 ≡ true = c.in-Ok-false.ensures.there.1 (can_edit c.args.edit page c.in-Ok.cells cells (c.in-Ok.ensures.cells tells) are can) in
    absurd (let no : false ≡ true = sym c.in-Ok-false.field-0-test ∙ yes in cc)

pub returns-in-Ok-write_cells-clause-used : goal.returns-in-Ok-write_cells-clause-used
returns-in-Ok-write_cells-clause-used g c tells cells are can =
    let page = page_in (g.D.Disk.told c.args.disk.now) c.args.pages.now c.args.page in
    subst (λ l. MatchOption c.in-Ok-write_cells.used (4080 < length (cells_bytes l)) (λ used. used ≡ length (cells_bytes l)))
    (edited_is c.args.edit page c.in-Ok.cells cells c.edit_cells.new.cells (c.in-Ok.ensures.cells tells) are (c.in-Ok-true.ensures.edited c.in-Ok-true.field-0-test)) c.in-Ok-write_cells.ensures.used

pub returns-in-Ok-write_cells-clause-written : goal.returns-in-Ok-write_cells-clause-written
returns-in-Ok-write_cells-clause-written g c tells cells are can =
    let old = book_of (g.D.Disk.told c.args.disk.now) c.args.pages.now in
    let mid = book_of (g.D.Disk.told c.read_cells.new.disk) c.read_cells.new.pages in
    let new = book_of (g.D.Disk.told c.write_cells.new.disk) c.write_cells.new.pages in
    let page = page_in (g.D.Disk.told c.args.disk.now) c.args.pages.now c.args.page in
    let is = edited_is c.args.edit page c.in-Ok.cells cells c.edit_cells.new.cells (c.in-Ok.ensures.cells tells) are (c.in-Ok-true.ensures.edited c.in-Ok-true.field-0-test) in
    some_to c.in-Ok-write_cells.used (λ _. WroteCells c.args.page c.edit_cells.new.cells mid new) (λ _. WroteCells c.args.page (edited c.args.edit cells) old new)
    (λ _ wrote. wrote_then c.args.page (edited c.args.edit cells) old mid new c.requires.page (c.in-Ok.ensures.same tells) (subst (λ l. WroteCells c.args.page l mid new) is wrote))
    (c.in-Ok-write_cells.ensures.written tells)

pub returns-clause-undamaged : goal.returns-clause-undamaged
returns-clause-undamaged g c tells saved safe count cells are can =
    c.in-Err-write_cells.ensures.undamaged tells saved ((c.in-Ok.ensures.keeps tells).safe saved safe) (count ∙ sym c.in-Ok.ensures.head.stored)
