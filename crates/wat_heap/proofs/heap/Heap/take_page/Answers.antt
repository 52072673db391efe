use Rattle.std.proofs.Common.{◌≡◌, ◌+◌, ◌*◌, ◌<◌, ℕ, List, None, length, true, false, refl, sym, ap, subst, ◌∙◌, arith}
use Rattle.wat_pages.specs.Pages.{page_in}
use Rattle.wat_slot.specs.Cells.{cells_bytes, IsCellPage}
use Rattle.wat_slot.proofs.Reading.{one_list}
use Rattle.wat_value.specs.declared.definition.TableDef.{TableDef}
use Rattle.wat_book.specs.Book.{Section}
use Rattle.wat_rows.specs.Rows.{RowMap}
use Rattle.wat_directory.specs.Known.{Holds, row_pages}
use Rattle.wat_cells.proofs.Then.{damaged_to, goes_nowhere}
use Rattle.wat_heap.specs.Taking.{def_in, IsRowList, IsRowPage, TakesList, Takes}
use Rattle.wat_heap.proofs.Taken.{unknown_page}
use Rattle.wat_heap.proofs.heap.Heap.take_page.Goals as goal

pub take_rows-requires-clause-fit : goal.take_rows-requires-clause-fit
take_rows-requires-clause-fit g c = omega (arith, ap (λ l. length (cells_bytes l)) c.as_slice.ensures, c.in-Ok-read_cells.ensures.fit)

pub returns-in-Err-clause-goes : goal.returns-in-Err-clause-goes
returns-in-Err-clause-goes g c tells = goes_nowhere (g.D.Disk.told c.args.disk.now) c.args.pages.now

pub returns-in-Err-clause-damaged : goal.returns-in-Err-clause-damaged
returns-in-Err-clause-damaged g c tells taken rows h none = absurd (c.in-Err.ensures.refused c.requires.not_header c.requires.page)

pub returns-in-Err-read_cells-clause-damaged : goal.returns-in-Err-read_cells-clause-damaged
returns-in-Err-read_cells-clause-damaged g c tells taken rows h none =
    damaged_to c.in-Err-read_cells.refusal _ (λ file at. (file ≡ 0) × (at ≡ 4096 * c.args.page) × ((after : RowMap) → IsRowPage (def_in c.args.defs.now) (page_in (g.D.Disk.told c.args.disk.now) c.args.pages.now c.args.page) rows after → ⊥))
    (λ file at not. (not.0, not.1, λ after is. not.2 is.cells is.page)) (c.in-Err-read_cells.ensures.damaged tells)

pub returns-in-Ok-true-clause-taken : goal.returns-in-Ok-true-clause-taken
returns-in-Ok-true-clause-taken g c tells taken rows h none =
    let are : IsCellPage (page_in (g.D.Disk.told c.args.disk.now) c.args.pages.now c.args.page) c.as_slice.result.now = subst (IsCellPage (page_in (g.D.Disk.told c.args.disk.now) c.args.pages.now c.args.page)) (sym c.as_slice.ensures) (c.in-Ok-read_cells.ensures.cells tells) in
    let list : TakesList (def_in c.args.defs.now) c.args.page c.as_slice.result.now taken rows c.take_rows.new.directory =
    subst (λ (defs : List TableDef). TakesList (def_in defs) c.args.page c.as_slice.result.now taken rows c.take_rows.new.directory) c.as_slice-2.ensures
    (c.in-Ok-true.ensures.taken taken rows (subst (λ (defs : List TableDef). Holds c.args.self.now.directory taken (def_in defs) rows) (sym c.as_slice-2.ensures) h) none c.in-Ok-true.field-0-test) in
    record { after = list.after; is = record { cells = c.as_slice.result.now; page = are; are = list.are }; holds = list.holds (page_in (g.D.Disk.told c.args.disk.now) c.args.pages.now c.args.page) are }

pub returns-in-Ok-false-clause-damaged : goal.returns-in-Ok-false-clause-damaged
returns-in-Ok-false-clause-damaged g c tells taken rows h none =
    let are : IsCellPage (page_in (g.D.Disk.told c.args.disk.now) c.args.pages.now c.args.page) c.as_slice.result.now = subst (IsCellPage (page_in (g.D.Disk.told c.args.disk.now) c.args.pages.now c.args.page)) (sym c.as_slice.ensures) (c.in-Ok-read_cells.ensures.cells tells) in
    damaged_to c.damaged.result _ (λ file at. (file ≡ 0) × (at ≡ 4096 * c.args.page) × ((after : RowMap) → IsRowPage (def_in c.args.defs.now) (page_in (g.D.Disk.told c.args.disk.now) c.args.pages.now c.args.page) rows after → ⊥))
    (λ file at there. (
      there.0,
      there.1,
      λ after is.
          c.in-Ok-false.ensures.broken taken rows (subst (λ (defs : List TableDef). Holds c.args.self.now.directory taken (def_in defs) rows) (sym c.as_slice-2.ensures) h) none c.in-Ok-false.field-0-test after
          (subst (λ (defs : List TableDef). IsRowList (def_in defs) c.as_slice.result.now rows after) (sym c.as_slice-2.ensures) (subst (λ l. IsRowList (def_in c.args.defs.now) l rows after) (one_list (page_in (g.D.Disk.told c.args.disk.now) c.args.pages.now c.args.page) is.cells c.as_slice.result.now is.page are) is.are)),
    ))
    c.damaged.ensures.damaged

pub returns-in-Ok-true-clause-pages : goal.returns-in-Ok-true-clause-pages
returns-in-Ok-true-clause-pages g c tells taken rows h none = c.in-Ok-true.ensures.count (unknown_page c.args.self.now.directory (def_in c.args.defs.now) c.args.page taken rows h none)
