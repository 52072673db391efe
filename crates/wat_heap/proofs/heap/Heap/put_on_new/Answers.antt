use Rattle.std.proofs.Common.{◌≡◌, ◌≢◌, ◌⊎◌, ◌↔◌, inl, inr, ℕ, ◌+◌, ◌*◌, ◌<◌, ◌≤◌, true, false, List, [], ◌∷◌, ◌++◌, length, Option, Some, None, refl, sym, ap, ap₂, subst, ◌∙◌, arith}
use Rattle.std.specs.Prelude.{slice_set, remove, OnOk, IfOk, IfErr, MatchOption, IsSome}
use Rattle.std.specs.Option.{option_map}
use Rattle.wat_images.specs.Refusal.{IfDamaged, IfPageLimit}
use Rattle.wat_pages.specs.Pages.{book_of, page_in, count_of, first_free_of}
use Rattle.wat_pages.specs.Within.{bound_of}
use Rattle.wat_slot.specs.Cells.{cells_bytes, IsCellPage}
use Rattle.wat_book.specs.Book.{Section, section, Worked, SameBook}
use Rattle.wat_room.specs.Rooms.{IsLeastWith}
use Rattle.wat_value.specs.Encoding.{row_bytes}
use Rattle.wat_rows.specs.declared.name.RowName.{RowName}
use Rattle.wat_rows.specs.Rows.{Row, RowMap, NamedRow, IsRowOf, Sets, cells_of, cell_of, row_cell, size_of}
use Rattle.wat_rows.specs.Pages.{of_rows}
use Rattle.wat_rows.proofs.Stepping.{no_row}
use Rattle.wat_directory.specs.declared.row_page.RowPage.{RowPage}
use Rattle.wat_directory.specs.declared.directory.Directory.{Directory}
use Rattle.wat_directory.specs.declared.directory.Spot.{Spot}
use Rattle.wat_directory.specs.Known.{HasOwnRoom, Holds, IsChosen, IsLeastRoom, IsRoomy, LessUsed, NoRoom, NoRoomFor, entry_of, names_in, own_size, page_at, place_at, row_pages, spot_at, used_bytes}
use Rattle.wat_cells.specs.Going.{Goes, Keeps}
use Rattle.wat_cells.specs.Wrote.{WroteCells}
use Rattle.wat_cells.proofs.Then.{damaged_to, goes_nowhere, goes_by, goes_then, goes_all, keeps_by, keeps_then, keeps_still, limit_to, some_of, some_to, match_some, match_none}
use Rattle.wat_heap.specs.declared.heap.Heap.{Heap}
use Rattle.wat_heap.specs.Heaps.{IsHeld}
use Rattle.wat_heap.proofs.Counts.{both_ok, bound_same, cell_size, filled_of, less_count, more_count, on_ok, placed_here, same_count, some_page, stands_where, to_limit}
use Rattle.wat_heap.proofs.Doing.{pushed, changed_to, off, freed, onto_new, still_held, taking, unknown}
use Rattle.wat_heap.proofs.Finding.{found, not_found, on_page, reads, reads_none}
use Rattle.wat_heap.proofs.Moving.{chosen_least, chosen_new, chosen_own, has_own, least_mid, needed_not, new_none, none_for, none_mid, none_new, not_own, nothing_gone, same_then_worked, sets_again, then_worked, without}
use Rattle.wat_heap.proofs.Rooming.{least_is, no_room, not_both, one_least, roomy_of}
use Rattle.wat_heap.proofs.Sizes.{left, less_fits, no_push, no_room_set, one_alone, room_set, within}
use Rattle.wat_heap.proofs.Taken.{unknown_page}
use Rattle.wat_heap.proofs.heap.Heap.put_on_new.Goals as goal

pub returns-in-Err-clause-goes : goal.returns-in-Err-clause-goes
returns-in-Err-clause-goes g c tells =
    goes_all (g.D.Disk.told c.args.disk.now) (g.D.Disk.told c.new_page.new.disk) c.args.pages.now c.new_page.new.self c.new_page.ensures.others c.new_page.ensures.limit c.new_page.ensures.stored c.new_page.ensures.header (c.new_page.ensures.stops tells)

pub returns-in-Ok-add-clause-put : goal.returns-in-Ok-add-clause-put
returns-in-Ok-add-clause-put g c tells owners free defs rows h after row fits cell_is none sets =
    let old = book_of (g.D.Disk.told c.args.disk.now) c.args.pages.now in
    let mid = book_of (g.D.Disk.told c.new_page.new.disk) c.new_page.new.self in
    let new = book_of (g.D.Disk.told c.write_cells.new.disk) c.write_cells.new.pages in
    let x : NamedRow = record { name = c.args.name; row = row } in
    let used = c.in-Ok-Some.used in
    let wrote : WroteCells c.in-Ok.page (c.args.cell ∷ []) mid new =
    subst (λ l. WroteCells c.in-Ok.page l mid new) c.in-Ok-alone.ensures (some_of (λ _. WroteCells c.in-Ok.page c.in-Ok-alone.cells mid new) c.in-Ok-Some.field-0 used c.in-Ok-Some.field-0-is (c.in-Ok-Some.ensures.written tells)) in
    let count : used ≡ length (cells_bytes (c.args.cell ∷ [])) =
    match_some _ (λ n. n ≡ length (cells_bytes c.in-Ok-alone.cells)) c.in-Ok-Some.field-0 used c.in-Ok-Some.field-0-is c.in-Ok-Some.ensures.used ∙ ap (λ l. length (cells_bytes l)) c.in-Ok-alone.ensures in
    onto_new c.args.self.now.directory old owners free defs rows h c.add.new.self mid new c.in-Ok.page used x c.args.cell after c.in-Ok.ensures.page (c.in-Ok.ensures.taken tells) wrote count fits cell_is none sets c.in-Ok-add.ensures.page c.in-Ok-add.ensures.place

pub returns-in-Err-clause-undamaged : goal.returns-in-Err-clause-undamaged
returns-in-Err-clause-undamaged g c tells saved safe count owners free defs rows h = c.in-Err.ensures.undamaged tells saved owners free safe count h.owned

pub returns-in-Err-in_use-clause-goes : goal.returns-in-Err-in_use-clause-goes
returns-in-Err-in_use-clause-goes g c tells =
    goes_all (g.D.Disk.told c.args.disk.now) (g.D.Disk.told c.new_page.new.disk) c.args.pages.now c.new_page.new.self c.new_page.ensures.others c.new_page.ensures.limit c.new_page.ensures.stored c.new_page.ensures.header (c.new_page.ensures.stops tells)

pub returns-in-Err-in_use-clause-undamaged : goal.returns-in-Err-in_use-clause-undamaged
returns-in-Err-in_use-clause-undamaged g c tells saved safe count owners free defs rows h = absurd (c.in-Err-in_use.ensures.refused (omega (arith, c.in-Ok.ensures.numbered.0)) c.in-Ok.ensures.numbered.1)

pub returns-in-Err-alone-clause-goes : goal.returns-in-Err-alone-clause-goes
returns-in-Err-alone-clause-goes g c tells =
    goes_all (g.D.Disk.told c.args.disk.now) (g.D.Disk.told c.new_page.new.disk) c.args.pages.now c.new_page.new.self c.new_page.ensures.others c.new_page.ensures.limit c.new_page.ensures.stored c.new_page.ensures.header (c.new_page.ensures.stops tells)

pub returns-in-Ok-None-clause-goes : goal.returns-in-Ok-None-clause-goes
returns-in-Ok-None-clause-goes g c tells =
    goes_then (g.D.Disk.told c.args.disk.now) (g.D.Disk.told c.new_page.new.disk) (g.D.Disk.told c.write_cells.new.disk) c.args.pages.now c.new_page.new.self c.write_cells.new.pages (goes_all (g.D.Disk.told c.args.disk.now) (g.D.Disk.told c.new_page.new.disk) c.args.pages.now c.new_page.new.self c.new_page.ensures.others c.new_page.ensures.limit c.new_page.ensures.stored c.new_page.ensures.header (c.new_page.ensures.stops tells)) (keeps_by (g.D.Disk.told c.args.disk.now) (g.D.Disk.told c.new_page.new.disk) c.new_page.new.self (c.in-Ok.ensures.known tells) (λ saved safe. c.in-Ok.ensures.safe tells saved safe)) (c.write_cells.ensures.goes tells)

pub returns-in-Ok-None-clause-undamaged : goal.returns-in-Ok-None-clause-undamaged
returns-in-Ok-None-clause-undamaged g c tells saved safe count owners free defs rows h =
    let over : 4080 < length (cells_bytes c.in-Ok-alone.cells) =
    match_none (4080 < length (cells_bytes c.in-Ok-alone.cells)) (λ used. used ≡ length (cells_bytes c.in-Ok-alone.cells)) c.in-Ok-None.field-0 c.in-Ok-None.field-0-is c.in-Ok-None.ensures.used in
    absurd (omega (arith, over, ap (λ l. length (cells_bytes l)) c.in-Ok-alone.ensures, one_alone c.args.cell, c.requires.short))

pub returns-in-Err-write_cells-clause-goes : goal.returns-in-Err-write_cells-clause-goes
returns-in-Err-write_cells-clause-goes g c tells =
    goes_then (g.D.Disk.told c.args.disk.now) (g.D.Disk.told c.new_page.new.disk) (g.D.Disk.told c.write_cells.new.disk) c.args.pages.now c.new_page.new.self c.write_cells.new.pages (goes_all (g.D.Disk.told c.args.disk.now) (g.D.Disk.told c.new_page.new.disk) c.args.pages.now c.new_page.new.self c.new_page.ensures.others c.new_page.ensures.limit c.new_page.ensures.stored c.new_page.ensures.header (c.new_page.ensures.stops tells)) (keeps_by (g.D.Disk.told c.args.disk.now) (g.D.Disk.told c.new_page.new.disk) c.new_page.new.self (c.in-Ok.ensures.known tells) (λ saved safe. c.in-Ok.ensures.safe tells saved safe)) (c.write_cells.ensures.goes tells)

pub returns-in-Err-write_cells-clause-undamaged : goal.returns-in-Err-write_cells-clause-undamaged
returns-in-Err-write_cells-clause-undamaged g c tells saved safe count owners free defs rows h =
    c.in-Err-write_cells.ensures.undamaged tells saved (c.in-Ok.ensures.safe tells saved safe) (count ∙ sym c.new_page.ensures.stored)

pub returns-in-Ok-add-clause-goes : goal.returns-in-Ok-add-clause-goes
returns-in-Ok-add-clause-goes g c tells =
    goes_then (g.D.Disk.told c.args.disk.now) (g.D.Disk.told c.new_page.new.disk) (g.D.Disk.told c.write_cells.new.disk) c.args.pages.now c.new_page.new.self c.write_cells.new.pages (goes_all (g.D.Disk.told c.args.disk.now) (g.D.Disk.told c.new_page.new.disk) c.args.pages.now c.new_page.new.self c.new_page.ensures.others c.new_page.ensures.limit c.new_page.ensures.stored c.new_page.ensures.header (c.new_page.ensures.stops tells)) (keeps_by (g.D.Disk.told c.args.disk.now) (g.D.Disk.told c.new_page.new.disk) c.new_page.new.self (c.in-Ok.ensures.known tells) (λ saved safe. c.in-Ok.ensures.safe tells saved safe)) (c.write_cells.ensures.goes tells)

pub returns-in-Ok-add-clause-keeps : goal.returns-in-Ok-add-clause-keeps
returns-in-Ok-add-clause-keeps g c tells =
    keeps_then (g.D.Disk.told c.args.disk.now) (g.D.Disk.told c.new_page.new.disk) (g.D.Disk.told c.write_cells.new.disk) c.new_page.new.self c.write_cells.new.pages (keeps_by (g.D.Disk.told c.args.disk.now) (g.D.Disk.told c.new_page.new.disk) c.new_page.new.self (c.in-Ok.ensures.known tells) (λ saved safe. c.in-Ok.ensures.safe tells saved safe)) (c.in-Ok-Some.ensures.keeps tells)

pub returns-in-Ok-add-clause-pages : goal.returns-in-Ok-add-clause-pages
returns-in-Ok-add-clause-pages g c tells owners free defs rows h =
    let mid = book_of (g.D.Disk.told c.new_page.new.disk) c.new_page.new.self in
    let page = c.in-Ok.page in
    let k = taking c.args.self.now.directory (book_of (g.D.Disk.told c.args.disk.now) c.args.pages.now) owners free defs rows h mid page c.in-Ok.ensures.page (c.in-Ok.ensures.taken tells) in
    let none : page_at c.args.self.now.directory page ≡ None = h.holds.knows.pages page ∙ ap (option_map entry_of) (unknown c.args.self.now.directory (book_of (g.D.Disk.told c.args.disk.now) c.args.pages.now) owners free defs rows h page k.none) in
    more_count (row_pages c.add.new.self) (row_pages c.args.self.now.directory) (page_at c.args.self.now.directory page) c.in-Ok-add.ensures.count none

pub returns-clause-goes : goal.returns-clause-goes
returns-clause-goes g c tells =
    goes_then (g.D.Disk.told c.args.disk.now) (g.D.Disk.told c.new_page.new.disk) (g.D.Disk.told c.write_cells.new.disk) c.args.pages.now c.new_page.new.self c.write_cells.new.pages (goes_all (g.D.Disk.told c.args.disk.now) (g.D.Disk.told c.new_page.new.disk) c.args.pages.now c.new_page.new.self c.new_page.ensures.others c.new_page.ensures.limit c.new_page.ensures.stored c.new_page.ensures.header (c.new_page.ensures.stops tells)) (keeps_by (g.D.Disk.told c.args.disk.now) (g.D.Disk.told c.new_page.new.disk) c.new_page.new.self (c.in-Ok.ensures.known tells) (λ saved safe. c.in-Ok.ensures.safe tells saved safe)) (c.write_cells.ensures.goes tells)
