use Rattle.std.proofs.Common.{◌≡◌, ◌≢◌, ◌⊎◌, ◌↔◌, inl, inr, ℕ, ◌+◌, ◌*◌, ◌<◌, ◌≤◌, true, false, List, [], ◌∷◌, ◌++◌, length, Option, Some, None, refl, sym, ap, ap₂, subst, ◌∙◌, arith}
use Rattle.std.specs.Prelude.{slice_set, remove, OnOk, IfOk, IfErr, MatchOption, IsSome}
use Rattle.std.specs.Option.{option_map}
use Rattle.wat_images.specs.Refusal.{IfDamaged, IfPageLimit}
use Rattle.wat_pages.specs.Pages.{book_of, page_in, count_of, first_free_of}
use Rattle.wat_pages.specs.Within.{bound_of}
use Rattle.wat_slot.specs.Cells.{cells_bytes, IsCellPage}
use Rattle.wat_book.specs.Book.{Section, section, Worked, SameBook}
use Rattle.wat_room.specs.Rooms.{IsLeastWith}
use Rattle.wat_value.specs.Encoding.{row_bytes}
use Rattle.wat_rows.specs.declared.name.RowName.{RowName}
use Rattle.wat_rows.specs.Rows.{Row, RowMap, NamedRow, IsRowOf, Sets, cells_of, cell_of, row_cell, size_of}
use Rattle.wat_rows.specs.Pages.{of_rows}
use Rattle.wat_rows.proofs.Stepping.{no_row}
use Rattle.wat_directory.specs.declared.row_page.RowPage.{RowPage}
use Rattle.wat_directory.specs.declared.directory.Directory.{Directory}
use Rattle.wat_directory.specs.declared.directory.Spot.{Spot}
use Rattle.wat_directory.specs.Known.{HasOwnRoom, Holds, IsChosen, IsLeastRoom, IsRoomy, LessUsed, NoRoom, NoRoomFor, entry_of, names_in, own_size, page_at, place_at, row_pages, spot_at, used_bytes}
use Rattle.wat_cells.specs.Going.{Goes, Keeps}
use Rattle.wat_cells.specs.Wrote.{WroteCells}
use Rattle.wat_cells.proofs.Then.{damaged_to, goes_nowhere, goes_by, goes_then, goes_all, keeps_by, keeps_then, keeps_still, limit_to, some_of, some_to, match_some, match_none}
use Rattle.wat_heap.specs.declared.heap.Heap.{Heap}
use Rattle.wat_heap.specs.Heaps.{IsHeld}
use Rattle.wat_heap.proofs.Counts.{both_ok, bound_same, cell_size, filled_of, less_count, more_count, on_ok, placed_here, same_count, some_page, stands_where, to_limit}
use Rattle.wat_heap.proofs.Doing.{pushed, changed_to, off, freed, onto_new, still_held, taking, unknown}
use Rattle.wat_heap.proofs.Finding.{found, not_found, on_page, reads, reads_none}
use Rattle.wat_heap.proofs.Moving.{chosen_least, chosen_new, chosen_own, has_own, least_mid, needed_not, new_none, none_for, none_mid, none_new, not_own, nothing_gone, same_then_worked, sets_again, then_worked, without}
use Rattle.wat_heap.proofs.Rooming.{least_is, no_room, not_both, one_least, roomy_of}
use Rattle.wat_heap.proofs.Sizes.{left, less_fits, no_push, no_room_set, one_alone, room_set, within}
use Rattle.wat_heap.proofs.Taken.{unknown_page}
use Rattle.wat_heap.proofs.heap.Heap.get.Goals as goal

pub returns-in_default-clause-row : goal.returns-in_default-clause-row
returns-in_default-clause-row g c tells owners free defs rows h = sym (no_row defs h.holds.on h.holds.place rows h.holds.named c.args.table c.args.key.now (not_found c.args.self.now.directory (book_of (g.D.Disk.told c.args.disk.now) c.args.pages.now) owners free defs rows h c.args.table c.args.key.now (sym c.in_default.ensures)))

pub returns-in_default-clause-goes : goal.returns-in_default-clause-goes
returns-in_default-clause-goes g c tells = goes_nowhere (g.D.Disk.told c.args.disk.now) c.args.pages.now

pub returns-in_default-clause-keeps : goal.returns-in_default-clause-keeps
returns-in_default-clause-keeps g c tells = keeps_still (g.D.Disk.told c.args.disk.now) c.args.pages.now (c.requires.known tells)

pub returns-in-Err-clause-goes : goal.returns-in-Err-clause-goes
returns-in-Err-clause-goes g c tells = goes_nowhere (g.D.Disk.told c.args.disk.now) c.args.pages.now

pub returns-in-Err-clause-readable : goal.returns-in-Err-clause-readable
returns-in-Err-clause-readable g c tells owners free defs rows h =
    let f = found c.args.self.now.directory (book_of (g.D.Disk.told c.args.disk.now) c.args.pages.now) owners free defs rows h c.args.table c.args.key.now c.in-Some.place (sym c.in-Some.ensures) in
    absurd (c.in-Err.ensures.refused f.page.not_first f.page.below)

pub returns-in-Err-read_cells-clause-readable : goal.returns-in-Err-read_cells-clause-readable
returns-in-Err-read_cells-clause-readable g c tells owners free defs rows h =
    let f = found c.args.self.now.directory (book_of (g.D.Disk.told c.args.disk.now) c.args.pages.now) owners free defs rows h c.args.table c.args.key.now c.in-Some.place (sym c.in-Some.ensures) in
    damaged_to c.in-Err-read_cells.refusal _ (λ file at. ⊥) (λ file at not. not.2 (cells_of f.page.list) f.page.are) (c.in-Err-read_cells.ensures.damaged tells)

pub returns-in-Ok-Some-clause-row : goal.returns-in-Ok-Some-clause-row
returns-in-Ok-Some-clause-row g c tells owners free defs rows h =
    let f = found c.args.self.now.directory (book_of (g.D.Disk.told c.args.disk.now) c.args.pages.now) owners free defs rows h c.args.table c.args.key.now c.in-Some.place (sym c.in-Some.ensures) in
    let are : IsCellPage (page_in (g.D.Disk.told c.args.disk.now) c.args.pages.now c.in-Some.place.page) c.as_slice.result.now = subst (IsCellPage (page_in (g.D.Disk.told c.args.disk.now) c.args.pages.now c.in-Some.place.page)) (sym c.as_slice.ensures) (c.in-Ok-read_cells.ensures.cells tells) in
    sym c.in-Ok-Some.field-0-is ∙ reads c.args.self.now.directory (book_of (g.D.Disk.told c.args.disk.now) c.args.pages.now) owners free defs rows h c.args.table c.args.key.now c.in-Some.place f c.as_slice.result.now are c.in-Ok-Some.field-0 c.in-Ok-Some.ensures

pub returns-in-Ok-None-clause-readable : goal.returns-in-Ok-None-clause-readable
returns-in-Ok-None-clause-readable g c tells owners free defs rows h =
    let f = found c.args.self.now.directory (book_of (g.D.Disk.told c.args.disk.now) c.args.pages.now) owners free defs rows h c.args.table c.args.key.now c.in-Some.place (sym c.in-Some.ensures) in
    let are : IsCellPage (page_in (g.D.Disk.told c.args.disk.now) c.args.pages.now c.in-Some.place.page) c.as_slice.result.now = subst (IsCellPage (page_in (g.D.Disk.told c.args.disk.now) c.args.pages.now c.in-Some.place.page)) (sym c.as_slice.ensures) (c.in-Ok-read_cells.ensures.cells tells) in
    absurd (reads_none c.args.self.now.directory (book_of (g.D.Disk.told c.args.disk.now) c.args.pages.now) owners free defs rows h c.args.table c.args.key.now c.in-Some.place f (sym c.in-Ok-None.field-0-is ∙ reads c.args.self.now.directory (book_of (g.D.Disk.told c.args.disk.now) c.args.pages.now) owners free defs rows h c.args.table c.args.key.now c.in-Some.place f c.as_slice.result.now are c.in-Ok-None.field-0 c.in-Ok-None.ensures))

pub returns-in-Err-clause-undamaged : goal.returns-in-Err-clause-undamaged
returns-in-Err-clause-undamaged g c tells saved safe count owners free defs rows h = returns-in-Err-clause-readable g c tells owners free defs rows h

pub returns-in-Err-read_cells-clause-undamaged : goal.returns-in-Err-read_cells-clause-undamaged
returns-in-Err-read_cells-clause-undamaged g c tells saved safe count owners free defs rows h = returns-in-Err-read_cells-clause-readable g c tells owners free defs rows h

pub returns-in-Ok-None-clause-undamaged : goal.returns-in-Ok-None-clause-undamaged
returns-in-Ok-None-clause-undamaged g c tells saved safe count owners free defs rows h = returns-in-Ok-None-clause-readable g c tells owners free defs rows h
