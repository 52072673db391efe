use Rattle.std.proofs.Common.{◌≡◌, ◌≢◌, ◌⊎◌, ◌↔◌, inl, inr, ℕ, ◌+◌, ◌*◌, ◌<◌, ◌≤◌, true, false, List, [], ◌∷◌, ◌++◌, length, Option, Some, None, refl, sym, ap, ap₂, subst, ◌∙◌, arith}
use Rattle.std.specs.Prelude.{slice_set, remove, OnOk, IfOk, IfErr, MatchOption, IsSome}
use Rattle.std.specs.Option.{option_map}
use Rattle.wat_images.specs.Refusal.{IfDamaged, IfPageLimit}
use Rattle.wat_pages.specs.Pages.{book_of, page_in, count_of, first_free_of}
use Rattle.wat_pages.specs.Within.{bound_of}
use Rattle.wat_slot.specs.Cells.{cells_bytes, IsCellPage}
use Rattle.wat_book.specs.Book.{Section, section, Worked, SameBook}
use Rattle.wat_room.specs.Rooms.{IsLeastWith}
use Rattle.wat_value.specs.Encoding.{row_bytes}
use Rattle.wat_rows.specs.declared.name.RowName.{RowName}
use Rattle.wat_rows.specs.Rows.{Row, RowMap, NamedRow, IsRowOf, Sets, cells_of, cell_of, row_cell, size_of}
use Rattle.wat_rows.specs.Pages.{of_rows}
use Rattle.wat_rows.proofs.Stepping.{no_row}
use Rattle.wat_directory.specs.declared.row_page.RowPage.{RowPage}
use Rattle.wat_directory.specs.declared.directory.Directory.{Directory}
use Rattle.wat_directory.specs.declared.directory.Spot.{Spot}
use Rattle.wat_directory.specs.Known.{HasOwnRoom, Holds, IsChosen, IsLeastRoom, IsRoomy, LessUsed, NoRoom, NoRoomFor, entry_of, names_in, own_size, page_at, place_at, row_pages, spot_at, used_bytes}
use Rattle.wat_cells.specs.Going.{Goes, Keeps}
use Rattle.wat_cells.specs.Wrote.{WroteCells}
use Rattle.wat_cells.proofs.Then.{damaged_to, goes_nowhere, goes_by, goes_then, goes_all, keeps_by, keeps_then, keeps_still, limit_to, some_of, some_to, match_some, match_none}
use Rattle.wat_heap.specs.declared.heap.Heap.{Heap}
use Rattle.wat_heap.specs.Heaps.{IsHeld}
use Rattle.wat_heap.proofs.Counts.{both_ok, bound_same, cell_size, filled_of, less_count, more_count, on_ok, placed_here, same_count, some_page, stands_where, to_limit}
use Rattle.wat_heap.proofs.Doing.{pushed, changed_to, off, freed, onto_new, still_held, taking, unknown}
use Rattle.wat_heap.proofs.Finding.{found, not_found, on_page, reads, reads_none}
use Rattle.wat_heap.proofs.Moving.{chosen_least, chosen_new, chosen_own, has_own, least_mid, needed_not, new_none, none_for, none_mid, none_new, not_own, nothing_gone, same_then_worked, sets_again, then_worked, without}
use Rattle.wat_heap.proofs.Rooming.{least_is, no_room, not_both, one_least, roomy_of}
use Rattle.wat_heap.proofs.Sizes.{left, less_fits, no_push, no_room_set, one_alone, room_set, within}
use Rattle.wat_heap.proofs.Taken.{unknown_page}
use Rattle.wat_heap.proofs.heap.Heap.free.Goals as goal

pub returns-in-Err-clause-goes : goal.returns-in-Err-clause-goes
returns-in-Err-clause-goes g c tells = goes_nowhere (g.D.Disk.told c.args.disk.now) c.args.pages.now

pub returns-in-Ok-forget-clause-taken : goal.returns-in-Ok-forget-clause-taken
returns-in-Ok-forget-clause-taken g c tells owners free defs rows h after there one sets =
    let old = book_of (g.D.Disk.told c.args.disk.now) c.args.pages.now in
    let new = book_of (g.D.Disk.told c.free_page.new.disk) c.free_page.new.self in
    let spot = c.args.spot in
    let f = found c.args.self.now.directory old owners free defs rows h c.args.table c.args.key.now spot there in
    freed c.args.self.now.directory old owners free defs rows h c.forget.new.self new c.args.table c.args.key.now spot after f sets one (c.in-Ok-free_page.ensures.given tells) c.in-Ok-forget.ensures.page c.in-Ok-forget.ensures.place

pub returns-in-Err-free_page-clause-goes : goal.returns-in-Err-free_page-clause-goes
returns-in-Err-free_page-clause-goes g c tells = goes_all (g.D.Disk.told c.args.disk.now) (g.D.Disk.told c.free_page.new.disk) c.args.pages.now c.free_page.new.self c.free_page.ensures.others c.free_page.ensures.limit c.free_page.ensures.stored c.free_page.ensures.header (c.free_page.ensures.stops tells)

pub returns-in-Ok-forget-clause-goes : goal.returns-in-Ok-forget-clause-goes
returns-in-Ok-forget-clause-goes g c tells = goes_all (g.D.Disk.told c.args.disk.now) (g.D.Disk.told c.free_page.new.disk) c.args.pages.now c.free_page.new.self c.free_page.ensures.others c.free_page.ensures.limit c.free_page.ensures.stored c.free_page.ensures.header (c.free_page.ensures.stops tells)

pub returns-in-Err-forget-clause-goes : goal.returns-in-Err-forget-clause-goes
returns-in-Err-forget-clause-goes g c tells = goes_all (g.D.Disk.told c.args.disk.now) (g.D.Disk.told c.free_page.new.disk) c.args.pages.now c.free_page.new.self c.free_page.ensures.others c.free_page.ensures.limit c.free_page.ensures.stored c.free_page.ensures.header (c.free_page.ensures.stops tells)

pub returns-in-Ok-forget-clause-keeps : goal.returns-in-Ok-forget-clause-keeps
returns-in-Ok-forget-clause-keeps g c tells = keeps_by (g.D.Disk.told c.args.disk.now) (g.D.Disk.told c.free_page.new.disk) c.free_page.new.self (c.in-Ok-free_page.ensures.known tells) (λ saved safe. c.in-Ok-free_page.ensures.safe tells saved safe)

pub returns-in-Err-free_page-clause-undamaged : goal.returns-in-Err-free_page-clause-undamaged
returns-in-Err-free_page-clause-undamaged g c tells saved safe count owners free defs rows h there = c.in-Err-free_page.ensures.undamaged tells saved safe count

pub returns-in-Err-clause-undamaged : goal.returns-in-Err-clause-undamaged
returns-in-Err-clause-undamaged g c tells saved safe count owners free defs rows h there =
    let f = found c.args.self.now.directory (book_of (g.D.Disk.told c.args.disk.now) c.args.pages.now) owners free defs rows h c.args.table c.args.key.now c.args.spot there in
    absurd (c.in-Err.ensures.refused f.page.not_first f.page.below)

pub returns-in-Ok-forget-clause-pages : goal.returns-in-Ok-forget-clause-pages
returns-in-Ok-forget-clause-pages g c some = less_count (row_pages c.forget.new.self) (row_pages c.args.self.now.directory) (page_at c.args.self.now.directory c.args.spot.page) c.in-Ok-forget.ensures.count some
