use Rattle.std.proofs.Common.{◌≡◌, ◌≢◌, ◌⊎◌, ◌↔◌, inl, inr, ℕ, ◌+◌, ◌*◌, ◌<◌, ◌≤◌, true, false, List, [], ◌∷◌, ◌++◌, length, Option, Some, None, refl, sym, ap, ap₂, subst, ◌∙◌, arith}
use Rattle.std.specs.Prelude.{slice_set, remove, OnOk, IfOk, IfErr, MatchOption, IsSome}
use Rattle.std.specs.Option.{option_map}
use Rattle.wat_images.specs.Refusal.{IfDamaged, IfPageLimit}
use Rattle.wat_pages.specs.Pages.{book_of, page_in, count_of, first_free_of}
use Rattle.wat_pages.specs.Within.{bound_of}
use Rattle.wat_slot.specs.Cells.{cells_bytes, IsCellPage}
use Rattle.wat_book.specs.Book.{Section, section, Worked, SameBook}
use Rattle.wat_room.specs.Rooms.{IsLeastWith}
use Rattle.wat_value.specs.Encoding.{row_bytes}
use Rattle.wat_rows.specs.declared.name.RowName.{RowName}
use Rattle.wat_rows.specs.Rows.{Row, RowMap, NamedRow, IsRowOf, Sets, cells_of, cell_of, row_cell, size_of}
use Rattle.wat_rows.specs.Pages.{of_rows}
use Rattle.wat_rows.proofs.Stepping.{no_row}
use Rattle.wat_directory.specs.declared.row_page.RowPage.{RowPage}
use Rattle.wat_directory.specs.declared.directory.Directory.{Directory}
use Rattle.wat_directory.specs.declared.directory.Spot.{Spot}
use Rattle.wat_directory.specs.Known.{HasOwnRoom, Holds, IsChosen, IsLeastRoom, IsRoomy, LessUsed, NoRoom, NoRoomFor, entry_of, names_in, own_size, page_at, place_at, row_pages, spot_at, used_bytes}
use Rattle.wat_cells.specs.Going.{Goes, Keeps}
use Rattle.wat_cells.specs.Wrote.{WroteCells}
use Rattle.wat_cells.proofs.Then.{damaged_to, goes_nowhere, goes_by, goes_then, goes_all, keeps_by, keeps_then, keeps_still, limit_to, some_of, some_to, match_some, match_none}
use Rattle.wat_heap.specs.declared.heap.Heap.{Heap}
use Rattle.wat_heap.specs.Heaps.{IsHeld}
use Rattle.wat_heap.proofs.Counts.{both_ok, bound_same, cell_size, filled_of, less_count, more_count, on_ok, placed_here, same_count, some_page, stands_where, to_limit}
use Rattle.wat_heap.proofs.Doing.{pushed, changed_to, off, freed, onto_new, still_held, taking, unknown}
use Rattle.wat_heap.proofs.Finding.{found, not_found, on_page, reads, reads_none}
use Rattle.wat_heap.proofs.Moving.{chosen_least, chosen_new, chosen_own, has_own, least_mid, needed_not, new_none, none_for, none_mid, none_new, not_own, nothing_gone, same_then_worked, sets_again, then_worked, without}
use Rattle.wat_heap.proofs.Rooming.{least_is, no_room, not_both, one_least, roomy_of}
use Rattle.wat_heap.proofs.Sizes.{left, less_fits, no_push, no_room_set, one_alone, room_set, within}
use Rattle.wat_heap.proofs.Taken.{unknown_page}
use Rattle.wat_heap.proofs.heap.Heap.take_off.Goals as goal

pub returns-in-Err-clause-goes : goal.returns-in-Err-clause-goes
returns-in-Err-clause-goes g c tells = goes_nowhere (g.D.Disk.told c.args.disk.now) c.args.pages.now

pub returns-in-Ok-take_off-clause-taken : goal.returns-in-Ok-take_off-clause-taken
returns-in-Ok-take_off-clause-taken g c tells owners free defs rows h after there sets =
    let old = book_of (g.D.Disk.told c.args.disk.now) c.args.pages.now in
    let new = book_of (g.D.Disk.told c.rewrite.new.disk) c.rewrite.new.pages in
    let spot = c.args.spot in
    let f = found c.args.self.now.directory old owners free defs rows h c.args.table c.args.key.now spot there in
    let wrote : (cells : List (List ℕ)) → IsCellPage (old.page spot.page) cells → spot.cell < length cells → WroteCells spot.page (remove cells spot.cell) old new = λ cells are within.
    some_of (λ _. WroteCells spot.page (remove cells spot.cell) old new) c.in-Ok-Some.field-0 c.in-Ok-Some.used c.in-Ok-Some.field-0-is (c.in-Ok-Some.ensures.written tells cells are within) in
    let count : (cells : List (List ℕ)) → IsCellPage (old.page spot.page) cells → spot.cell < length cells → c.in-Ok-Some.used ≡ length (cells_bytes (remove cells spot.cell)) = λ cells are within.
    match_some _ (λ used. used ≡ length (cells_bytes (remove cells spot.cell))) c.in-Ok-Some.field-0 c.in-Ok-Some.used c.in-Ok-Some.field-0-is (c.in-Ok-Some.ensures.used tells cells are within) in
    off c.args.self.now.directory old owners free defs rows h c.take_off.new.self new c.args.table c.args.key.now spot c.in-Ok-Some.used after f sets wrote count c.in-Ok-take_off.ensures.page c.in-Ok-take_off.ensures.place

pub returns-in-Err-clause-undamaged : goal.returns-in-Err-clause-undamaged
returns-in-Err-clause-undamaged g c tells saved safe count owners free defs rows h there =
    let f = found c.args.self.now.directory (book_of (g.D.Disk.told c.args.disk.now) c.args.pages.now) owners free defs rows h c.args.table c.args.key.now c.args.spot there in
    absurd (c.in-Err.ensures.refused f.page.not_first f.page.below)

pub returns-in-Ok-None-clause-undamaged : goal.returns-in-Ok-None-clause-undamaged
returns-in-Ok-None-clause-undamaged g c tells saved safe count owners free defs rows h there =
    let spot = c.args.spot in
    let f = found c.args.self.now.directory (book_of (g.D.Disk.told c.args.disk.now) c.args.pages.now) owners free defs rows h c.args.table c.args.key.now c.args.spot there in
    let over : 4080 < length (cells_bytes (remove (cells_of f.page.list) spot.cell)) =
    match_none (4080 < length (cells_bytes (remove (cells_of f.page.list) spot.cell))) (λ used. used ≡ length (cells_bytes (remove (cells_of f.page.list) spot.cell))) c.in-Ok-None.field-0 c.in-Ok-None.field-0-is
    (c.in-Ok-None.ensures.used tells (cells_of f.page.list) f.page.are (within c.args.self.now.directory (book_of (g.D.Disk.told c.args.disk.now) c.args.pages.now) owners free defs rows h c.args.table c.args.key.now c.args.spot f)) in
    absurd (omega (arith, over, less_fits c.args.self.now.directory (book_of (g.D.Disk.told c.args.disk.now) c.args.pages.now) owners free defs rows h c.args.table c.args.key.now c.args.spot f))

pub returns-in-Err-rewrite-clause-undamaged : goal.returns-in-Err-rewrite-clause-undamaged
returns-in-Err-rewrite-clause-undamaged g c tells saved safe count owners free defs rows h there =
    let f = found c.args.self.now.directory (book_of (g.D.Disk.told c.args.disk.now) c.args.pages.now) owners free defs rows h c.args.table c.args.key.now c.args.spot there in
    c.in-Err-rewrite.ensures.undamaged tells saved safe count (cells_of f.page.list) f.page.are (within c.args.self.now.directory (book_of (g.D.Disk.told c.args.disk.now) c.args.pages.now) owners free defs rows h c.args.table c.args.key.now c.args.spot f)

pub returns-in-Ok-take_off-clause-pages : goal.returns-in-Ok-take_off-clause-pages
returns-in-Ok-take_off-clause-pages g c tells owners free defs rows h there =
    let f = found c.args.self.now.directory (book_of (g.D.Disk.told c.args.disk.now) c.args.pages.now) owners free defs rows h c.args.table c.args.key.now c.args.spot there in
    same_count (row_pages c.take_off.new.self) (row_pages c.args.self.now.directory) (page_at c.args.self.now.directory c.args.spot.page) c.in-Ok-take_off.ensures.count (some_page c.args.self.now.directory c.args.spot.page f.entry f.is)

pub returns-in-Ok-take_off-clause-place : goal.returns-in-Ok-take_off-clause-place
returns-in-Ok-take_off-clause-place g c = placed_here (record { table = c.args.table; key = c.args.key.now }) None c.args.self.now.directory c.take_off.new.self c.in-Ok-take_off.ensures.place

pub returns-in-Ok-take_off-clause-left : goal.returns-in-Ok-take_off-clause-left
returns-in-Ok-take_off-clause-left g c tells owners free defs rows h before there was =
    let spot = c.args.spot in
    let f = found c.args.self.now.directory (book_of (g.D.Disk.told c.args.disk.now) c.args.pages.now) owners free defs rows h c.args.table c.args.key.now c.args.spot there in
    let used : c.in-Ok-Some.used ≡ length (cells_bytes (remove (cells_of f.page.list) spot.cell)) =
    match_some (4080 < length (cells_bytes (remove (cells_of f.page.list) spot.cell))) (λ used. used ≡ length (cells_bytes (remove (cells_of f.page.list) spot.cell))) c.in-Ok-Some.field-0 c.in-Ok-Some.used c.in-Ok-Some.field-0-is
    (c.in-Ok-Some.ensures.used tells (cells_of f.page.list) f.page.are (within c.args.self.now.directory (book_of (g.D.Disk.told c.args.disk.now) c.args.pages.now) owners free defs rows h c.args.table c.args.key.now c.args.spot f)) in
    left c.args.self.now.directory (book_of (g.D.Disk.told c.args.disk.now) c.args.pages.now) owners free defs rows h c.args.table c.args.key.now c.args.spot f c.take_off.new.self c.in-Ok-Some.used used c.in-Ok-take_off.ensures.page before was
