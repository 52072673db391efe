use Rattle.std.proofs.Common.{◌≡◌, ◌≢◌, ◌⊎◌, ◌↔◌, inl, inr, ℕ, ◌+◌, ◌*◌, ◌<◌, ◌≤◌, true, false, List, [], ◌∷◌, ◌++◌, length, Option, Some, None, refl, sym, ap, ap₂, subst, ◌∙◌, arith}
use Rattle.std.specs.Prelude.{slice_set, remove, OnOk, IfOk, IfErr, MatchOption, IsSome}
use Rattle.std.specs.Option.{option_map}
use Rattle.wat_images.specs.Refusal.{IfDamaged, IfPageLimit}
use Rattle.wat_pages.specs.Pages.{book_of, page_in, count_of, first_free_of}
use Rattle.wat_pages.specs.Within.{bound_of}
use Rattle.wat_slot.specs.Cells.{cells_bytes, IsCellPage}
use Rattle.wat_book.specs.Book.{Section, section, Worked, SameBook}
use Rattle.wat_room.specs.Rooms.{IsLeastWith}
use Rattle.wat_value.specs.Encoding.{row_bytes}
use Rattle.wat_rows.specs.declared.name.RowName.{RowName}
use Rattle.wat_rows.specs.Rows.{Row, RowMap, NamedRow, IsRowOf, Sets, cells_of, cell_of, row_cell, size_of}
use Rattle.wat_rows.specs.Pages.{of_rows}
use Rattle.wat_rows.proofs.Stepping.{no_row}
use Rattle.wat_directory.specs.declared.row_page.RowPage.{RowPage}
use Rattle.wat_directory.specs.declared.directory.Directory.{Directory}
use Rattle.wat_directory.specs.declared.directory.Spot.{Spot}
use Rattle.wat_directory.specs.Known.{HasOwnRoom, Holds, IsChosen, IsLeastRoom, IsRoomy, LessUsed, NoRoom, NoRoomFor, entry_of, names_in, own_size, page_at, place_at, row_pages, spot_at, used_bytes}
use Rattle.wat_cells.specs.Going.{Goes, Keeps}
use Rattle.wat_cells.specs.Wrote.{WroteCells}
use Rattle.wat_cells.proofs.Then.{damaged_to, goes_nowhere, goes_by, goes_then, goes_all, keeps_by, keeps_then, keeps_still, limit_to, some_of, some_to, match_some, match_none}
use Rattle.wat_heap.specs.declared.heap.Heap.{Heap}
use Rattle.wat_heap.specs.Heaps.{IsHeld}
use Rattle.wat_heap.proofs.Counts.{both_ok, bound_same, cell_size, filled_of, less_count, more_count, on_ok, placed_here, same_count, some_page, stands_where, to_limit}
use Rattle.wat_heap.proofs.Doing.{pushed, changed_to, off, freed, onto_new, still_held, taking, unknown}
use Rattle.wat_heap.proofs.Finding.{found, not_found, on_page, reads, reads_none}
use Rattle.wat_heap.proofs.Moving.{chosen_least, chosen_new, chosen_own, has_own, least_mid, needed_not, new_none, none_for, none_mid, none_new, not_own, nothing_gone, same_then_worked, sets_again, then_worked, without}
use Rattle.wat_heap.proofs.Rooming.{least_is, no_room, not_both, one_least, roomy_of}
use Rattle.wat_heap.proofs.Sizes.{left, less_fits, no_push, no_room_set, one_alone, room_set, within}
use Rattle.wat_heap.proofs.Taken.{unknown_page}
use Rattle.wat_heap.proofs.heap.Heap.remove.Goals as goal

some_spot : (a b : Spot) → Some a ≡ Some b → a ≡ b
some_spot a b e = cc

pub returns-in_default-clause-removed : goal.returns-in_default-clause-removed
returns-in_default-clause-removed g c tells owners free defs rows h after sets = nothing_gone c.args.self.now.directory (book_of (g.D.Disk.told c.args.disk.now) c.args.pages.now) owners free defs rows after h c.args.table c.args.key.now (not_found c.args.self.now.directory (book_of (g.D.Disk.told c.args.disk.now) c.args.pages.now) owners free defs rows h c.args.table c.args.key.now (sym c.in_default.ensures)) sets

pub returns-in_default-clause-freed : goal.returns-in_default-clause-freed
returns-in_default-clause-freed g c tells owners free defs rows h spot there one = absurd (let no : None ≡ Some spot = c.in_default.ensures ∙ there in cc)

pub returns-in_default-clause-stay : goal.returns-in_default-clause-stay
returns-in_default-clause-stay g c tells owners free defs rows h spot there one = absurd (let no : None ≡ Some spot = c.in_default.ensures ∙ there in cc)

pub returns-in_default-clause-goes : goal.returns-in_default-clause-goes
returns-in_default-clause-goes g c tells = goes_nowhere (g.D.Disk.told c.args.disk.now) c.args.pages.now

pub returns-in_default-clause-keeps : goal.returns-in_default-clause-keeps
returns-in_default-clause-keeps g c tells = keeps_still (g.D.Disk.told c.args.disk.now) c.args.pages.now (c.requires.known tells)

pub returns-then-is_alone-clause-removed : goal.returns-then-is_alone-clause-removed
returns-then-is_alone-clause-removed g c tells owners free defs rows h after sets = c.free.ensures.taken tells owners free defs rows h after (sym c.in-Some.ensures) (c.is_alone.ensures.0 c.if-is_alone.true) sets

pub returns-then-is_alone-clause-freed : goal.returns-then-is_alone-clause-freed
returns-then-is_alone-clause-freed g c tells owners free defs rows h spot there one =
    let same : c.in-Some.spot ≡ spot = some_spot c.in-Some.spot spot (c.in-Some.ensures ∙ there) in
    let f = found c.args.self.now.directory (book_of (g.D.Disk.told c.args.disk.now) c.args.pages.now) owners free defs rows h c.args.table c.args.key.now c.in-Some.spot (sym c.in-Some.ensures) in
    subst (λ (s : Spot). OnOk c.free.result ((row_pages c.free.new.self.directory + 1 ≡ row_pages c.args.self.now.directory) × (page_at c.free.new.self.directory s.page ≡ None))) same
    (both_ok c.free.result (row_pages c.free.new.self.directory + 1 ≡ row_pages c.args.self.now.directory) (page_at c.free.new.self.directory c.in-Some.spot.page ≡ None) (c.free.ensures.pages (some_page c.args.self.now.directory c.in-Some.spot.page f.entry f.is)) c.free.ensures.unknown)

pub returns-then-is_alone-clause-stay : goal.returns-then-is_alone-clause-stay
returns-then-is_alone-clause-stay g c tells owners free defs rows h spot there not =
    let same : c.in-Some.spot ≡ spot = some_spot c.in-Some.spot spot (c.in-Some.ensures ∙ there) in
    absurd (not (subst (λ (s : Spot). length (names_in (page_at c.args.self.now.directory s.page)) ≡ 1) same (c.is_alone.ensures.0 c.if-is_alone.true)))

pub returns-then-is_alone-clause-unchanged : goal.returns-then-is_alone-clause-unchanged
returns-then-is_alone-clause-unchanged g c none = absurd (let no : None ≡ Some c.in-Some.spot = sym none ∙ sym c.in-Some.ensures in cc)

pub returns-then-is_alone-clause-undamaged : goal.returns-then-is_alone-clause-undamaged
returns-then-is_alone-clause-undamaged g c tells saved safe count owners free defs rows h = c.free.ensures.undamaged tells saved safe count owners free defs rows h (sym c.in-Some.ensures)

pub returns-clause-removed : goal.returns-clause-removed
returns-clause-removed g c tells owners free defs rows h after sets = c.take_off.ensures.taken tells owners free defs rows h after (sym c.in-Some.ensures) sets

pub returns-clause-freed : goal.returns-clause-freed
returns-clause-freed g c tells owners free defs rows h spot there one =
    let same : c.in-Some.spot ≡ spot = some_spot c.in-Some.spot spot (c.in-Some.ensures ∙ there) in
    let alone : c.is_alone.result ≡ true = c.is_alone.ensures.1 (subst (λ (s : Spot). length (names_in (page_at c.args.self.now.directory s.page)) ≡ 1) (sym same) one) in
    absurd (let no : true ≡ false = sym alone ∙ c.if-is_alone.false in cc)

pub returns-clause-stay : goal.returns-clause-stay
returns-clause-stay g c tells owners free defs rows h spot there not = c.take_off.ensures.pages tells owners free defs rows h (sym c.in-Some.ensures)

pub returns-clause-unchanged : goal.returns-clause-unchanged
returns-clause-unchanged g c none = absurd (let no : None ≡ Some c.in-Some.spot = sym none ∙ sym c.in-Some.ensures in cc)

pub returns-clause-undamaged : goal.returns-clause-undamaged
returns-clause-undamaged g c tells saved safe count owners free defs rows h = c.take_off.ensures.undamaged tells saved safe count owners free defs rows h (sym c.in-Some.ensures)
