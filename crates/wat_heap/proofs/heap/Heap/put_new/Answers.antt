use Rattle.std.proofs.Common.{◌≡◌, ◌≢◌, ◌⊎◌, ◌↔◌, inl, inr, ℕ, ◌+◌, ◌*◌, ◌<◌, ◌≤◌, true, false, List, [], ◌∷◌, ◌++◌, length, Option, Some, None, refl, sym, ap, ap₂, subst, ◌∙◌, arith}
use Rattle.std.specs.Prelude.{slice_set, remove, OnOk, IfOk, IfErr, MatchOption, IsSome}
use Rattle.std.specs.Option.{option_map}
use Rattle.wat_images.specs.Refusal.{IfDamaged, IfPageLimit}
use Rattle.wat_pages.specs.Pages.{book_of, page_in, count_of, first_free_of}
use Rattle.wat_pages.specs.Within.{bound_of}
use Rattle.wat_slot.specs.Cells.{cells_bytes, IsCellPage}
use Rattle.wat_book.specs.Book.{Section, section, Worked, SameBook}
use Rattle.wat_room.specs.Rooms.{IsLeastWith}
use Rattle.wat_value.specs.Encoding.{row_bytes}
use Rattle.wat_rows.specs.declared.name.RowName.{RowName}
use Rattle.wat_rows.specs.Rows.{Row, RowMap, NamedRow, IsRowOf, Sets, cells_of, cell_of, row_cell, size_of}
use Rattle.wat_rows.specs.Pages.{of_rows}
use Rattle.wat_rows.proofs.Stepping.{no_row}
use Rattle.wat_directory.specs.declared.row_page.RowPage.{RowPage}
use Rattle.wat_directory.specs.declared.directory.Directory.{Directory}
use Rattle.wat_directory.specs.declared.directory.Spot.{Spot}
use Rattle.wat_directory.specs.Known.{HasOwnRoom, Holds, IsChosen, IsLeastRoom, IsRoomy, LessUsed, NoRoom, room_at, NoRoomFor, entry_of, names_in, own_size, page_at, place_at, row_pages, spot_at, used_bytes}
use Rattle.wat_cells.specs.Going.{Goes, Keeps}
use Rattle.wat_cells.specs.Wrote.{WroteCells}
use Rattle.wat_cells.proofs.Then.{damaged_to, goes_nowhere, goes_by, goes_then, goes_all, keeps_by, keeps_then, keeps_still, limit_to, some_of, some_to, match_some, match_none}
use Rattle.wat_heap.specs.declared.heap.Heap.{Heap}
use Rattle.wat_heap.specs.Heaps.{IsHeld}
use Rattle.wat_heap.proofs.Counts.{both_ok, bound_same, cell_size, filled_of, less_count, more_count, on_ok, placed_here, same_count, some_page, stands_where, to_limit}
use Rattle.wat_heap.proofs.Doing.{pushed, changed_to, off, freed, onto_new, still_held, taking, unknown}
use Rattle.wat_heap.proofs.Finding.{found, not_found, on_page, reads, reads_none}
use Rattle.wat_heap.proofs.Moving.{chosen_least, chosen_new, chosen_own, has_own, least_mid, needed_not, new_none, none_for, none_mid, none_new, not_own, nothing_gone, same_then_worked, sets_again, then_worked, without}
use Rattle.wat_heap.proofs.Rooming.{least_is, no_room, not_both, one_least, roomy_of}
use Rattle.wat_heap.proofs.Sizes.{left, less_fits, no_push, no_room_set, one_alone, room_set, within}
use Rattle.wat_heap.proofs.Taken.{unknown_page}
use Rattle.wat_heap.proofs.heap.Heap.put_new.Goals as goal

pub returns-in-Some-clause-put : goal.returns-in-Some-clause-put
returns-in-Some-clause-put g c tells owners free defs rows h after row fits cell_is nowhere sets =
    let least = least_is c.args.self.now.directory h.holds.on h.holds.place h.holds.knows (size_of c.args.cell) c.in-Some.page (omega (arith, c.size_of.ensures)) (subst (λ n. IsLeastWith c.args.self.now.directory.rooms n c.in-Some.page) c.size_of.ensures (c.in-Some.ensures.some h.holds.knows.are)) in
    let roomy = roomy_of c.args.self.now.directory (size_of c.args.cell) c.in-Some.page least in
    c.put_into.ensures.put tells owners free defs rows h after row fits cell_is roomy nowhere sets

pub returns-in-Some-clause-least : goal.returns-in-Some-clause-least
returns-in-Some-clause-least g c tells owners free defs rows h page is =
    let least = least_is c.args.self.now.directory h.holds.on h.holds.place h.holds.knows (size_of c.args.cell) c.in-Some.page (omega (arith, c.size_of.ensures)) (subst (λ n. IsLeastWith c.args.self.now.directory.rooms n c.in-Some.page) c.size_of.ensures (c.in-Some.ensures.some h.holds.knows.are)) in
    on_ok c.put_into.result (place_at c.put_into.new.self.directory c.args.name.table c.args.name.key ≡ Some c.in-Some.page) (place_at c.put_into.new.self.directory c.args.name.table c.args.name.key ≡ Some page)
    (λ e. e ∙ ap Some (one_least c.args.self.now.directory (size_of c.args.cell) c.in-Some.page page least is)) c.put_into.ensures.placed

pub returns-in-Some-clause-taken : goal.returns-in-Some-clause-taken
returns-in-Some-clause-taken g c tells owners free defs rows h =
    let least = least_is c.args.self.now.directory h.holds.on h.holds.place h.holds.knows (size_of c.args.cell) c.in-Some.page (omega (arith, c.size_of.ensures)) (subst (λ n. IsLeastWith c.args.self.now.directory.rooms n c.in-Some.page) c.size_of.ensures (c.in-Some.ensures.some h.holds.knows.are)) in
    on_ok c.put_into.result (row_pages c.put_into.new.self.directory ≡ row_pages c.args.self.now.directory) ((row_pages c.put_into.new.self.directory ≡ row_pages c.args.self.now.directory) ⊎ (NoRoom c.args.self.now.directory (size_of c.args.cell) × (row_pages c.put_into.new.self.directory ≡ row_pages c.args.self.now.directory + 1)))
    (λ e. inl e) (c.put_into.ensures.pages (some_page c.args.self.now.directory c.in-Some.page least.entry least.is))

pub returns-in-Some-clause-needed : goal.returns-in-Some-clause-needed
returns-in-Some-clause-needed g c tells owners free defs rows h none =
    let least = least_is c.args.self.now.directory h.holds.on h.holds.place h.holds.knows (size_of c.args.cell) c.in-Some.page (omega (arith, c.size_of.ensures)) (subst (λ n. IsLeastWith c.args.self.now.directory.rooms n c.in-Some.page) c.size_of.ensures (c.in-Some.ensures.some h.holds.knows.are)) in
    absurd (not_both c.args.self.now.directory (size_of c.args.cell) c.in-Some.page none least)

pub returns-in-Some-clause-crowded : goal.returns-in-Some-clause-crowded
returns-in-Some-clause-crowded g c tells owners free defs rows h = to_limit c.put_into.result (λ count limit. ⊥) (λ count limit. NoRoom c.args.self.now.directory (size_of c.args.cell)) (λ count limit no. absurd no) c.put_into.ensures.limited

pub returns-in-Some-clause-limited : goal.returns-in-Some-clause-limited
returns-in-Some-clause-limited g c =
    to_limit c.put_into.result (λ count limit. ⊥) (λ count limit. (first_free_of c.args.pages.now ≡ 0) × (count ≡ count_of c.args.pages.now) × (limit ≡ bound_of c.args.within c.args.pages.now) × (limit ≤ count)) (λ count limit no. absurd no) c.put_into.ensures.limited

pub returns-in-Some-clause-undamaged : goal.returns-in-Some-clause-undamaged
returns-in-Some-clause-undamaged g c tells saved safe count owners free defs rows h =
    let least = least_is c.args.self.now.directory h.holds.on h.holds.place h.holds.knows (size_of c.args.cell) c.in-Some.page (omega (arith, c.size_of.ensures)) (subst (λ n. IsLeastWith c.args.self.now.directory.rooms n c.in-Some.page) c.size_of.ensures (c.in-Some.ensures.some h.holds.knows.are)) in
    let roomy = roomy_of c.args.self.now.directory (size_of c.args.cell) c.in-Some.page least in
    c.put_into.ensures.undamaged tells saved safe count owners free defs rows h roomy

pub returns-in-None-clause-put : goal.returns-in-None-clause-put
returns-in-None-clause-put g c tells owners free defs rows h after row fits cell_is nowhere sets = c.put_on_new.ensures.put tells owners free defs rows h after row fits cell_is nowhere sets

pub returns-in-None-clause-least : goal.returns-in-None-clause-least
returns-in-None-clause-least g c tells owners free defs rows h page is =
    let none = no_room c.args.self.now.directory h.holds.on h.holds.place h.holds.knows (size_of c.args.cell) (subst (λ n. (page : ℕ) → room_at c.args.self.now.directory page < n) c.size_of.ensures (c.in-None.ensures.none h.holds.knows.are)) in
    absurd (not_both c.args.self.now.directory (size_of c.args.cell) page none is)

pub returns-in-None-clause-taken : goal.returns-in-None-clause-taken
returns-in-None-clause-taken g c tells owners free defs rows h =
    let none = no_room c.args.self.now.directory h.holds.on h.holds.place h.holds.knows (size_of c.args.cell) (subst (λ n. (page : ℕ) → room_at c.args.self.now.directory page < n) c.size_of.ensures (c.in-None.ensures.none h.holds.knows.are)) in
    on_ok c.put_on_new.result (row_pages c.put_on_new.new.self.directory ≡ row_pages c.args.self.now.directory + 1) ((row_pages c.put_on_new.new.self.directory ≡ row_pages c.args.self.now.directory) ⊎ (NoRoom c.args.self.now.directory (size_of c.args.cell) × (row_pages c.put_on_new.new.self.directory ≡ row_pages c.args.self.now.directory + 1)))
    (λ e. inr (none, e)) (c.put_on_new.ensures.pages tells owners free defs rows h)

pub returns-in-None-clause-crowded : goal.returns-in-None-clause-crowded
returns-in-None-clause-crowded g c tells owners free defs rows h =
    let none = no_room c.args.self.now.directory h.holds.on h.holds.place h.holds.knows (size_of c.args.cell) (subst (λ n. (page : ℕ) → room_at c.args.self.now.directory page < n) c.size_of.ensures (c.in-None.ensures.none h.holds.knows.are)) in
    to_limit c.put_on_new.result (λ count limit. (first_free_of c.args.pages.now ≡ 0) × (count ≡ count_of c.args.pages.now) × (limit ≡ bound_of c.args.within c.args.pages.now) × (limit ≤ count)) (λ count limit. NoRoom c.args.self.now.directory (size_of c.args.cell)) (λ count limit is. none) c.put_on_new.ensures.limited

pub returns-in-None-clause-needed : goal.returns-in-None-clause-needed
returns-in-None-clause-needed g c tells owners free defs rows h none = c.put_on_new.ensures.pages tells owners free defs rows h
