use Rattle.std.proofs.Common.{◌≡◌, ◌≢◌, ◌⊎◌, ◌↔◌, inl, inr, ℕ, ◌+◌, ◌*◌, ◌<◌, ◌≤◌, true, false, List, [], ◌∷◌, ◌++◌, length, Option, Some, None, refl, sym, ap, ap₂, subst, ◌∙◌, arith}
use Rattle.std.specs.Prelude.{slice_set, remove, OnOk, IfOk, IfErr, MatchOption, IsSome}
use Rattle.std.specs.Option.{option_map}
use Rattle.wat_images.specs.Refusal.{IfDamaged, IfPageLimit}
use Rattle.wat_pages.specs.Pages.{book_of, page_in, count_of, first_free_of}
use Rattle.wat_pages.specs.Within.{bound_of}
use Rattle.wat_slot.specs.Cells.{cells_bytes, IsCellPage}
use Rattle.wat_book.specs.Book.{Section, section, Worked, SameBook}
use Rattle.wat_room.specs.Rooms.{IsLeastWith}
use Rattle.wat_value.specs.Encoding.{row_bytes}
use Rattle.wat_rows.specs.declared.name.RowName.{RowName}
use Rattle.wat_rows.specs.Rows.{Row, RowMap, NamedRow, IsRowOf, Sets, cells_of, cell_of, row_cell, size_of}
use Rattle.wat_rows.specs.Pages.{of_rows}
use Rattle.wat_rows.proofs.Stepping.{no_row}
use Rattle.wat_directory.specs.declared.row_page.RowPage.{RowPage}
use Rattle.wat_directory.specs.declared.directory.Directory.{Directory}
use Rattle.wat_directory.specs.declared.directory.Spot.{Spot}
use Rattle.wat_directory.specs.Known.{HasOwnRoom, Holds, IsChosen, IsLeastRoom, IsRoomy, LessUsed, NoRoom, NoRoomFor, entry_of, names_in, own_size, page_at, place_at, row_pages, spot_at, used_bytes}
use Rattle.wat_cells.specs.Going.{Goes, Keeps}
use Rattle.wat_cells.specs.Wrote.{WroteCells}
use Rattle.wat_cells.proofs.Then.{damaged_to, goes_nowhere, goes_by, goes_then, goes_all, keeps_by, keeps_then, keeps_still, limit_to, some_of, some_to, match_some, match_none}
use Rattle.wat_heap.specs.declared.heap.Heap.{Heap}
use Rattle.wat_heap.specs.Heaps.{IsHeld}
use Rattle.wat_heap.proofs.Counts.{both_ok, bound_same, cell_size, filled_of, less_count, more_count, on_ok, placed_here, same_count, some_page, stands_where, to_limit}
use Rattle.wat_heap.proofs.Doing.{pushed, changed_to, off, freed, onto_new, still_held, taking, unknown}
use Rattle.wat_heap.proofs.Finding.{found, not_found, on_page, reads, reads_none}
use Rattle.wat_heap.proofs.Moving.{chosen_least, chosen_new, chosen_own, has_own, least_mid, needed_not, new_none, none_for, none_mid, none_new, not_own, nothing_gone, same_then_worked, sets_again, then_worked, without}
use Rattle.wat_heap.proofs.Rooming.{least_is, no_room, not_both, one_least, roomy_of}
use Rattle.wat_heap.proofs.Sizes.{left, less_fits, no_push, no_room_set, one_alone, room_set, within}
use Rattle.wat_heap.proofs.Taken.{unknown_page}
use Rattle.wat_heap.proofs.heap.Heap.put_cell.Goals as goal

pub returns-in_default-clause-put : goal.returns-in_default-clause-put
returns-in_default-clause-put g c tells owners free defs rows h after row fits cell_is sets =
    let nowhere : place_at c.args.self.now.directory c.args.name.table c.args.name.key ≡ None = h.holds.knows.places c.args.name.table c.args.name.key ∙ not_found c.args.self.now.directory (book_of (g.D.Disk.told c.args.disk.now) c.args.pages.now) owners free defs rows h c.args.name.table c.args.name.key (sym c.in_default.ensures) in
    c.put_new.ensures.put tells owners free defs rows h after row fits cell_is nowhere sets

pub returns-in_default-clause-taken : goal.returns-in_default-clause-taken
returns-in_default-clause-taken g c tells owners free defs rows h =
    let nowhere : place_at c.args.self.now.directory c.args.name.table c.args.name.key ≡ None = h.holds.knows.places c.args.name.table c.args.name.key ∙ not_found c.args.self.now.directory (book_of (g.D.Disk.told c.args.disk.now) c.args.pages.now) owners free defs rows h c.args.name.table c.args.name.key (sym c.in_default.ensures) in
    on_ok c.put_new.result ((row_pages c.put_new.new.self.directory ≡ row_pages c.args.self.now.directory) ⊎ (NoRoom c.args.self.now.directory (size_of c.args.cell) × (row_pages c.put_new.new.self.directory ≡ row_pages c.args.self.now.directory + 1)))
    ((row_pages c.put_new.new.self.directory ≡ row_pages c.args.self.now.directory) ⊎ (NoRoomFor c.args.self.now.directory rows c.args.name.table c.args.name.key (size_of c.args.cell) × (row_pages c.put_new.new.self.directory ≡ row_pages c.args.self.now.directory + 1)))
    (λ e. elim e [ inl same ↦ inl same | inr both ↦ inr (none_new c.args.self.now.directory rows c.args.name.table c.args.name.key (size_of c.args.cell) nowhere both.0, both.1) ])
    (c.put_new.ensures.taken tells owners free defs rows h)

pub returns-in_default-clause-needed : goal.returns-in_default-clause-needed
returns-in_default-clause-needed g c tells owners free defs rows h none =
    let nowhere : place_at c.args.self.now.directory c.args.name.table c.args.name.key ≡ None = h.holds.knows.places c.args.name.table c.args.name.key ∙ not_found c.args.self.now.directory (book_of (g.D.Disk.told c.args.disk.now) c.args.pages.now) owners free defs rows h c.args.name.table c.args.name.key (sym c.in_default.ensures) in
    c.put_new.ensures.needed tells owners free defs rows h (new_none c.args.self.now.directory rows c.args.name.table c.args.name.key (size_of c.args.cell) nowhere none)

pub returns-in_default-clause-least : goal.returns-in_default-clause-least
returns-in_default-clause-least g c tells owners free defs rows h page is =
    let nowhere : place_at c.args.self.now.directory c.args.name.table c.args.name.key ≡ None = h.holds.knows.places c.args.name.table c.args.name.key ∙ not_found c.args.self.now.directory (book_of (g.D.Disk.told c.args.disk.now) c.args.pages.now) owners free defs rows h c.args.name.table c.args.name.key (sym c.in_default.ensures) in
    c.put_new.ensures.least tells owners free defs rows h page (chosen_new c.args.self.now.directory rows c.args.name.table c.args.name.key (size_of c.args.cell) page nowhere is)

pub returns-in_default-clause-crowded : goal.returns-in_default-clause-crowded
returns-in_default-clause-crowded g c tells owners free defs rows h =
    let nowhere : place_at c.args.self.now.directory c.args.name.table c.args.name.key ≡ None = h.holds.knows.places c.args.name.table c.args.name.key ∙ not_found c.args.self.now.directory (book_of (g.D.Disk.told c.args.disk.now) c.args.pages.now) owners free defs rows h c.args.name.table c.args.name.key (sym c.in_default.ensures) in
    to_limit c.put_new.result (λ count limit. NoRoom c.args.self.now.directory (size_of c.args.cell)) (λ count limit. NoRoomFor c.args.self.now.directory rows c.args.name.table c.args.name.key (size_of c.args.cell)) (λ count limit none. none_new c.args.self.now.directory rows c.args.name.table c.args.name.key (size_of c.args.cell) nowhere none) (c.put_new.ensures.crowded tells owners free defs rows h)

pub returns-in-Err-clause-goes : goal.returns-in-Err-clause-goes
returns-in-Err-clause-goes g c tells = goes_nowhere (g.D.Disk.told c.args.disk.now) c.args.pages.now

pub returns-in-Ok-true-clause-put : goal.returns-in-Ok-true-clause-put
returns-in-Ok-true-clause-put g c tells owners free defs rows h after row fits cell_is sets =
    let there = sym c.in-Some.ensures in
    c.in-Ok-true.ensures.put tells owners free defs rows h c.args.name after row fits (c.in-Ok.ensures ∙ cell_is) there sets c.in-Ok-true.field-0-test

pub returns-in-Ok-true-clause-taken : goal.returns-in-Ok-true-clause-taken
returns-in-Ok-true-clause-taken g c tells owners free defs rows h =
    let there = sym c.in-Some.ensures in
    inl (c.in-Ok-true.ensures.pages tells owners free defs rows h c.args.name.table c.args.name.key there)

pub returns-in-Ok-true-clause-needed : goal.returns-in-Ok-true-clause-needed
returns-in-Ok-true-clause-needed g c tells owners free defs rows h none =
    let there = sym c.in-Some.ensures in
    let f = found c.args.self.now.directory (book_of (g.D.Disk.told c.args.disk.now) c.args.pages.now) owners free defs rows h c.args.name.table c.args.name.key c.in-Some.spot there in
    let before = f.split.at.row in
    let own = size_of (row_cell c.args.name.table before) in
    let place = h.holds.knows.places c.args.name.table c.args.name.key ∙ f.there in
    let own_is = ap (own_size c.args.name.table) f.row in
    let room = subst (λ l. (c.in-Ok-true.field-0 ≡ true) ↔ ((entry : RowPage) → page_at c.args.self.now.directory c.in-Some.spot.page ≡ Some entry → entry.used + size_of l ≤ 4080 + own)) c.in-Ok.ensures (c.in-Ok-true.ensures.room tells owners free defs rows h c.args.name.table c.args.name.key before there f.row) in
    let has = has_own c.args.self.now.directory rows c.args.name.table c.args.name.key c.in-Some.spot.page own (size_of c.args.cell) place own_is c.in-Ok-true.field-0 room c.in-Ok-true.field-0-test in
    absurd (needed_not c.args.self.now.directory rows c.args.name.table c.args.name.key c.in-Some.spot.page own (size_of c.args.cell) place own_is f.entry f.is has none)

pub returns-in-Ok-true-clause-least : goal.returns-in-Ok-true-clause-least
returns-in-Ok-true-clause-least g c tells owners free defs rows h page is =
    let there = sym c.in-Some.ensures in
    let f = found c.args.self.now.directory (book_of (g.D.Disk.told c.args.disk.now) c.args.pages.now) owners free defs rows h c.args.name.table c.args.name.key c.in-Some.spot there in
    let before = f.split.at.row in
    let own = size_of (row_cell c.args.name.table before) in
    let place = h.holds.knows.places c.args.name.table c.args.name.key ∙ f.there in
    let own_is = ap (own_size c.args.name.table) f.row in
    let room = subst (λ l. (c.in-Ok-true.field-0 ≡ true) ↔ ((entry : RowPage) → page_at c.args.self.now.directory c.in-Some.spot.page ≡ Some entry → entry.used + size_of l ≤ 4080 + own)) c.in-Ok.ensures (c.in-Ok-true.ensures.room tells owners free defs rows h c.args.name.table c.args.name.key before there f.row) in
    let has = has_own c.args.self.now.directory rows c.args.name.table c.args.name.key c.in-Some.spot.page own (size_of c.args.cell) place own_is c.in-Ok-true.field-0 room c.in-Ok-true.field-0-test in
    c.in-Ok-true.ensures.places c.args.name.table c.args.name.key ∙ place ∙ ap Some (sym (chosen_own c.args.self.now.directory rows c.args.name.table c.args.name.key c.in-Some.spot.page own (size_of c.args.cell) place own_is page has is))

pub returns-in-Err-replace-clause-undamaged : goal.returns-in-Err-replace-clause-undamaged
returns-in-Err-replace-clause-undamaged g c tells saved safe count owners free defs rows h =
    let there = sym c.in-Some.ensures in
    c.in-Err-replace.ensures.undamaged tells saved safe count owners free defs rows h c.args.name.table c.args.name.key there

pub returns-in-Err-replace-clause-crowded : goal.returns-in-Err-replace-clause-crowded
returns-in-Err-replace-clause-crowded g c tells owners free defs rows h = limit_to c.in-Err-replace.refusal (λ count limit. ⊥) (λ count limit. NoRoomFor c.args.self.now.directory rows c.args.name.table c.args.name.key (size_of c.args.cell)) (λ count limit no. absurd no) c.in-Err-replace.ensures.limited

pub returns-in-Err-replace-clause-limited : goal.returns-in-Err-replace-clause-limited
returns-in-Err-replace-clause-limited g c =
    limit_to c.in-Err-replace.refusal (λ count limit. ⊥) (λ count limit. (first_free_of c.args.pages.now ≡ 0) × (count ≡ count_of c.args.pages.now) × (limit ≡ bound_of c.args.within c.args.pages.now) × (limit ≤ count)) (λ count limit no. absurd no) c.in-Err-replace.ensures.limited

pub returns-clause-put : goal.returns-clause-put
returns-clause-put g c tells owners free defs rows h after row fits cell_is sets =
    let there = sym c.in-Some.ensures in
    let kept = c.in-Ok-false.ensures.kept c.in-Ok-false.field-0-test in
    let same = c.in-Ok-false.ensures.same tells c.in-Ok-false.field-0-test in
    let mid = book_of (g.D.Disk.told c.replace.new.disk) c.replace.new.pages in
    let held : IsHeld c.replace.new.self.directory mid owners free defs rows = subst (λ (s : Heap). IsHeld s.directory mid owners free defs rows) (sym kept) (still_held c.args.self.now.directory (book_of (g.D.Disk.told c.args.disk.now) c.args.pages.now) mid owners free defs rows h same) in
    let there_now : spot_at c.replace.new.self.directory c.args.name.table c.args.name.key ≡ Some c.in-Some.spot = subst (λ (s : Heap). spot_at s.directory c.args.name.table c.args.name.key ≡ Some c.in-Some.spot) (sym kept) there in
    let new = book_of (g.D.Disk.told c.place_anew.new.disk) c.place_anew.new.pages in
    on_ok c.place_anew.result (Worked of_rows mid owners new (λ mine. Holds c.place_anew.new.self.directory mine defs after)) (Worked of_rows (book_of (g.D.Disk.told c.args.disk.now) c.args.pages.now) owners new (λ mine. Holds c.place_anew.new.self.directory mine defs after))
    (same_then_worked (book_of (g.D.Disk.told c.args.disk.now) c.args.pages.now) mid new owners (λ mine. Holds c.place_anew.new.self.directory mine defs after) same)
    (c.place_anew.ensures.put tells owners free defs rows held after row fits cell_is there_now sets)

pub returns-clause-taken : goal.returns-clause-taken
returns-clause-taken g c tells owners free defs rows h =
    let there = sym c.in-Some.ensures in
    let kept = c.in-Ok-false.ensures.kept c.in-Ok-false.field-0-test in
    let same = c.in-Ok-false.ensures.same tells c.in-Ok-false.field-0-test in
    let mid = book_of (g.D.Disk.told c.replace.new.disk) c.replace.new.pages in
    let held : IsHeld c.replace.new.self.directory mid owners free defs rows = subst (λ (s : Heap). IsHeld s.directory mid owners free defs rows) (sym kept) (still_held c.args.self.now.directory (book_of (g.D.Disk.told c.args.disk.now) c.args.pages.now) mid owners free defs rows h same) in
    let there_now : spot_at c.replace.new.self.directory c.args.name.table c.args.name.key ≡ Some c.in-Some.spot = subst (λ (s : Heap). spot_at s.directory c.args.name.table c.args.name.key ≡ Some c.in-Some.spot) (sym kept) there in
    subst (λ (s : Heap). OnOk c.place_anew.result ((row_pages c.place_anew.new.self.directory ≡ row_pages s.directory) ⊎ (NoRoomFor s.directory rows c.args.name.table c.args.name.key (size_of c.args.cell) × (row_pages c.place_anew.new.self.directory ≡ row_pages s.directory + 1)))) kept
    (c.place_anew.ensures.taken tells owners free defs rows held there_now)

pub returns-clause-needed : goal.returns-clause-needed
returns-clause-needed g c tells owners free defs rows h none =
    let there = sym c.in-Some.ensures in
    let kept = c.in-Ok-false.ensures.kept c.in-Ok-false.field-0-test in
    let same = c.in-Ok-false.ensures.same tells c.in-Ok-false.field-0-test in
    let mid = book_of (g.D.Disk.told c.replace.new.disk) c.replace.new.pages in
    let held : IsHeld c.replace.new.self.directory mid owners free defs rows = subst (λ (s : Heap). IsHeld s.directory mid owners free defs rows) (sym kept) (still_held c.args.self.now.directory (book_of (g.D.Disk.told c.args.disk.now) c.args.pages.now) mid owners free defs rows h same) in
    let there_now : spot_at c.replace.new.self.directory c.args.name.table c.args.name.key ≡ Some c.in-Some.spot = subst (λ (s : Heap). spot_at s.directory c.args.name.table c.args.name.key ≡ Some c.in-Some.spot) (sym kept) there in
    subst (λ (s : Heap). OnOk c.place_anew.result (row_pages c.place_anew.new.self.directory ≡ row_pages s.directory + 1)) kept
    (c.place_anew.ensures.needed tells owners free defs rows held there_now (subst (λ (s : Heap). NoRoomFor s.directory rows c.args.name.table c.args.name.key (size_of c.args.cell)) (sym kept) none))

pub returns-clause-least : goal.returns-clause-least
returns-clause-least g c tells owners free defs rows h page is =
    let there = sym c.in-Some.ensures in
    let kept = c.in-Ok-false.ensures.kept c.in-Ok-false.field-0-test in
    let same = c.in-Ok-false.ensures.same tells c.in-Ok-false.field-0-test in
    let mid = book_of (g.D.Disk.told c.replace.new.disk) c.replace.new.pages in
    let held : IsHeld c.replace.new.self.directory mid owners free defs rows = subst (λ (s : Heap). IsHeld s.directory mid owners free defs rows) (sym kept) (still_held c.args.self.now.directory (book_of (g.D.Disk.told c.args.disk.now) c.args.pages.now) mid owners free defs rows h same) in
    let there_now : spot_at c.replace.new.self.directory c.args.name.table c.args.name.key ≡ Some c.in-Some.spot = subst (λ (s : Heap). spot_at s.directory c.args.name.table c.args.name.key ≡ Some c.in-Some.spot) (sym kept) there in
    let f = found c.args.self.now.directory (book_of (g.D.Disk.told c.args.disk.now) c.args.pages.now) owners free defs rows h c.args.name.table c.args.name.key c.in-Some.spot there in
    let before = f.split.at.row in
    let own = size_of (row_cell c.args.name.table before) in
    let place = h.holds.knows.places c.args.name.table c.args.name.key ∙ f.there in
    let own_is = ap (own_size c.args.name.table) f.row in
    let room = subst (λ l. (c.in-Ok-false.field-0 ≡ true) ↔ ((entry : RowPage) → page_at c.args.self.now.directory c.in-Some.spot.page ≡ Some entry → entry.used + size_of l ≤ 4080 + own)) c.in-Ok.ensures (c.in-Ok-false.ensures.room tells owners free defs rows h c.args.name.table c.args.name.key before there f.row) in
    let not = not_own c.args.self.now.directory rows c.args.name.table c.args.name.key c.in-Some.spot.page own (size_of c.args.cell) place own_is c.in-Ok-false.field-0 room c.in-Ok-false.field-0-test in
    c.place_anew.ensures.least tells owners free defs rows held there_now (subst (λ (s : Heap). HasOwnRoom s.directory rows c.args.name.table c.args.name.key (size_of c.args.cell) c.in-Some.spot.page → ⊥) (sym kept) not) page
    (subst (λ (s : Heap). IsLeastRoom s.directory (size_of c.args.cell) page) (sym kept) (chosen_least c.args.self.now.directory rows c.args.name.table c.args.name.key c.in-Some.spot.page own (size_of c.args.cell) place own_is page not is))

pub returns-clause-crowded : goal.returns-clause-crowded
returns-clause-crowded g c tells owners free defs rows h =
    let there = sym c.in-Some.ensures in
    let kept = c.in-Ok-false.ensures.kept c.in-Ok-false.field-0-test in
    let same = c.in-Ok-false.ensures.same tells c.in-Ok-false.field-0-test in
    let mid = book_of (g.D.Disk.told c.replace.new.disk) c.replace.new.pages in
    let held : IsHeld c.replace.new.self.directory mid owners free defs rows = subst (λ (s : Heap). IsHeld s.directory mid owners free defs rows) (sym kept) (still_held c.args.self.now.directory (book_of (g.D.Disk.told c.args.disk.now) c.args.pages.now) mid owners free defs rows h same) in
    let there_now : spot_at c.replace.new.self.directory c.args.name.table c.args.name.key ≡ Some c.in-Some.spot = subst (λ (s : Heap). spot_at s.directory c.args.name.table c.args.name.key ≡ Some c.in-Some.spot) (sym kept) there in
    subst (λ (s : Heap). IfErr c.place_anew.result (λ refusal. IfPageLimit refusal (λ count limit. NoRoomFor s.directory rows c.args.name.table c.args.name.key (size_of c.args.cell)))) kept (c.place_anew.ensures.crowded tells owners free defs rows held there_now)

pub returns-clause-goes : goal.returns-clause-goes
returns-clause-goes g c tells =
    goes_then (g.D.Disk.told c.args.disk.now) (g.D.Disk.told c.replace.new.disk) (g.D.Disk.told c.place_anew.new.disk) c.args.pages.now c.replace.new.pages c.place_anew.new.pages (c.replace.ensures.goes tells) (c.in-Ok-false.ensures.keeps tells) (c.place_anew.ensures.goes tells)

pub returns-clause-keeps : goal.returns-clause-keeps
returns-clause-keeps g c tells =
    on_ok c.place_anew.result (Keeps (g.D.Disk.told c.replace.new.disk) (g.D.Disk.told c.place_anew.new.disk) c.place_anew.new.pages) (Keeps (g.D.Disk.told c.args.disk.now) (g.D.Disk.told c.place_anew.new.disk) c.place_anew.new.pages) (keeps_then (g.D.Disk.told c.args.disk.now) (g.D.Disk.told c.replace.new.disk) (g.D.Disk.told c.place_anew.new.disk) c.replace.new.pages c.place_anew.new.pages (c.in-Ok-false.ensures.keeps tells)) (c.place_anew.ensures.keeps tells)

pub returns-clause-undamaged : goal.returns-clause-undamaged
returns-clause-undamaged g c tells saved safe count owners free defs rows h =
    let there = sym c.in-Some.ensures in
    let kept = c.in-Ok-false.ensures.kept c.in-Ok-false.field-0-test in
    let same = c.in-Ok-false.ensures.same tells c.in-Ok-false.field-0-test in
    let mid = book_of (g.D.Disk.told c.replace.new.disk) c.replace.new.pages in
    let held : IsHeld c.replace.new.self.directory mid owners free defs rows = subst (λ (s : Heap). IsHeld s.directory mid owners free defs rows) (sym kept) (still_held c.args.self.now.directory (book_of (g.D.Disk.told c.args.disk.now) c.args.pages.now) mid owners free defs rows h same) in
    let there_now : spot_at c.replace.new.self.directory c.args.name.table c.args.name.key ≡ Some c.in-Some.spot = subst (λ (s : Heap). spot_at s.directory c.args.name.table c.args.name.key ≡ Some c.in-Some.spot) (sym kept) there in
    c.place_anew.ensures.undamaged tells saved ((c.in-Ok-false.ensures.keeps tells).safe saved safe) (count ∙ sym c.replace.ensures.head.stored) owners free defs rows held there_now

pub returns-clause-limited : goal.returns-clause-limited
returns-clause-limited g c =
    let mid = c.replace.new.pages in
    to_limit c.place_anew.result (λ count limit. (first_free_of mid ≡ 0) × (count ≡ count_of mid) × (limit ≡ bound_of c.args.within mid) × (limit ≤ count)) (λ count limit. (first_free_of c.args.pages.now ≡ 0) × (count ≡ count_of c.args.pages.now) × (limit ≡ bound_of c.args.within c.args.pages.now) × (limit ≤ count))
    (λ count limit is. (sym c.replace.ensures.head.free ∙ is.0, is.1 ∙ c.replace.ensures.head.count, is.2 ∙ bound_same c.args.within c.args.pages.now mid c.replace.ensures.head.limit, is.3)) c.place_anew.ensures.limited
