use Rattle.std.proofs.Common.{◌≡◌, ◌≢◌, ◌⊎◌, ◌↔◌, inl, inr, ℕ, ◌+◌, ◌*◌, ◌<◌, ◌≤◌, true, false, List, [], ◌∷◌, ◌++◌, length, Option, Some, None, refl, sym, ap, ap₂, subst, ◌∙◌, arith}
use Rattle.std.specs.Prelude.{slice_set, remove, OnOk, IfOk, IfErr, MatchOption, IsSome}
use Rattle.std.specs.Option.{option_map}
use Rattle.wat_images.specs.Refusal.{IfDamaged, IfPageLimit}
use Rattle.wat_pages.specs.Pages.{book_of, page_in, count_of, first_free_of}
use Rattle.wat_pages.specs.Within.{bound_of}
use Rattle.wat_slot.specs.Cells.{cells_bytes, IsCellPage}
use Rattle.wat_book.specs.Book.{Section, section, Worked, SameBook}
use Rattle.wat_room.specs.Rooms.{IsLeastWith}
use Rattle.wat_value.specs.Encoding.{row_bytes}
use Rattle.wat_rows.specs.declared.name.RowName.{RowName}
use Rattle.wat_rows.specs.Rows.{Row, RowMap, NamedRow, IsRowOf, Sets, cells_of, cell_of, row_cell, size_of}
use Rattle.wat_rows.specs.Pages.{of_rows}
use Rattle.wat_rows.proofs.Stepping.{no_row}
use Rattle.wat_directory.specs.declared.row_page.RowPage.{RowPage}
use Rattle.wat_directory.specs.declared.directory.Directory.{Directory}
use Rattle.wat_directory.specs.declared.directory.Spot.{Spot}
use Rattle.wat_directory.specs.Known.{HasOwnRoom, Holds, IsChosen, IsLeastRoom, IsRoomy, LessUsed, NoRoom, NoRoomFor, entry_of, names_in, own_size, page_at, place_at, row_pages, spot_at, used_bytes}
use Rattle.wat_cells.specs.Going.{Goes, Keeps}
use Rattle.wat_cells.specs.Wrote.{WroteCells}
use Rattle.wat_cells.proofs.Then.{damaged_to, goes_nowhere, goes_by, goes_then, goes_all, keeps_by, keeps_then, keeps_still, limit_to, some_of, some_to, match_some, match_none}
use Rattle.wat_heap.specs.declared.heap.Heap.{Heap}
use Rattle.wat_heap.specs.Heaps.{IsHeld}
use Rattle.wat_heap.proofs.Counts.{both_ok, bound_same, cell_size, filled_of, less_count, more_count, on_ok, placed_here, same_count, some_page, stands_where, to_limit}
use Rattle.wat_heap.proofs.Doing.{pushed, changed_to, off, freed, onto_new, still_held, taking, unknown}
use Rattle.wat_heap.proofs.Finding.{found, not_found, on_page, reads, reads_none}
use Rattle.wat_heap.proofs.Moving.{chosen_least, chosen_new, chosen_own, has_own, least_mid, needed_not, new_none, none_for, none_mid, none_new, not_own, nothing_gone, same_then_worked, sets_again, then_worked, without}
use Rattle.wat_heap.proofs.Rooming.{least_is, no_room, not_both, one_least, roomy_of}
use Rattle.wat_heap.proofs.Sizes.{left, less_fits, no_push, no_room_set, one_alone, room_set, within}
use Rattle.wat_heap.proofs.Taken.{unknown_page}
use Rattle.wat_heap.proofs.heap.Heap.place_anew.Goals as goal

pub returns-in-Err-clause-undamaged : goal.returns-in-Err-clause-undamaged
returns-in-Err-clause-undamaged g c tells saved safe count owners free defs rows h there = c.in-Err.ensures.undamaged tells saved safe count owners free defs rows h there

pub returns-in-Err-clause-crowded : goal.returns-in-Err-clause-crowded
returns-in-Err-clause-crowded g c tells owners free defs rows h there = limit_to c.in-Err.refusal (λ count limit. ⊥) (λ count limit. NoRoomFor c.args.self.now.directory rows c.args.name.table c.args.name.key (size_of c.args.cell)) (λ count limit no. absurd no) c.in-Err.ensures.limited

pub returns-in-Err-clause-limited : goal.returns-in-Err-clause-limited
returns-in-Err-clause-limited g c =
    limit_to c.in-Err.refusal (λ count limit. ⊥) (λ count limit. (first_free_of c.args.pages.now ≡ 0) × (count ≡ count_of c.args.pages.now) × (limit ≡ bound_of c.args.within c.args.pages.now) × (limit ≤ count)) (λ count limit no. absurd no) c.in-Err.ensures.limited

pub returns-clause-put : goal.returns-clause-put
returns-clause-put g c tells owners free defs rows h after row fits cell_is there sets =
    let old = (book_of (g.D.Disk.told c.args.disk.now) c.args.pages.now) in
    let mid = book_of (g.D.Disk.told c.take_off.new.disk) c.take_off.new.pages in
    let f = found c.args.self.now.directory (book_of (g.D.Disk.told c.args.disk.now) c.args.pages.now) owners free defs rows h c.args.name.table c.args.name.key c.args.spot there in
    let before = f.split.at.row in
    let one = c.in-Ok.ensures.taken tells owners free defs rows h (without rows c.args.name.table c.args.name.key) there (λ t k. refl) in
    let held : IsHeld c.take_off.new.self.directory mid one.next one.free defs (without rows c.args.name.table c.args.name.key) = record { owned = one.owned; holds = one.holds } in
    let pages = c.in-Ok.ensures.pages tells owners free defs rows h there in
    let new = book_of (g.D.Disk.told c.put_new.new.disk) c.put_new.new.pages in
    on_ok c.put_new.result (Worked of_rows mid one.next new (λ mine. Holds c.put_new.new.self.directory mine defs after)) (Worked of_rows old owners new (λ mine. Holds c.put_new.new.self.directory mine defs after))
    (then_worked old mid new owners (λ mine. Holds c.take_off.new.self.directory mine defs (without rows c.args.name.table c.args.name.key)) (λ mine. Holds c.put_new.new.self.directory mine defs after) one)
    (c.put_new.ensures.put tells one.next one.free defs (without rows c.args.name.table c.args.name.key) held after row fits cell_is c.in-Ok.ensures.place (sets_again rows after c.args.name.table c.args.name.key row sets))

pub returns-clause-taken : goal.returns-clause-taken
returns-clause-taken g c tells owners free defs rows h there =
    let old = (book_of (g.D.Disk.told c.args.disk.now) c.args.pages.now) in
    let mid = book_of (g.D.Disk.told c.take_off.new.disk) c.take_off.new.pages in
    let f = found c.args.self.now.directory (book_of (g.D.Disk.told c.args.disk.now) c.args.pages.now) owners free defs rows h c.args.name.table c.args.name.key c.args.spot there in
    let before = f.split.at.row in
    let one = c.in-Ok.ensures.taken tells owners free defs rows h (without rows c.args.name.table c.args.name.key) there (λ t k. refl) in
    let held : IsHeld c.take_off.new.self.directory mid one.next one.free defs (without rows c.args.name.table c.args.name.key) = record { owned = one.owned; holds = one.holds } in
    let pages = c.in-Ok.ensures.pages tells owners free defs rows h there in
    let own = size_of (row_cell c.args.name.table before) in
    let less = c.in-Ok.ensures.left tells owners free defs rows h before there f.row in
    let place = h.holds.knows.places c.args.name.table c.args.name.key ∙ f.there in
    let own_is = ap (own_size c.args.name.table) f.row in
    on_ok c.put_new.result ((row_pages c.put_new.new.self.directory ≡ row_pages c.take_off.new.self.directory) ⊎ (NoRoom c.take_off.new.self.directory (size_of c.args.cell) × (row_pages c.put_new.new.self.directory ≡ row_pages c.take_off.new.self.directory + 1)))
    ((row_pages c.put_new.new.self.directory ≡ row_pages c.args.self.now.directory) ⊎ (NoRoomFor c.args.self.now.directory rows c.args.name.table c.args.name.key (size_of c.args.cell) × (row_pages c.put_new.new.self.directory ≡ row_pages c.args.self.now.directory + 1)))
    (λ e. elim e [ inl same ↦ inl (same ∙ pages) | inr both ↦ inr (none_for c.args.self.now.directory c.take_off.new.self.directory rows c.args.name.table c.args.name.key c.args.spot.page own (size_of c.args.cell) less place own_is both.0, both.1 ∙ ap (λ n. n + 1) pages) ])
    (c.put_new.ensures.taken tells one.next one.free defs (without rows c.args.name.table c.args.name.key) held)

pub returns-clause-needed : goal.returns-clause-needed
returns-clause-needed g c tells owners free defs rows h there none =
    let old = (book_of (g.D.Disk.told c.args.disk.now) c.args.pages.now) in
    let mid = book_of (g.D.Disk.told c.take_off.new.disk) c.take_off.new.pages in
    let f = found c.args.self.now.directory (book_of (g.D.Disk.told c.args.disk.now) c.args.pages.now) owners free defs rows h c.args.name.table c.args.name.key c.args.spot there in
    let before = f.split.at.row in
    let one = c.in-Ok.ensures.taken tells owners free defs rows h (without rows c.args.name.table c.args.name.key) there (λ t k. refl) in
    let held : IsHeld c.take_off.new.self.directory mid one.next one.free defs (without rows c.args.name.table c.args.name.key) = record { owned = one.owned; holds = one.holds } in
    let pages = c.in-Ok.ensures.pages tells owners free defs rows h there in
    let own = size_of (row_cell c.args.name.table before) in
    let less = c.in-Ok.ensures.left tells owners free defs rows h before there f.row in
    let place = h.holds.knows.places c.args.name.table c.args.name.key ∙ f.there in
    let own_is = ap (own_size c.args.name.table) f.row in
    on_ok c.put_new.result (row_pages c.put_new.new.self.directory ≡ row_pages c.take_off.new.self.directory + 1) (row_pages c.put_new.new.self.directory ≡ row_pages c.args.self.now.directory + 1) (λ e. e ∙ ap (λ n. n + 1) pages)
    (c.put_new.ensures.needed tells one.next one.free defs (without rows c.args.name.table c.args.name.key) held (none_mid c.args.self.now.directory c.take_off.new.self.directory rows c.args.name.table c.args.name.key c.args.spot.page own (size_of c.args.cell) less place own_is none))

pub returns-clause-least : goal.returns-clause-least
returns-clause-least g c tells owners free defs rows h there none page is =
    let old = (book_of (g.D.Disk.told c.args.disk.now) c.args.pages.now) in
    let mid = book_of (g.D.Disk.told c.take_off.new.disk) c.take_off.new.pages in
    let f = found c.args.self.now.directory (book_of (g.D.Disk.told c.args.disk.now) c.args.pages.now) owners free defs rows h c.args.name.table c.args.name.key c.args.spot there in
    let before = f.split.at.row in
    let one = c.in-Ok.ensures.taken tells owners free defs rows h (without rows c.args.name.table c.args.name.key) there (λ t k. refl) in
    let held : IsHeld c.take_off.new.self.directory mid one.next one.free defs (without rows c.args.name.table c.args.name.key) = record { owned = one.owned; holds = one.holds } in
    let pages = c.in-Ok.ensures.pages tells owners free defs rows h there in
    let own = size_of (row_cell c.args.name.table before) in
    let less = c.in-Ok.ensures.left tells owners free defs rows h before there f.row in
    let place = h.holds.knows.places c.args.name.table c.args.name.key ∙ f.there in
    let own_is = ap (own_size c.args.name.table) f.row in
    c.put_new.ensures.least tells one.next one.free defs (without rows c.args.name.table c.args.name.key) held page (least_mid c.args.self.now.directory c.take_off.new.self.directory rows c.args.name.table c.args.name.key c.args.spot.page own (size_of c.args.cell) less place own_is page none is)

pub returns-clause-crowded : goal.returns-clause-crowded
returns-clause-crowded g c tells owners free defs rows h there =
    let old = (book_of (g.D.Disk.told c.args.disk.now) c.args.pages.now) in
    let mid = book_of (g.D.Disk.told c.take_off.new.disk) c.take_off.new.pages in
    let f = found c.args.self.now.directory (book_of (g.D.Disk.told c.args.disk.now) c.args.pages.now) owners free defs rows h c.args.name.table c.args.name.key c.args.spot there in
    let before = f.split.at.row in
    let one = c.in-Ok.ensures.taken tells owners free defs rows h (without rows c.args.name.table c.args.name.key) there (λ t k. refl) in
    let held : IsHeld c.take_off.new.self.directory mid one.next one.free defs (without rows c.args.name.table c.args.name.key) = record { owned = one.owned; holds = one.holds } in
    let pages = c.in-Ok.ensures.pages tells owners free defs rows h there in
    let own = size_of (row_cell c.args.name.table before) in
    let less = c.in-Ok.ensures.left tells owners free defs rows h before there f.row in
    let place = h.holds.knows.places c.args.name.table c.args.name.key ∙ f.there in
    let own_is = ap (own_size c.args.name.table) f.row in
    to_limit c.put_new.result (λ count limit. NoRoom c.take_off.new.self.directory (size_of c.args.cell)) (λ count limit. NoRoomFor c.args.self.now.directory rows c.args.name.table c.args.name.key (size_of c.args.cell)) (λ count limit none. none_for c.args.self.now.directory c.take_off.new.self.directory rows c.args.name.table c.args.name.key c.args.spot.page own (size_of c.args.cell) less place own_is none)
    (c.put_new.ensures.crowded tells one.next one.free defs (without rows c.args.name.table c.args.name.key) held)

pub returns-clause-goes : goal.returns-clause-goes
returns-clause-goes g c tells =
    goes_then (g.D.Disk.told c.args.disk.now) (g.D.Disk.told c.take_off.new.disk) (g.D.Disk.told c.put_new.new.disk) c.args.pages.now c.take_off.new.pages c.put_new.new.pages (c.take_off.ensures.goes tells) (c.in-Ok.ensures.keeps tells) (c.put_new.ensures.goes tells)

pub returns-clause-keeps : goal.returns-clause-keeps
returns-clause-keeps g c tells =
    on_ok c.put_new.result (Keeps (g.D.Disk.told c.take_off.new.disk) (g.D.Disk.told c.put_new.new.disk) c.put_new.new.pages) (Keeps (g.D.Disk.told c.args.disk.now) (g.D.Disk.told c.put_new.new.disk) c.put_new.new.pages) (keeps_then (g.D.Disk.told c.args.disk.now) (g.D.Disk.told c.take_off.new.disk) (g.D.Disk.told c.put_new.new.disk) c.take_off.new.pages c.put_new.new.pages (c.in-Ok.ensures.keeps tells)) (c.put_new.ensures.keeps tells)

pub returns-clause-undamaged : goal.returns-clause-undamaged
returns-clause-undamaged g c tells saved safe count owners free defs rows h there =
    let old = (book_of (g.D.Disk.told c.args.disk.now) c.args.pages.now) in
    let mid = book_of (g.D.Disk.told c.take_off.new.disk) c.take_off.new.pages in
    let f = found c.args.self.now.directory (book_of (g.D.Disk.told c.args.disk.now) c.args.pages.now) owners free defs rows h c.args.name.table c.args.name.key c.args.spot there in
    let before = f.split.at.row in
    let one = c.in-Ok.ensures.taken tells owners free defs rows h (without rows c.args.name.table c.args.name.key) there (λ t k. refl) in
    let held : IsHeld c.take_off.new.self.directory mid one.next one.free defs (without rows c.args.name.table c.args.name.key) = record { owned = one.owned; holds = one.holds } in
    let pages = c.in-Ok.ensures.pages tells owners free defs rows h there in
    c.put_new.ensures.undamaged tells saved ((c.in-Ok.ensures.keeps tells).safe saved safe) (count ∙ sym c.take_off.ensures.head.stored) one.next one.free defs (without rows c.args.name.table c.args.name.key) held

pub returns-clause-limited : goal.returns-clause-limited
returns-clause-limited g c =
    let mid = c.take_off.new.pages in
    to_limit c.put_new.result (λ count limit. (first_free_of mid ≡ 0) × (count ≡ count_of mid) × (limit ≡ bound_of c.args.within mid) × (limit ≤ count))
    (λ count limit. (first_free_of c.args.pages.now ≡ 0) × (count ≡ count_of c.args.pages.now) × (limit ≡ bound_of c.args.within c.args.pages.now) × (limit ≤ count))
    (λ count limit is. (sym c.take_off.ensures.head.free ∙ is.0, is.1 ∙ c.take_off.ensures.head.count, is.2 ∙ bound_same c.args.within c.args.pages.now mid c.take_off.ensures.head.limit, is.3)) c.put_new.ensures.limited
