use Rattle.std.proofs.Common.{◌≡◌, ◌≢◌, ◌⊎◌, ◌↔◌, inl, inr, ℕ, ◌+◌, ◌*◌, ◌<◌, ◌≤◌, true, false, List, [], ◌∷◌, ◌++◌, length, Option, Some, None, refl, sym, ap, ap₂, subst, ◌∙◌, arith}
use Rattle.std.specs.Prelude.{slice_set, remove, OnOk, IfOk, IfErr, MatchOption, IsSome}
use Rattle.std.specs.Option.{option_map}
use Rattle.wat_images.specs.Refusal.{IfDamaged, IfPageLimit}
use Rattle.wat_pages.specs.Pages.{book_of, page_in, count_of, first_free_of}
use Rattle.wat_pages.specs.Within.{bound_of}
use Rattle.wat_slot.specs.Cells.{cells_bytes, IsCellPage}
use Rattle.wat_book.specs.Book.{Section, section, Worked, SameBook}
use Rattle.wat_room.specs.Rooms.{IsLeastWith}
use Rattle.wat_value.specs.Encoding.{row_bytes}
use Rattle.wat_value.proofs.WidthLemmas.{short_row}
use Rattle.wat_rows.specs.declared.name.RowName.{RowName}
use Rattle.wat_rows.specs.Rows.{Row, RowMap, NamedRow, IsRowOf, Sets, cells_of, cell_of, row_cell, size_of}
use Rattle.wat_rows.specs.Pages.{of_rows}
use Rattle.wat_rows.proofs.Stepping.{no_row}
use Rattle.wat_directory.specs.declared.row_page.RowPage.{RowPage}
use Rattle.wat_directory.specs.declared.directory.Directory.{Directory}
use Rattle.wat_directory.specs.declared.directory.Spot.{Spot}
use Rattle.wat_directory.specs.Known.{HasOwnRoom, Holds, IsChosen, IsLeastRoom, IsRoomy, LessUsed, NoRoom, NoRoomFor, entry_of, names_in, own_size, page_at, place_at, row_pages, spot_at, used_bytes}
use Rattle.wat_cells.specs.Going.{Goes, Keeps}
use Rattle.wat_cells.specs.Wrote.{WroteCells}
use Rattle.wat_cells.proofs.Then.{damaged_to, goes_nowhere, goes_by, goes_then, goes_all, keeps_by, keeps_then, keeps_still, limit_to, some_of, some_to, match_some, match_none}
use Rattle.wat_heap.specs.declared.heap.Heap.{Heap}
use Rattle.wat_heap.specs.Heaps.{IsHeld}
use Rattle.wat_heap.proofs.Counts.{both_ok, bound_same, cell_size, filled_of, less_count, more_count, on_ok, placed_here, same_count, some_page, stands_where, to_limit}
use Rattle.wat_heap.proofs.Doing.{pushed, changed_to, off, freed, onto_new, still_held, taking, unknown}
use Rattle.wat_heap.proofs.Finding.{found, not_found, on_page, reads, reads_none}
use Rattle.wat_heap.proofs.Moving.{chosen_least, chosen_new, chosen_own, has_own, least_mid, needed_not, new_none, none_for, none_mid, none_new, not_own, nothing_gone, same_then_worked, sets_again, then_worked, without}
use Rattle.wat_heap.proofs.Rooming.{least_is, no_room, not_both, one_least, roomy_of}
use Rattle.wat_heap.proofs.Sizes.{left, less_fits, no_push, no_room_set, one_alone, room_set, within}
use Rattle.wat_heap.proofs.Taken.{unknown_page}
use Rattle.wat_heap.proofs.heap.Heap.put.Goals as goal

pub row_cell-requires : goal.row_cell-requires
row_cell-requires g c = short_row c.args.row.now (omega (arith, c.requires.short))

pub put_cell-requires-clause-short : goal.put_cell-requires-clause-short
put_cell-requires-clause-short g c = omega (arith, c.requires.short, ap size_of c.in-Ok.ensures.cell, cell_size c.args.table c.args.row.now)

pub returns-in-Err-clause-goes : goal.returns-in-Err-clause-goes
returns-in-Err-clause-goes g c tells = goes_nowhere (g.D.Disk.told c.args.disk.now) c.args.pages.now

pub returns-in-Err-copy-clause-goes : goal.returns-in-Err-copy-clause-goes
returns-in-Err-copy-clause-goes g c tells = goes_nowhere (g.D.Disk.told c.args.disk.now) c.args.pages.now

pub returns-clause-put : goal.returns-clause-put
returns-clause-put g c tells owners free defs rows h after fits sets =
    let key_is = c.in-Ok-copy.ensures in
    c.put_cell.ensures.put tells owners free defs rows h after c.args.row.now (subst (λ (k : Row). IsRowOf defs (record { name = record { table = c.args.table; key = k }; row = c.args.row.now })) (sym key_is) fits) c.in-Ok.ensures.cell
    (subst (λ (k : Row). Sets rows c.args.table k (Some c.args.row.now) after) (sym key_is) sets)

pub returns-clause-taken : goal.returns-clause-taken
returns-clause-taken g c tells owners free defs rows h =
    let key_is = c.in-Ok-copy.ensures in
    let size_is : size_of c.in-Ok.cell ≡ (6 + length (row_bytes c.args.row.now)) = ap size_of c.in-Ok.ensures.cell ∙ cell_size c.args.table c.args.row.now in
    let taken = subst (λ (k : Row). OnOk c.put_cell.result ((row_pages c.put_cell.new.self.directory ≡ row_pages c.args.self.now.directory) ⊎ (NoRoomFor c.args.self.now.directory rows c.args.table k (6 + length (row_bytes c.args.row.now)) × (row_pages c.put_cell.new.self.directory ≡ row_pages c.args.self.now.directory + 1)))) key_is (subst (λ n. OnOk c.put_cell.result ((row_pages c.put_cell.new.self.directory ≡ row_pages c.args.self.now.directory) ⊎ (NoRoomFor c.args.self.now.directory rows c.args.table c.in-Ok-copy.key n × (row_pages c.put_cell.new.self.directory ≡ row_pages c.args.self.now.directory + 1)))) size_is (c.put_cell.ensures.taken tells owners free defs rows h)) in
    taken

pub returns-clause-needed : goal.returns-clause-needed
returns-clause-needed g c tells owners free defs rows h none =
    let key_is = c.in-Ok-copy.ensures in
    let size_is : size_of c.in-Ok.cell ≡ (6 + length (row_bytes c.args.row.now)) = ap size_of c.in-Ok.ensures.cell ∙ cell_size c.args.table c.args.row.now in
    c.put_cell.ensures.needed tells owners free defs rows h (subst (λ (k : Row). NoRoomFor c.args.self.now.directory rows c.args.table k (size_of c.in-Ok.cell)) (sym key_is) (subst (λ n. NoRoomFor c.args.self.now.directory rows c.args.table c.args.key.now n) (sym size_is) none))

pub returns-clause-least : goal.returns-clause-least
returns-clause-least g c tells owners free defs rows h page is =
    let key_is = c.in-Ok-copy.ensures in
    let size_is : size_of c.in-Ok.cell ≡ (6 + length (row_bytes c.args.row.now)) = ap size_of c.in-Ok.ensures.cell ∙ cell_size c.args.table c.args.row.now in
    subst (λ (k : Row). OnOk c.put_cell.result (place_at c.put_cell.new.self.directory c.args.table k ≡ Some page)) key_is
    (c.put_cell.ensures.least tells owners free defs rows h page (subst (λ (k : Row). IsChosen c.args.self.now.directory rows c.args.table k (size_of c.in-Ok.cell) page) (sym key_is) (subst (λ n. IsChosen c.args.self.now.directory rows c.args.table c.args.key.now n page) (sym size_is) is)))

pub returns-clause-crowded : goal.returns-clause-crowded
returns-clause-crowded g c tells owners free defs rows h =
    let key_is = c.in-Ok-copy.ensures in
    let size_is : size_of c.in-Ok.cell ≡ (6 + length (row_bytes c.args.row.now)) = ap size_of c.in-Ok.ensures.cell ∙ cell_size c.args.table c.args.row.now in
    let crowded = subst (λ (k : Row). IfErr c.put_cell.result (λ refusal. IfPageLimit refusal (λ count limit. NoRoomFor c.args.self.now.directory rows c.args.table k (6 + length (row_bytes c.args.row.now))))) key_is (subst (λ n. IfErr c.put_cell.result (λ refusal. IfPageLimit refusal (λ count limit. NoRoomFor c.args.self.now.directory rows c.args.table c.in-Ok-copy.key n))) size_is (c.put_cell.ensures.crowded tells owners free defs rows h)) in
    crowded

pub returns-clause-filled : goal.returns-clause-filled
returns-clause-filled g c tells owners free defs rows h =
    let key_is = c.in-Ok-copy.ensures in
    let size_is : size_of c.in-Ok.cell ≡ (6 + length (row_bytes c.args.row.now)) = ap size_of c.in-Ok.ensures.cell ∙ cell_size c.args.table c.args.row.now in
    let taken = subst (λ (k : Row). OnOk c.put_cell.result ((row_pages c.put_cell.new.self.directory ≡ row_pages c.args.self.now.directory) ⊎ (NoRoomFor c.args.self.now.directory rows c.args.table k (6 + length (row_bytes c.args.row.now)) × (row_pages c.put_cell.new.self.directory ≡ row_pages c.args.self.now.directory + 1)))) key_is (subst (λ n. OnOk c.put_cell.result ((row_pages c.put_cell.new.self.directory ≡ row_pages c.args.self.now.directory) ⊎ (NoRoomFor c.args.self.now.directory rows c.args.table c.in-Ok-copy.key n × (row_pages c.put_cell.new.self.directory ≡ row_pages c.args.self.now.directory + 1)))) size_is (c.put_cell.ensures.taken tells owners free defs rows h)) in
    let small : (6 + length (row_bytes c.args.row.now)) ≤ 3506 = omega (arith, c.requires.short) in
    on_ok c.put_cell.result ((row_pages c.put_cell.new.self.directory ≡ row_pages c.args.self.now.directory) ⊎ (NoRoomFor c.args.self.now.directory rows c.args.table c.args.key.now (6 + length (row_bytes c.args.row.now)) × (row_pages c.put_cell.new.self.directory ≡ row_pages c.args.self.now.directory + 1)))
    ((row_pages c.put_cell.new.self.directory ≡ row_pages c.args.self.now.directory) ⊎ ((page : ℕ) (entry : RowPage) → page_at c.args.self.now.directory page ≡ Some entry → 500 < entry.used))
    (λ e. elim e [ inl same ↦ inl same | inr both ↦ inr (filled_of c.args.self.now.directory rows c.args.table c.args.key.now (6 + length (row_bytes c.args.row.now)) small both.0) ]) taken

pub returns-clause-counted : goal.returns-clause-counted
returns-clause-counted g c tells owners free defs rows h =
    let key_is = c.in-Ok-copy.ensures in
    let size_is : size_of c.in-Ok.cell ≡ (6 + length (row_bytes c.args.row.now)) = ap size_of c.in-Ok.ensures.cell ∙ cell_size c.args.table c.args.row.now in
    let taken = subst (λ (k : Row). OnOk c.put_cell.result ((row_pages c.put_cell.new.self.directory ≡ row_pages c.args.self.now.directory) ⊎ (NoRoomFor c.args.self.now.directory rows c.args.table k (6 + length (row_bytes c.args.row.now)) × (row_pages c.put_cell.new.self.directory ≡ row_pages c.args.self.now.directory + 1)))) key_is (subst (λ n. OnOk c.put_cell.result ((row_pages c.put_cell.new.self.directory ≡ row_pages c.args.self.now.directory) ⊎ (NoRoomFor c.args.self.now.directory rows c.args.table c.in-Ok-copy.key n × (row_pages c.put_cell.new.self.directory ≡ row_pages c.args.self.now.directory + 1)))) size_is (c.put_cell.ensures.taken tells owners free defs rows h)) in
    let small : (6 + length (row_bytes c.args.row.now)) ≤ 3506 = omega (arith, c.requires.short) in
    on_ok c.put_cell.result ((row_pages c.put_cell.new.self.directory ≡ row_pages c.args.self.now.directory) ⊎ (NoRoomFor c.args.self.now.directory rows c.args.table c.args.key.now (6 + length (row_bytes c.args.row.now)) × (row_pages c.put_cell.new.self.directory ≡ row_pages c.args.self.now.directory + 1)))
    ((row_pages c.put_cell.new.self.directory ≡ row_pages c.args.self.now.directory) ⊎ (501 * row_pages c.args.self.now.directory ≤ used_bytes c.args.self.now.directory))
    (λ e. elim e [ inl same ↦ inl same | inr both ↦ inr (c.pages_law.ensures rows c.args.table c.args.key.now (6 + length (row_bytes c.args.row.now)) small both.0) ]) taken

pub returns-clause-counted_at_limit : goal.returns-clause-counted_at_limit
returns-clause-counted_at_limit g c tells owners free defs rows h =
    let key_is = c.in-Ok-copy.ensures in
    let size_is : size_of c.in-Ok.cell ≡ (6 + length (row_bytes c.args.row.now)) = ap size_of c.in-Ok.ensures.cell ∙ cell_size c.args.table c.args.row.now in
    let crowded = subst (λ (k : Row). IfErr c.put_cell.result (λ refusal. IfPageLimit refusal (λ count limit. NoRoomFor c.args.self.now.directory rows c.args.table k (6 + length (row_bytes c.args.row.now))))) key_is (subst (λ n. IfErr c.put_cell.result (λ refusal. IfPageLimit refusal (λ count limit. NoRoomFor c.args.self.now.directory rows c.args.table c.in-Ok-copy.key n))) size_is (c.put_cell.ensures.crowded tells owners free defs rows h)) in
    let small : (6 + length (row_bytes c.args.row.now)) ≤ 3506 = omega (arith, c.requires.short) in
    to_limit c.put_cell.result (λ count limit. NoRoomFor c.args.self.now.directory rows c.args.table c.args.key.now (6 + length (row_bytes c.args.row.now))) (λ count limit. 501 * row_pages c.args.self.now.directory ≤ used_bytes c.args.self.now.directory)
    (λ count limit none. c.pages_law.ensures rows c.args.table c.args.key.now (6 + length (row_bytes c.args.row.now)) small none) crowded

pub returns-clause-limited : goal.returns-clause-limited
returns-clause-limited g c =
    to_limit c.put_cell.result (λ count limit. (first_free_of c.args.pages.now ≡ 0) × (count ≡ count_of c.args.pages.now) × (limit ≡ bound_of c.args.within c.args.pages.now) × (limit ≤ count)) (λ count limit. (count ≡ count_of c.args.pages.now) × (limit ≡ bound_of c.args.within c.args.pages.now) × (limit ≤ count) × (first_free_of c.args.pages.now ≡ 0))
    (λ count limit is. (is.1, is.2, is.3, is.0)) c.put_cell.ensures.limited
