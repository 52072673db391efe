use Rattle.std.proofs.Common.{◌≡◌, ◌≢◌, ◌⊎◌, ◌↔◌, inl, inr, ℕ, ◌+◌, ◌*◌, ◌<◌, ◌≤◌, true, false, List, [], ◌∷◌, ◌++◌, length, Option, Some, None, refl, sym, ap, ap₂, subst, ◌∙◌, arith}
use Rattle.std.specs.Prelude.{slice_set, remove, OnOk, IfOk, IfErr, MatchOption, IsSome}
use Rattle.std.specs.Option.{option_map}
use Rattle.wat_images.specs.Refusal.{IfDamaged, IfPageLimit}
use Rattle.wat_pages.specs.Pages.{book_of, page_in, count_of, first_free_of}
use Rattle.wat_pages.specs.Within.{bound_of}
use Rattle.wat_slot.specs.Cells.{cells_bytes, IsCellPage}
use Rattle.wat_book.specs.Book.{Section, section, Worked, SameBook}
use Rattle.wat_room.specs.Rooms.{IsLeastWith}
use Rattle.wat_value.specs.Encoding.{row_bytes}
use Rattle.wat_list.specs.Has.{Has}
use Rattle.wat_directory.proofs.Listed.{if_ok}
use Rattle.wat_rows.specs.declared.name.RowName.{RowName}
use Rattle.wat_rows.specs.Rows.{Row, RowMap, NamedRow, IsRowOf, Sets, cells_of, cell_of, row_cell, size_of}
use Rattle.wat_rows.specs.Pages.{of_rows}
use Rattle.wat_rows.proofs.Stepping.{no_row}
use Rattle.wat_directory.specs.declared.row_page.RowPage.{RowPage}
use Rattle.wat_directory.specs.declared.directory.Directory.{Directory}
use Rattle.wat_directory.specs.declared.directory.Spot.{Spot}
use Rattle.wat_directory.specs.Known.{HasOwnRoom, Holds, IsChosen, IsLeastRoom, IsRoomy, LessUsed, NoRoom, NoRoomFor, entry_of, names_in, own_size, page_at, place_at, row_pages, spot_at, used_bytes}
use Rattle.wat_cells.specs.Going.{Goes, Keeps}
use Rattle.wat_cells.specs.Wrote.{WroteCells}
use Rattle.wat_cells.proofs.Then.{damaged_to, goes_nowhere, goes_by, goes_then, goes_all, keeps_by, keeps_then, keeps_still, limit_to, some_of, some_to, match_some, match_none}
use Rattle.wat_heap.specs.declared.heap.Heap.{Heap}
use Rattle.wat_heap.specs.Heaps.{IsHeld}
use Rattle.wat_heap.proofs.Counts.{both_ok, bound_same, cell_size, filled_of, less_count, more_count, on_ok, placed_here, same_count, some_page, stands_where, to_limit}
use Rattle.wat_heap.proofs.Doing.{pushed, changed_to, off, freed, onto_new, still_held, taking, unknown}
use Rattle.wat_heap.proofs.Finding.{found, not_found, on_page, reads, reads_none}
use Rattle.wat_heap.proofs.Moving.{chosen_least, chosen_new, chosen_own, has_own, least_mid, needed_not, new_none, none_for, none_mid, none_new, not_own, nothing_gone, same_then_worked, sets_again, then_worked, without}
use Rattle.wat_heap.proofs.Rooming.{least_is, no_room, not_both, one_least, roomy_of}
use Rattle.wat_heap.proofs.Sizes.{left, less_fits, no_push, no_room_set, one_alone, room_set, within}
use Rattle.wat_heap.proofs.Taken.{unknown_page}
use Rattle.wat_heap.proofs.heap.Heap.keys.Goals as goal

pub returns-clause-all : goal.returns-clause-all
returns-clause-all c pages defs rows h =
    if_ok c.keys.result (λ keys. (key : Row) → Has key keys ↔ IsSome (place_at c.args.self.now.directory c.args.table key)) (λ keys. (key : Row) → Has key keys ↔ IsSome (rows c.args.table key))
    (λ keys both key. let s = stands_where c.args.self.now.directory pages defs rows h c.args.table key in (λ has. s.0 ((both key).0 has), λ some. (both key).1 (s.1 some))) c.keys.ensures.all
