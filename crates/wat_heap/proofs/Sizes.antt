-- How many bytes the cells of a page take after a cell has come, changed or gone.
use Rattle.std.proofs.Common.{◌≡◌, ◌≢◌, ℕ, ◌+◌, ◌<◌, ◌≤◌, ◌==◌, Bool, true, false, if◌then◌else◌, List, [], ◌∷◌, ◌++◌, length, map, Option, Some, None, refl, sym, ap, ap₂, subst, ◌∙◌, arith, length-append}
use Rattle.std.specs.Prelude.{slice_set, remove}
use Rattle.std.proofs.lemmas.Bool.{eq-eqb, ne_eqb}
use Rattle.std.proofs.lemmas.List.{map-append, length-map}
use Rattle.std.proofs.lemmas.List.Concat.{flat_map-append}
use Rattle.wat_slot.specs.Cells.{cell_bytes, cells_bytes}
use Rattle.wat_slot.proofs.Reading.{length-cells}
use Rattle.wat_book.specs.Book.{Book, Owners}
use Rattle.wat_rows.specs.Rows.{Row, NamedRow, RowMap, Defs, cells_of, cell_of, names_of, row_cell, size_of}
use Rattle.wat_rows.proofs.Lists.{is_named}
use Rattle.wat_directory.specs.declared.row_page.RowPage.{RowPage}
use Rattle.wat_directory.specs.declared.directory.Directory.{Directory}
use Rattle.wat_directory.specs.declared.directory.Spot.{Spot}
use Rattle.wat_directory.specs.Known.{page_at, names_in, LessUsed}
use Rattle.wat_directory.specs.Steps.{SetsPage}
use Rattle.wat_heap.specs.Heaps.{IsHeld}
use Rattle.wat_heap.proofs.Finding.{OnPage, on_page, Found}
use Rattle.wat_heap.proofs.Doing.{set_at, remove_at, within_at}

bytes-append : (front back : List (List ℕ)) → length (cells_bytes (front ++ back)) ≡ length (cells_bytes front) + length (cells_bytes back)
bytes-append front back = ap length (flat_map-append cell_bytes front back) ∙ length-append (cells_bytes front) (cells_bytes back)

with_cell : (front back : List (List ℕ)) (cell : List ℕ) → length (cells_bytes (front ++ cell ∷ back)) ≡ length (cells_bytes (front ++ back)) + (2 + length cell)
with_cell front back cell = omega (arith, bytes-append front (cell ∷ back), bytes-append front back, length-cells cell back)

one_more : (cells : List (List ℕ)) (cell : List ℕ) → length (cells_bytes (cells ++ cell ∷ [])) ≡ length (cells_bytes cells) + (2 + length cell)
one_more cells cell = omega (arith, bytes-append cells (cell ∷ []), length-cells cell [])

pub one_alone : (cell : List ℕ) → length (cells_bytes (cell ∷ [])) ≡ 2 + length cell
one_alone cell = omega (arith, length-cells cell [])

some_entry : (a b : RowPage) → Some a ≡ Some b → a ≡ b
some_entry a b e = cc

module _ (d : Directory) (old : Book) (owners : Owners) (free : List ℕ) (defs : Defs) (rows : RowMap) (h : IsHeld d old owners free defs rows) where
  -- where the page has room for one more, it has it
  pub no_push : (page : ℕ) (entry : RowPage) (s : OnPage d old owners free defs rows h page entry) (cell : List ℕ) → entry.used + size_of cell ≤ 4080 → 4080 < length (cells_bytes (cells_of s.list ++ cell ∷ [])) → ⊥
  no_push page entry s cell room over = omega (arith, room, over, one_more (cells_of s.list) cell, ap (λ (e : RowPage). e.used) s.entry_is)

module _ (d : Directory) (old : Book) (owners : Owners) (free : List ℕ) (defs : Defs) (rows : RowMap) (h : IsHeld d old owners free defs rows) (table : ℕ) (key : Row) (spot : Spot) (f : Found d old owners free defs rows h table key spot) where
  cells_are : cells_of f.page.list ≡ cells_of f.split.front ++ cell_of f.split.at ∷ cells_of f.split.back
  cells_are = ap cells_of f.split.whole ∙ map-append cell_of f.split.front (f.split.at ∷ f.split.back)

  place_is : length (cells_of f.split.front) ≡ spot.cell
  place_is = length-map f.split.front cell_of ∙ f.split.place

  pub within : spot.cell < length (cells_of f.page.list)
  within = subst (λ l. spot.cell < length l) (sym cells_are) (within_at (cells_of f.split.front) (cell_of f.split.at) (cells_of f.split.back) spot.cell place_is)

  used_is : f.entry.used ≡ length (cells_bytes (cells_of f.split.front ++ cell_of f.split.at ∷ cells_of f.split.back))
  used_is = ap (λ (e : RowPage). e.used) f.page.entry_is ∙ ap (λ l. length (cells_bytes l)) cells_are

  pub set_bytes : (cell : List ℕ) → length (cells_bytes (slice_set (cells_of f.page.list) spot.cell cell)) + size_of (cell_of f.split.at) ≡ f.entry.used + size_of cell
  set_bytes cell =
      let now : slice_set (cells_of f.page.list) spot.cell cell ≡ cells_of f.split.front ++ cell ∷ cells_of f.split.back =
      ap (λ l. slice_set l spot.cell cell) cells_are ∙ set_at (cells_of f.split.front) (cell_of f.split.at) cell (cells_of f.split.back) spot.cell place_is in
      omega (arith, ap (λ l. length (cells_bytes l)) now, used_is, with_cell (cells_of f.split.front) (cells_of f.split.back) cell, with_cell (cells_of f.split.front) (cells_of f.split.back) (cell_of f.split.at))

  pub less_bytes : length (cells_bytes (remove (cells_of f.page.list) spot.cell)) + size_of (cell_of f.split.at) ≡ f.entry.used
  less_bytes =
      let now : remove (cells_of f.page.list) spot.cell ≡ cells_of f.split.front ++ cells_of f.split.back =
      ap (λ l. remove l spot.cell) cells_are ∙ remove_at (cells_of f.split.front) (cell_of f.split.at) (cells_of f.split.back) spot.cell place_is in
      omega (arith, ap (λ l. length (cells_bytes l)) now, used_is, with_cell (cells_of f.split.front) (cells_of f.split.back) (cell_of f.split.at))

  pub less_fits : length (cells_bytes (remove (cells_of f.page.list) spot.cell)) ≤ 4080
  less_fits = omega (arith, less_bytes, f.page.are.fit, ap (λ (e : RowPage). e.used) f.page.entry_is)

  some_row : (a b : Row) → Some a ≡ Some b → a ≡ b
  some_row a b e = cc

  own_cell : (before : Row) → rows table key ≡ Some before → row_cell table before ≡ cell_of f.split.at
  own_cell before is = ap₂ row_cell (sym (is_named table key f.split.at.name f.split.is).0) (some_row before f.split.at.row (sym is ∙ f.row))

  pub no_room_set : (cell : List ℕ) (before : Row) → rows table key ≡ Some before → 4080 < length (cells_bytes (slice_set (cells_of f.page.list) spot.cell cell))
      → ((entry : RowPage) → page_at d spot.page ≡ Some entry → entry.used + size_of cell ≤ 4080 + size_of (row_cell table before)) → ⊥
  no_room_set cell before is over fits = omega (arith, fits f.entry f.is, set_bytes cell, ap length (own_cell before is), over)

  pub room_set : (cell : List ℕ) (before : Row) → rows table key ≡ Some before → length (cells_bytes (slice_set (cells_of f.page.list) spot.cell cell)) ≤ 4080
      → (entry : RowPage) → page_at d spot.page ≡ Some entry → entry.used + size_of cell ≤ 4080 + size_of (row_cell table before)
  room_set cell before is fits entry known =
      let it : entry ≡ f.entry = some_entry entry f.entry (sym known ∙ f.is) in
      omega (arith, ap (λ (e : RowPage). e.used) it, set_bytes cell, ap length (own_cell before is), fits)

  names_within : spot.cell < length (names_in (page_at d spot.page))
  names_within =
      let names : names_in (page_at d spot.page) ≡ names_of f.page.list = ap names_in f.is ∙ ap (λ (e : RowPage). e.names) f.page.entry_is in
      omega (arith, within, ap length names, length-map f.page.list (λ (it : NamedRow). it.name), length-map f.page.list cell_of)

  pub left : (after : Directory) (used : ℕ) → used ≡ length (cells_bytes (remove (cells_of f.page.list) spot.cell))
      → (spot.cell < length (names_in (page_at d spot.page)) → SetsPage spot.page (Some (record { used = used; names = remove (names_in (page_at d spot.page)) spot.cell })) d after)
      → (before : Row) → rows table key ≡ Some before → LessUsed spot.page (size_of (row_cell table before)) d after
  left after used is sets before was =
      let now = sets names_within in
      record {
        before = f.entry;
        after = record { used = used; names = remove (names_in (page_at d spot.page)) spot.cell };
        was = f.is;
        is = now.pages spot.page ∙ ap (λ b. if b then Some (record { used = used; names = remove (names_in (page_at d spot.page)) spot.cell }) else page_at d spot.page) (eq-eqb spot.page spot.page refl);
        less = omega (arith, is, less_bytes, ap length (own_cell before was));
        others = λ other far. now.pages other ∙ ap (λ b. if b then Some (record { used = used; names = remove (names_in (page_at d spot.page)) spot.cell }) else page_at d other) (ne_eqb spot.page other (λ e. far (sym e)));
      }
