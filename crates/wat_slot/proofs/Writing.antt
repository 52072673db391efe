-- Cells that are written one behind the other.
use Rattle.std.proofs.Common.{◌≡◌, ℕ, ◌+◌, ◌<◌, ◌≤◌, List, [], ◌∷◌, ◌++◌, length, take, drop, get_or, refl, sym, ◌∙◌, ap, arith, append_assoc, length-append}
use Rattle.std.proofs.lemmas.List.{take_at, drop_at, drop-take, take_more, append-nil, take-take, take-append-drop}
use Rattle.std.proofs.lemmas.List.Concat.{flat_map-append}
use Rattle.std.specs.Int.{w16, to_be_bytes}
use Rattle.wat_slot.specs.Cells.{cell_bytes, cells_bytes, cells_front, IsCellPage}
use Rattle.wat_slot.proofs.Reading.{length-cell, length-two}

-- bytes that are written behind a front make it longer
pub written_front : (old new front bytes : List ℕ) (at : ℕ) → take at old ≡ front → at ≡ length front → new ≡ take at old ++ bytes ++ drop (at + length bytes) old → take (at + length bytes) new ≡ front ++ bytes
written_front old new front bytes at is place write =
    let all : new ≡ (front ++ bytes) ++ drop (at + length bytes) old = write ∙ ap (λ l. l ++ bytes ++ drop (at + length bytes) old) is in
    ap (take (at + length bytes)) all ∙ take_at (front ++ bytes) (drop (at + length bytes) old) (at + length bytes) (omega (arith, place, length-append front bytes))

pub cells_more : (cells : List (List ℕ)) (i : ℕ) (cell : List ℕ) → i < length cells → cell ≡ get_or cells i cell → cells_bytes (take (i + 1) cells) ≡ cells_bytes (take i cells) ++ cell_bytes cell
cells_more cells i cell here is =
    ap (λ l. cells_bytes l) (take_more cells i cell here ∙ ap (λ x. take i cells ++ x ∷ []) (sym is)) ∙ flat_map-append cell_bytes (take i cells) (cell ∷ [])
    ∙ ap (λ l. cells_bytes (take i cells) ++ l) (append-nil (cell_bytes cell))

pub length-more : (cells : List (List ℕ)) (i : ℕ) (cell : List ℕ) → i < length cells → cell ≡ get_or cells i cell → length (cells_bytes (take (i + 1) cells)) ≡ length (cells_bytes (take i cells)) + (2 + length cell)
length-more cells i cell here is = ap length (cells_more cells i cell here is) ∙ length-append (cells_bytes (take i cells)) (cell_bytes cell) ∙ ap (λ n. length (cells_bytes (take i cells)) + n) (length-cell cell)

-- a first part takes no more bytes than all
pub length-part : (cells : List (List ℕ)) (i : ℕ) → length (cells_bytes (take i cells)) ≤ length (cells_bytes cells)
length-part cells i =
    let split : cells_bytes cells ≡ cells_bytes (take i cells) ++ cells_bytes (drop i cells) = ap (λ l. cells_bytes l) (sym (take-append-drop i cells)) ∙ flat_map-append cell_bytes (take i cells) (drop i cells) in
    omega (arith, ap length split, length-append (cells_bytes (take i cells)) (cells_bytes (drop i cells)))

-- a page whose first bytes are the front and all cells
pub is_page : (page : List ℕ) (cells : List (List ℕ)) (at : ℕ) → length page ≡ 4096 → length (cells_bytes cells) ≤ 4080 → at ≡ 16 + length (cells_bytes cells) → take at page ≡ cells_front (length cells) ++ cells_bytes cells
    → IsCellPage page cells
is_page page cells at whole room place is =
    let front = cells_front (length cells) in
    let size = length (cells_bytes cells) in
    let here : take (16 + size) page ≡ front ++ cells_bytes cells = ap (λ n. take n page) (sym place) ∙ is in
    record {
      front = sym (take-take 16 (16 + size) page (omega arith)) ∙ ap (take 16) here ∙ take_at front (cells_bytes cells) 16 refl;
      content = sym (drop-take 16 size page) ∙ ap (drop 16) here ∙ drop_at front (cells_bytes cells) 16 refl;
      fit = omega arith;
      whole = whole;
    }

-- ---- cell by cell
module _ (cells : List (List ℕ)) (i : ℕ) (cell : List ℕ) (here : i < length cells) (is : cell ≡ get_or cells i cell) where
  pub room_for : length (cells_bytes cells) ≤ 4080 → length (cells_bytes (take i cells)) + (2 + length cell) ≤ 4080
  room_for room = omega (arith, room, length-more cells i cell here is, length-part cells (i + 1))

  pub no_room : (left : ℕ) → left + length (cells_bytes (take i cells)) ≡ 4080 → left < 2 + length cell → length (cells_bytes cells) ≤ 4080 → ⊥
  no_room left sum less room = omega (arith, sum, less, room_for room)

  pub one_cell : (old mid new two bytes : List ℕ) (at len : ℕ) → take at old ≡ cells_front (length cells) ++ cells_bytes (take i cells) → at ≡ 16 + length (cells_bytes (take i cells)) → two ≡ to_be_bytes w16 len → len ≡ length cell
      → bytes ≡ cell → mid ≡ take at old ++ two ++ drop (at + length two) old → new ≡ take (at + 2) mid ++ bytes ++ drop (at + 2 + length bytes) mid
      → take (at + (2 + len)) new ≡ cells_front (length cells) ++ cells_bytes (take (i + 1) cells)
  one_cell old mid new two bytes at len so_far place size long same first second =
      let done = cells_front (length cells) ++ cells_bytes (take i cells) in
      let count : length done ≡ 16 + length (cells_bytes (take i cells)) = length-append (cells_front (length cells)) (cells_bytes (take i cells)) in
      let two_long : length two ≡ 2 = ap length size ∙ length-two len in
      let step : take (at + length two) mid ≡ done ++ two = written_front old mid done two at so_far (omega (arith, place, count)) first in
      let after : take (at + 2) mid ≡ done ++ two = ap (λ n. take (at + n) mid) (sym two_long) ∙ step in
      let last : take (at + 2 + length bytes) new ≡ (done ++ two) ++ bytes = written_front mid new (done ++ two) bytes (at + 2) after (omega (arith, place, count, two_long, length-append done two)) second in
      let end : at + (2 + len) ≡ at + 2 + length bytes = omega (arith, long, ap length same) in
      ap (λ n. take n new) end ∙ last ∙ append_assoc done two bytes ∙ (λ j. done ++ (size j ++ same j)) ∙ ap (λ n. done ++ (to_be_bytes w16 n ++ cell)) long
      ∙ append_assoc (cells_front (length cells)) (cells_bytes (take i cells)) (cell_bytes cell) ∙ ap (λ l. cells_front (length cells) ++ l) (sym (cells_more cells i cell here is))
