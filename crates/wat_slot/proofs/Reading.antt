-- A page is of one list of cells alone, and a list of cells is read cell by cell.
use Rattle.std.proofs.Common.{◌≡◌, ℕ, ◌+◌, ◌*◌, ◌<◌, ◌≤◌, ◌^◌, List, [], ◌∷◌, ◌++◌, length, take, drop, get_or, replicate, inl, inr, refl, sym, ◌∙◌, ap, ap₂, arith, append_assoc, length-append}
use Rattle.std.proofs.Math.Seq.{take-append_seam, drop-append_seam}
use Rattle.std.proofs.lemmas.Bool.{cases_lt}
use Rattle.std.proofs.lemmas.List.{take-append-drop, get_or-take, get_or_past, length-take, length-take-le, length-drop, append-nil}
use Rattle.std.proofs.lemmas.List.Concat.{flat_map-append}
use Rattle.std.proofs.lemmas.Nat.{from_be_bytes-to_be_bytes_2, be_bytes_2}
use Rattle.std.specs.Int.{w16, to_be_bytes, from_be_bytes}
use Rattle.wat_slot.specs.Cells.{cell_bytes, cells_bytes, cells_front, IsCellPage, BeginsWithCell}

append_same : {A : Type 0} (a b s t : List A) → length a ≡ length b → a ++ s ≡ b ++ t → (a ≡ b) × (s ≡ t)
append_same a b s t len e = (
  sym (take-append_seam a s) ∙ ap (take (length a)) e ∙ ap (λ n. take n (b ++ t)) len ∙ take-append_seam b t,
  sym (drop-append_seam a s) ∙ ap (drop (length a)) e ∙ ap (λ n. drop n (b ++ t)) len ∙ drop-append_seam b t,
)

pub length-two : (n : ℕ) → length (to_be_bytes w16 n) ≡ 2
length-two n = refl

pub length-cell : (cell : List ℕ) → length (cell_bytes cell) ≡ 2 + length cell
length-cell cell = omega (arith, length-append (to_be_bytes w16 (length cell)) cell, length-two (length cell))

pub length-cells : (cell : List ℕ) (cells : List (List ℕ)) → length (cells_bytes (cell ∷ cells)) ≡ 2 + length cell + length (cells_bytes cells)
length-cells cell cells = omega (arith, length-append (cell_bytes cell) (cells_bytes cells), length-cell cell)

pub few_cells : (cells : List (List ℕ)) → length cells ≤ length (cells_bytes cells)
few_cells [] = omega arith
few_cells (cell ∷ cells) = omega (arith, few_cells cells, length-cells cell cells)

two_same : (m n : ℕ) (s t : List ℕ) → m < 2 ^ 16 → n < 2 ^ 16 → to_be_bytes w16 m ++ s ≡ to_be_bytes w16 n ++ t → (m ≡ n) × (s ≡ t)
two_same m n s t hm hn e =
    let parts = append_same (to_be_bytes w16 m) (to_be_bytes w16 n) s t (length-two m ∙ sym (length-two n)) e in
    (sym (from_be_bytes-to_be_bytes_2 m hm) ∙ ap (from_be_bytes w16) parts.0 ∙ from_be_bytes-to_be_bytes_2 n hn, parts.1)

cells_same : (a b : List (List ℕ)) (s t : List ℕ) → length a ≡ length b → length (cells_bytes a) ≤ 4080 → length (cells_bytes b) ≤ 4080 → cells_bytes a ++ s ≡ cells_bytes b ++ t → a ≡ b
cells_same [] [] s t len la lb e = refl
cells_same [] (y ∷ ys) s t len la lb e = absurd (omega (arith, len))
cells_same (x ∷ xs) [] s t len la lb e = absurd (omega (arith, len))
cells_same (x ∷ xs) (y ∷ ys) s t len la lb e =
    let lx = length-cells x xs in
    let ly = length-cells y ys in
    let apart : to_be_bytes w16 (length x) ++ (x ++ (cells_bytes xs ++ s)) ≡ to_be_bytes w16 (length y) ++ (y ++ (cells_bytes ys ++ t)) =
    sym (parted x xs s) ∙ e ∙ parted y ys t in
    let counts = two_same (length x) (length y) (x ++ (cells_bytes xs ++ s)) (y ++ (cells_bytes ys ++ t)) (omega (arith, lx, la)) (omega (arith, ly, lb)) apart in
    let first = append_same x y (cells_bytes xs ++ s) (cells_bytes ys ++ t) counts.0 counts.1 in
    ap₂ (λ c cs. c ∷ cs) first.0 (cells_same xs ys s t (omega (arith, len)) (omega (arith, lx, la)) (omega (arith, ly, lb)) first.1)
  where
    parted : (c : List ℕ) (cs : List (List ℕ)) (u : List ℕ) → cells_bytes (c ∷ cs) ++ u ≡ to_be_bytes w16 (length c) ++ (c ++ (cells_bytes cs ++ u))
    parted c cs u = append_assoc (cell_bytes c) (cells_bytes cs) u ∙ append_assoc (to_be_bytes w16 (length c)) c (cells_bytes cs ++ u)

parted_cells : (c : List ℕ) (cs : List (List ℕ)) (u : List ℕ) → cells_bytes (c ∷ cs) ++ u ≡ to_be_bytes w16 (length c) ++ (c ++ (cells_bytes cs ++ u))
parted_cells c cs u = append_assoc (cell_bytes c) (cells_bytes cs) u ∙ append_assoc (to_be_bytes w16 (length c)) c (cells_bytes cs ++ u)

pub one_list : (page : List ℕ) (a b : List (List ℕ)) → IsCellPage page a → IsCellPage page b → a ≡ b
one_list page a b ha hb =
    let fronts : to_be_bytes w16 (length a) ++ replicate 12 0 ≡ to_be_bytes w16 (length b) ++ replicate 12 0 = ap (drop 2) (sym ha.front ∙ hb.front) in
    let fa = few_cells a in
    let fb = few_cells b in
    let counts = two_same (length a) (length b) (replicate 12 0) (replicate 12 0) (omega (arith, fa, ha.fit)) (omega (arith, fb, hb.fit)) fronts in
    let rest = drop 16 page in
    let whole : cells_bytes a ++ drop (length (cells_bytes a)) rest ≡ cells_bytes b ++ drop (length (cells_bytes b)) rest =
    ap (λ l. l ++ drop (length (cells_bytes a)) rest) (sym ha.content) ∙ take-append-drop (length (cells_bytes a)) rest ∙ sym (take-append-drop (length (cells_bytes b)) rest) ∙ ap (λ l. l ++ drop (length (cells_bytes b)) rest) hb.content in
    cells_same a b (drop (length (cells_bytes a)) rest) (drop (length (cells_bytes b)) rest) counts.0 (omega (arith, ha.fit)) (omega (arith, hb.fit)) whole

-- ---- one cell more

-- a part of bytes from the front is bytes
below_take : (n : ℕ) (xs : List ℕ) → ((i : ℕ) → get_or xs i 0 < 256) → (i : ℕ) → get_or (take n xs) i 0 < 256
below_take n xs bytes i = elim (cases_lt i n) [
  | inl front ↦ rw (get_or-take n xs i 0 front) (bytes i)
  | inr past ↦
      let none : get_or (take n xs) i 0 ≡ 0 = get_or_past (take n xs) i 0 (omega (arith, length-take n xs)) in
      omega (arith, none)
]

-- the cell behind its length
pub begins : (bytes cell : List ℕ) (len : ℕ) → 2 ≤ length bytes → ((i : ℕ) → get_or bytes i 0 < 256) → len ≡ from_be_bytes w16 (take 2 bytes) → len < 2 ^ 16 → len ≤ length (drop 2 bytes) → cell ≡ take len (drop 2 bytes)
    → BeginsWithCell bytes cell
begins bytes cell len long range is fits there are =
    let size : length cell ≡ len = ap length are ∙ length-take-le len (drop 2 bytes) there in
    let two : to_be_bytes w16 (length cell) ≡ take 2 bytes = ap (to_be_bytes w16) size ∙ be_bytes_2 (take 2 bytes) len (length-take-le 2 bytes long) (below_take 2 bytes range) is in
    record {
      short = omega (arith, size);
      rest = drop len (drop 2 bytes);
      is = sym (take-append-drop 2 bytes) ∙ (λ i. sym two i ++ (sym (take-append-drop len (drop 2 bytes)) ∙ ap (λ l. l ++ drop len (drop 2 bytes)) (sym are)) i)
          ∙ sym (append_assoc (to_be_bytes w16 (length cell)) cell (drop len (drop 2 bytes)));
    }

-- fewer bytes than a length has
pub no_length : (bytes cell : List ℕ) → length bytes < 2 → BeginsWithCell bytes cell → ⊥
no_length bytes cell few b = omega (arith, few, ap length b.is, length-append (cell_bytes cell) b.rest, length-cell cell)

-- fewer bytes than the length says
pub no_bytes : (bytes cell : List ℕ) (len : ℕ) → len ≡ from_be_bytes w16 (take 2 bytes) → length (drop 2 bytes) < len → BeginsWithCell bytes cell → ⊥
no_bytes bytes cell len is few b =
    let apart : bytes ≡ to_be_bytes w16 (length cell) ++ (cell ++ b.rest) = b.is ∙ append_assoc (to_be_bytes w16 (length cell)) cell b.rest in
    let size : len ≡ length cell = is ∙ ap (λ l. from_be_bytes w16 (take 2 l)) apart ∙ from_be_bytes-to_be_bytes_2 (length cell) b.short in
    omega (arith, few, size, ap (λ l. length (drop 2 l)) apart, length-append cell b.rest)

-- of more cells than are done there is a next one
pub record Next (rest : List ℕ) : Type 0 where
  pub cell : List ℕ
  pub begins : BeginsWithCell rest cell

pub next_cell : (done all : List (List ℕ)) (rest t : List ℕ) → length done < length all → length (cells_bytes done) ≤ 4080 → length (cells_bytes all) ≤ 4080 → cells_bytes done ++ rest ≡ cells_bytes all ++ t → Next rest
next_cell [] [] rest t less sd sa is = absurd (omega (arith, less))
next_cell [] (c ∷ cs) rest t less sd sa is = record { cell = c; begins = record { short = omega (arith, sa, length-cells c cs); rest = cells_bytes cs ++ t; is = is ∙ append_assoc (cell_bytes c) (cells_bytes cs) t } }
next_cell (d ∷ ds) [] rest t less sd sa is = absurd (omega (arith, less))
next_cell (d ∷ ds) (c ∷ cs) rest t less sd sa is =
    let ld = length-cells d ds in
    let lc = length-cells c cs in
    let apart : to_be_bytes w16 (length d) ++ (d ++ (cells_bytes ds ++ rest)) ≡ to_be_bytes w16 (length c) ++ (c ++ (cells_bytes cs ++ t)) = sym (parted_cells d ds rest) ∙ is ∙ parted_cells c cs t in
    let counts = two_same (length d) (length c) (d ++ (cells_bytes ds ++ rest)) (c ++ (cells_bytes cs ++ t)) (omega (arith, ld, sd)) (omega (arith, lc, sa)) apart in
    let first = append_same d c (cells_bytes ds ++ rest) (cells_bytes cs ++ t) counts.0 counts.1 in
    next_cell ds cs rest t (omega (arith, less)) (omega (arith, ld, sd)) (omega (arith, lc, sa)) first.1

-- ---- a page that is read

-- so many cells were read, and these bytes are left
pub record ReadsSoFar (page : List ℕ) (cells : List (List ℕ)) (rest : List ℕ) : Type 0 where
  pub is : drop 16 page ≡ cells_bytes cells ++ rest

pub reads_none : (page rest : List ℕ) → rest ≡ drop 16 page → ReadsSoFar page [] rest
reads_none page rest is = record { is = sym is }

pub reads_more : (page : List ℕ) (cells : List (List ℕ)) (rest cell more : List ℕ) → ReadsSoFar page cells rest → BeginsWithCell rest cell → more ≡ drop (2 + length cell) rest → ReadsSoFar page (cells ++ cell ∷ []) more
reads_more page cells rest cell more so_far b is =
    let left : more ≡ b.rest = is ∙ ap (drop (2 + length cell)) b.is ∙ ap (λ n. drop n (cell_bytes cell ++ b.rest)) (sym (length-cell cell)) ∙ drop-append_seam (cell_bytes cell) b.rest in
    record {
      is = so_far.is ∙ ap (λ l. cells_bytes cells ++ l) (b.is ∙ ap (λ l. cell_bytes cell ++ l) (sym left)) ∙ sym (append_assoc (cells_bytes cells) (cell_bytes cell) more)
          ∙ ap (λ l. l ++ more) (ap (λ l. cells_bytes cells ++ l) (sym (append-nil (cell_bytes cell))) ∙ sym (flat_map-append cell_bytes cells (cell ∷ [])));
    }

pub begins_long : (bytes cell : List ℕ) → BeginsWithCell bytes cell → 2 + length cell ≤ length bytes
begins_long bytes cell b = omega (arith, ap length b.is, length-append (cell_bytes cell) b.rest, length-cell cell)

size_read : (page : List ℕ) (cells : List (List ℕ)) (rest : List ℕ) → length page ≡ 4096 → ReadsSoFar page cells rest → length (cells_bytes cells) + length rest ≡ 4080
size_read page cells rest whole so_far = omega (arith, whole, ap length so_far.is, length-append (cells_bytes cells) rest, length-drop 16 page)

pub reads_all : (page : List ℕ) (cells : List (List ℕ)) (rest : List ℕ) (count : ℕ) → length page ≡ 4096 → ReadsSoFar page cells rest → take 16 page ≡ cells_front count → count ≡ length cells → IsCellPage page cells
reads_all page cells rest count whole so_far front is = record {
  front = front ∙ ap cells_front is;
  content = ap (take (length (cells_bytes cells))) so_far.is ∙ take-append_seam (cells_bytes cells) rest;
  fit = omega (arith, size_read page cells rest whole so_far);
  whole = whole;
}

-- the count that a page tells
pub one_count : (page : List ℕ) (m n : ℕ) → m < 2 ^ 16 → n < 2 ^ 16 → take 16 page ≡ cells_front m → take 16 page ≡ cells_front n → m ≡ n
one_count page m n hm hn a b =
    let fronts : to_be_bytes w16 m ++ replicate 12 0 ≡ to_be_bytes w16 n ++ replicate 12 0 = ap (drop 2) (sym a ∙ b) in
    (two_same m n (replicate 12 0) (replicate 12 0) hm hn fronts).0

pub few : (page : List ℕ) (cells : List (List ℕ)) → IsCellPage page cells → length cells < 2 ^ 16
few page cells is = omega (arith, few_cells cells, is.fit)

-- where no cell comes next, the page is no page of cells
pub reads_no_more : (page : List ℕ) (cells : List (List ℕ)) (rest : List ℕ) (count : ℕ) → length page ≡ 4096 → count < 2 ^ 16 → ReadsSoFar page cells rest → take 16 page ≡ cells_front count → length cells < count
    → ((cell : List ℕ) → BeginsWithCell rest cell → ⊥) → (all : List (List ℕ)) → IsCellPage page all → ⊥
reads_no_more page cells rest count whole fits so_far front less none all is =
    let same : count ≡ length all = one_count page count (length all) fits (few page all is) front is.front in
    let size = size_read page cells rest whole so_far in
    let behind : drop 16 page ≡ cells_bytes all ++ drop (length (cells_bytes all)) (drop 16 page) =
    sym (take-append-drop (length (cells_bytes all)) (drop 16 page)) ∙ ap (λ l. l ++ drop (length (cells_bytes all)) (drop 16 page)) is.content in
    let next = next_cell cells all rest (drop (length (cells_bytes all)) (drop 16 page)) (omega (arith, less, same)) (omega (arith, size)) (omega (arith, is.fit)) (sym so_far.is ∙ behind) in
    none next.cell next.begins

-- the count that stands in a page's front
pub told_count : (page : List ℕ) (n : ℕ) → n < 2 ^ 16 → take 16 page ≡ cells_front n → get_or page 2 0 * 256 + get_or page 3 0 ≡ n
told_count page n fits front =
    let high : get_or page 2 0 ≡ get_or (to_be_bytes w16 n) 0 0 = sym (get_or-take 16 page 2 0 (omega arith)) ∙ ap (λ l. get_or l 2 0) front in
    let low : get_or page 3 0 ≡ get_or (to_be_bytes w16 n) 1 0 = sym (get_or-take 16 page 3 0 (omega arith)) ∙ ap (λ l. get_or l 3 0) front in
    let whole : from_be_bytes w16 (to_be_bytes w16 n) ≡ n = from_be_bytes-to_be_bytes_2 n fits in
    omega (arith, high, low, whole)

-- two bytes as a number
pub two_read : (bytes : List ℕ) → 2 ≤ length bytes → from_be_bytes w16 (take 2 bytes) ≡ get_or bytes 0 0 * 256 + get_or bytes 1 0
two_read [] long = absurd (omega arith)
two_read (a ∷ []) long = absurd (omega arith)
two_read (a ∷ b ∷ rest) long = omega arith
