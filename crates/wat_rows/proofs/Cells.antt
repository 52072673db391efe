-- A row's cell tells its table and the row.
use Rattle.std.proofs.Common.{◌≡◌, ℕ, ◌+◌, ◌-◌, ◌*◌, ◌<◌, ◌≤◌, append-nil, ◌^◌, List, [], ◌∷◌, ◌++◌, length, take, drop, Option, Some, None, refl, sym, ap, ap₂, subst, ◌∙◌, arith, length-append}
use Rattle.std.specs.Prelude.{slice_index, unwrap_or}
use Rattle.std.specs.Int.{w32, to_be_bytes, from_be_bytes}
use Rattle.std.proofs.lemmas.List.{take_rest}
use Rattle.std.proofs.lemmas.Nat.{from_be_bytes-to_be_bytes_4}
use Rattle.wat_value.specs.declared.definition.TableDef.{TableDef}
use Rattle.wat_value.specs.Encoding.{row_bytes, IsEncodable}
use Rattle.wat_value.specs.Fits.{key_of}
use Rattle.wat_value.proofs.EncodingLemmas.{append_same, row_bytes-cancel}
use Rattle.wat_rows.specs.Rows.{Row, NamedRow, Defs, row_cell, cell_of, IsRowOf}

pub length-number : (n : ℕ) → length (to_be_bytes w32 n) ≡ 4
length-number n = refl

pub cell_same : (a b : ℕ) (r q : Row) → a < 2 ^ 32 → b < 2 ^ 32 → IsEncodable r → IsEncodable q → row_cell a r ≡ row_cell b q → (a ≡ b) × (r ≡ q)
cell_same a b r q ha hb hr hq e =
    let parts = append_same (to_be_bytes w32 a) (to_be_bytes w32 b) (row_bytes r) (row_bytes q) (length-number a ∙ sym (length-number b)) e in (
      sym (from_be_bytes-to_be_bytes_4 a ha) ∙ ap (from_be_bytes w32) parts.0 ∙ from_be_bytes-to_be_bytes_4 b hb,
      (row_bytes-cancel r q [] [] hr hq (ap (λ l. l ++ []) parts.1)).0,
    )

some_same : {A : Type 0} (a b : A) → Some a ≡ Some b → a ≡ b
some_same a b e = cc

-- one cell is that of one row alone
pub named_same : (defs : Defs) (a b : NamedRow) → IsRowOf defs a → IsRowOf defs b → cell_of a ≡ cell_of b → a ≡ b
named_same defs a b ha hb e =
    let s = cell_same a.name.table b.name.table a.row b.row ha.number hb.number ha.encodable hb.encodable e in
    let def : ha.def ≡ hb.def = some_same ha.def hb.def (sym ha.stands ∙ ap defs s.0 ∙ hb.stands) in
    let key : a.name.key ≡ b.name.key = ha.key ∙ ap₂ key_of def s.1 ∙ sym hb.key in
    λ i. record { name = record { table = s.0 i; key = key i }; row = s.1 i }

-- ---- a cell that is read

pub rest_is : (cell : List ℕ) (table : ℕ) (row : Row) → cell ≡ row_cell table row → take (length cell - 4) (drop 4 cell) ≡ row_bytes row
rest_is cell table row is = take_rest cell 4 ∙ ap (drop 4) is

pub decoded : (cell : List ℕ) (table : ℕ) (row : Row) (o : Option (Row × ℕ)) → ((r : Row) → IsEncodable r → (rest : List ℕ) → take (length cell - 4) (drop 4 cell) ≡ row_bytes r ++ rest → o ≡ Some (r, length (row_bytes r)))
    → IsEncodable row → cell ≡ row_cell table row → o ≡ Some (row, length (row_bytes row))
decoded cell table row o trip encodable is = trip row encodable [] (rest_is cell table row is ∙ sym (append-nil (row_bytes row)))

-- four bytes as a number
abbrev pub four : List ℕ → ℕ
four l = slice_index l 0 * 16777216 + (slice_index l 1 * 65536 + (slice_index l 2 * 256 + (slice_index l 3 * 1 + 0)))

four_read : (bytes : List ℕ) → 4 ≤ length bytes → from_be_bytes w32 (take 4 bytes) ≡ four bytes
four_read [] long = absurd (omega arith)
four_read (a ∷ []) long = absurd (omega arith)
four_read (a ∷ b ∷ []) long = absurd (omega arith)
four_read (a ∷ b ∷ c ∷ []) long = absurd (omega arith)
four_read (a ∷ b ∷ c ∷ d ∷ rest) long = omega arith

pub number_is : (cell : List ℕ) (table n : ℕ) (row : Row) → table < 2 ^ 32 → n ≡ four cell → cell ≡ row_cell table row → n ≡ table
number_is cell table n row small read is =
    read ∙ ap four is ∙ sym (four_read (row_cell table row) (omega (arith, length-append (to_be_bytes w32 table) (row_bytes row), length-number table))) ∙ from_be_bytes-to_be_bytes_4 table small

abbrev first_of : Row × ℕ → Row
first_of p = p.0

abbrev second_of : Row × ℕ → ℕ
second_of p = p.1

pub pair_is : (o : Option (Row × ℕ)) (a b : Row) (m n : ℕ) → o ≡ Some (a, m) → o ≡ Some (b, n) → (a ≡ b) × (m ≡ n)
pair_is o a b m n x y =
    let both : Some (a, m) ≡ Some (b, n) = sym x ∙ y in
    (ap (λ (v : Option (Row × ℕ)). first_of (unwrap_or v (b, n))) both, ap (λ (v : Option (Row × ℕ)). second_of (unwrap_or v (b, n))) both)

pub none_some : {A : Type 0} (o : Option A) (x : A) → o ≡ None → o ≡ Some x → ⊥
none_some o x a b = let no : None ≡ Some x = sym a ∙ b in cc
