-- What bytes that were read so far say of the things that they can begin with.
use Rattle.std.proofs.Common.{◌≡◌, ◌≢◌, ℕ, zero, suc, ◌-◌, ◌<◌, ◌≤◌, ◌||◌, ◌&&◌, ◌==◌, not, true, false, List, [], ◌∷◌, ◌++◌, length, take, drop, get_or, sym, ◌∙◌, ap, subst, arith, inl, inr, append_assoc, length-append}
use Rattle.std.specs.Prelude.{slice_index, nat_le as leb}
use Rattle.std.specs.List.{flat_map, AllByRecursion, list_all}
use Rattle.std.specs.Int.{is_in_range}
use Rattle.std.specs.Str.{IsUtf8, IsAscii}
use Rattle.std.specs.Char.{is_ascii_alphanumeric}
use Rattle.std.proofs.lemmas.Bool.{and_parts, or_cases, leb-true, eqb-true}
use Rattle.std.proofs.lemmas.List.{take-append-drop, length-take-le, get_or-take, get_or_past, length-take, take_at}
use Rattle.std.proofs.lemmas.Bool.{cases_lt}
use Rattle.std.proofs.lemmas.Nat.{be_bytes_4}
use Rattle.std.proofs.lemmas.Str.{IsUtf8-from_ascii}
use Rattle.byteorder.specs.Endian.{big_number}
use Rattle.byteorder.specs.Numbers.{big_from-take, big_from-lt}
use Rattle.wat_word.specs.Words.{is_word, is_word_byte, is_lower, is_reserved, is_name, begins_word}
use Rattle.wat_value.specs.Encoding.{count_bytes, row_bytes, IsEncodable}
use Rattle.wat_value.proofs.EncodingLemmas.{tail_same}
use Rattle.wat_value.proofs.DecodingLemmas.{count_bytes-of, no_count}
use Rattle.wat_value.specs.declared.definition.Kind.{Kind}
use Rattle.wat_value.specs.declared.definition.Kind.TheVariants.{Integer, Char, Varchar}
use Rattle.wat_value.specs.declared.definition.Column.{Column}
use Rattle.wat_value.specs.declared.change.Change.{Change}
use Rattle.wat_value.specs.declared.change.Change.TheVariants.{Insert, Update, Delete}
use Rattle.wat_log_record.specs.declared.log_record.LogRecord.{LogRecord}
use Rattle.wat_log_record.specs.declared.log_record.LogRecord.TheVariants.{Changed, UndoTo, Commit, Rollback, Schema}
use Rattle.wat_log_record.specs.Encoding
use Rattle.wat_log_record.specs.Reading.{Begins, BeginsNone, AreColumns}
use Rattle.wat_log_record.proofs.Parts.{pair, Both, no_first, no_second, stuck, tag_same}
use Rattle.wat_log_record.proofs.Cancelling.{Any, Row, counts, numbers, names, ordinals, kinds, columns, all_columns, rows, records, length-number_bytes, byte, IsOrdinal, bytes_cancel}
use Rattle.wat_log_record.proofs.Cancelling.{columns_and_key, AreColumnsAndKey, behind_number, AreBehindNumber, name_and_numbers, AreNameAndNumbers, behind_ordinal, AreBehindOrdinal}

abbrev pub AreBytes : List ℕ → Type 0
AreBytes xs = (i : ℕ) → get_or xs i 0 < 256

bytes_front : (n : ℕ) (xs : List ℕ) → AreBytes xs → AreBytes (take n xs)
bytes_front n xs bytes i = elim (cases_lt i n) [
  | inl front ↦ rw (get_or-take n xs i 0 front) (bytes i)
  | inr past ↦
      let none : get_or (take n xs) i 0 ≡ 0 = get_or_past (take n xs) i 0 (omega (arith, length-take n xs)) in
      omega (arith, none)
]

-- ---- numbers

pub count_begins : (bytes : List ℕ) → 2 ≤ length bytes → AreBytes bytes → Begins count_bytes Encoding.IsCount bytes (big_number 2 bytes) (drop 2 bytes)
count_begins bytes long small = record {
  spelled = sym (take-append-drop 2 bytes) ∙ ap (λ f. f ++ drop 2 bytes) (sym (count_bytes-of bytes long small));
  can = big_from-lt 0 2 bytes small;
}

pub no_count_in : (bytes : List ℕ) → length bytes < 2 → BeginsNone count_bytes Encoding.IsCount bytes
no_count_in bytes short n small rest is = no_count bytes rest n short is

number_of : (xs : List ℕ) → 4 ≤ length xs → AreBytes xs → Encoding.number_bytes (big_number 4 xs) ≡ take 4 xs
unfolding Encoding.number_bytes
number_of xs long bytes =
    be_bytes_4 (take 4 xs) (big_number 4 xs) (length-take-le 4 xs long) (bytes_front 4 xs bytes) (sym (big_from-take 0 4 4 xs (omega arith)) ∙ omega arith)

pub number_begins : (bytes : List ℕ) → 4 ≤ length bytes → AreBytes bytes → Begins Encoding.number_bytes Encoding.IsNumber bytes (big_number 4 bytes) (drop 4 bytes)
number_begins bytes long small = record {
  spelled = sym (take-append-drop 4 bytes) ∙ ap (λ f. f ++ drop 4 bytes) (sym (number_of bytes long small));
  can = big_from-lt 0 4 bytes small;
}

pub no_number_in : (bytes : List ℕ) → length bytes < 4 → BeginsNone Encoding.number_bytes Encoding.IsNumber bytes
no_number_in bytes short n small rest is = omega (arith, ap length is, length-append (Encoding.number_bytes n) rest, length-number_bytes n)

-- ---- bytes behind their number, and names

in_range : (lo hi b : ℕ) → is_in_range lo hi b ≡ true → b ≤ hi
in_range lo hi b h = leb-true b hi (and_parts (leb lo b) (leb b hi) h).1

word_byte : (b : ℕ) → is_word_byte b ≡ true → b < 128
word_byte b h = elim (or_cases (is_ascii_alphanumeric b) (b == 95) h) [
  | inl letter ↦ elim (or_cases (is_in_range 48 57 b || is_in_range 65 90 b) (is_in_range 97 122 b) letter) [
    | inl front ↦ elim (or_cases (is_in_range 48 57 b) (is_in_range 65 90 b) front) [
      | inl digit ↦ omega (arith, in_range 48 57 b digit)
      | inr capital ↦ omega (arith, in_range 65 90 b capital)
    ]
    | inr small ↦ omega (arith, in_range 97 122 b small)
  ]
  | inr dash ↦ omega (arith, eqb-true b 95 dash)
]

word_is_ascii : (t : List ℕ) → list_all is_word_byte t ≡ true → IsAscii t
word_is_ascii [] h i = omega arith
word_is_ascii (b ∷ t) h zero = word_byte b (and_parts (is_word_byte b) (list_all is_word_byte t) h).0
word_is_ascii (b ∷ t) h (suc i) = word_is_ascii t (and_parts (is_word_byte b) (list_all is_word_byte t) h).1 i

pub record NameFacts (t : List ℕ) : Type 0 where
  pub few : length t < 256
  pub utf8 : IsUtf8 t

-- a name is at most 128 bytes of ASCII
pub name_facts : (t : List ℕ) → Encoding.IsName t → NameFacts t
name_facts t name =
    let word = (and_parts (is_word t) (is_lower t) (and_parts (is_word t && is_lower t) (not (is_reserved t)) name).0).0 in
    let parts = and_parts (leb (length t) 128 && begins_word (slice_index t 0)) (list_all is_word_byte t) word in
    let short = leb-true (length t) 128 (and_parts (leb (length t) 128) (begins_word (slice_index t 0)) parts.0).0 in
    record { few = omega arith; utf8 = IsUtf8-from_ascii t (word_is_ascii t parts.1) }

-- the bytes behind their number are no name
pub no_name_of : (bytes text rest : List ℕ) → Begins Encoding.counted_bytes Encoding.AreFew bytes text rest → (Encoding.IsName text → ⊥) → BeginsNone Encoding.counted_bytes Encoding.IsName bytes
no_name_of bytes text rest b bad x name more is =
    let same = ordinals text x rest more b.can (name_facts x name).few (sym b.spelled ∙ is) in
    bad (subst Encoding.IsName (sym same.0) name)

pub not_utf8 : (text : List ℕ) → (IsUtf8 text → ⊥) → Encoding.IsName text → ⊥
not_utf8 text bad name = bad (name_facts text name).utf8

pub not_name : (text : List ℕ) → is_name text ≡ false → Encoding.IsName text → ⊥
not_name text isnt name = let bad : true ≡ false = sym name ∙ isnt in cc

-- ---- kinds and flags

-- an integer column has no length
pub no_kind_long : (bytes mid back : List ℕ) (tag most : ℕ) → bytes ≡ tag ∷ mid → tag ≡ 1 → Begins count_bytes Encoding.IsCount mid most back → most ≢ 0 → BeginsNone Encoding.kind_bytes Encoding.IsEncodableKind bytes
no_kind_long bytes mid back tag most is one b long Integer can rest e =
    long (counts most 0 back rest b.can (omega arith) (sym b.spelled ∙ tail_same tag 1 mid (count_bytes 0 ++ rest) (sym is ∙ e))).0
no_kind_long bytes mid back tag most is one b long (Char n) can rest e = omega (arith, one, tag_same tag 2 mid (count_bytes n ++ rest) (sym is ∙ e))
no_kind_long bytes mid back tag most is one b long (Varchar n) can rest e = omega (arith, one, tag_same tag 3 mid (count_bytes n ++ rest) (sym is ∙ e))

-- ---- columns

no_column : (bytes : List ℕ) → BeginsNone (pair Encoding.counted_bytes (pair Encoding.kind_bytes Encoding.flag_bytes)) (Both Encoding.IsName (Both Encoding.IsEncodableKind Any)) bytes → BeginsNone Encoding.column_bytes Encoding.IsEncodableColumn bytes
no_column bytes none x can rest is = none (x.name, (x.kind, x.nullable)) (can.name, (can.kind, tt)) rest is

pub no_column_kind : (bytes r name : List ℕ) → Begins Encoding.counted_bytes Encoding.IsName bytes name r → BeginsNone Encoding.kind_bytes Encoding.IsEncodableKind r → BeginsNone Encoding.column_bytes Encoding.IsEncodableColumn bytes
no_column_kind bytes r name a none =
    no_column bytes (no_second Encoding.counted_bytes (pair Encoding.kind_bytes Encoding.flag_bytes) Encoding.IsName (Both Encoding.IsEncodableKind Any) names bytes name r a
    (no_first Encoding.kind_bytes Encoding.flag_bytes Encoding.IsEncodableKind Any r none))

pub no_column_flag : (bytes r s name : List ℕ) (kind : Kind) → Begins Encoding.counted_bytes Encoding.IsName bytes name r → Begins Encoding.kind_bytes Encoding.IsEncodableKind r kind s
    → BeginsNone Encoding.flag_bytes Any s → BeginsNone Encoding.column_bytes Encoding.IsEncodableColumn bytes
no_column_flag bytes r s name kind a b none =
    no_column bytes (no_second Encoding.counted_bytes (pair Encoding.kind_bytes Encoding.flag_bytes) Encoding.IsName (Both Encoding.IsEncodableKind Any) names bytes name r a
    (no_second Encoding.kind_bytes Encoding.flag_bytes Encoding.IsEncodableKind Any kinds r kind s b none))

-- no column comes where another is wanted
pub no_columns : (bytes d : List ℕ) (xs : List Column) (count : ℕ) → bytes ≡ flat_map Encoding.column_bytes xs ++ d → AllByRecursion Encoding.IsEncodableColumn xs → length xs < count
    → BeginsNone Encoding.column_bytes Encoding.IsEncodableColumn d → BeginsNone (flat_map Encoding.column_bytes) (AreColumns count) bytes
no_columns bytes d xs count is can few none ys all rest e =
    stuck Encoding.column_bytes Encoding.IsEncodableColumn columns xs ys d rest can all.each (omega (arith, few, all.many)) (sym is ∙ e) none

-- ---- tables

no_table : (bytes : List ℕ) → BeginsNone (pair Encoding.number_bytes behind_number) (Both Encoding.IsNumber AreBehindNumber) bytes → BeginsNone Encoding.table_bytes Encoding.IsEncodableTable bytes
no_table bytes none x can rest is = none (x.number, (x.name, (x.columns, x.key))) (can.number, (can.name, (can.columns, can.key))) rest is

pub no_table_name : (bytes r : List ℕ) (number : ℕ) → Begins Encoding.number_bytes Encoding.IsNumber bytes number r → BeginsNone Encoding.counted_bytes Encoding.IsName r → BeginsNone Encoding.table_bytes Encoding.IsEncodableTable bytes
no_table_name bytes r number a none =
    no_table bytes (no_second Encoding.number_bytes behind_number Encoding.IsNumber AreBehindNumber numbers bytes number r a
    (no_first Encoding.counted_bytes columns_and_key Encoding.IsName AreColumnsAndKey r none))

pub no_table_columns : (bytes r s name : List ℕ) (number : ℕ) → Begins Encoding.number_bytes Encoding.IsNumber bytes number r → Begins Encoding.counted_bytes Encoding.IsName r name s
    → BeginsNone Encoding.columns_bytes Encoding.AreEncodableColumns s → BeginsNone Encoding.table_bytes Encoding.IsEncodableTable bytes
no_table_columns bytes r s name number a b none =
    no_table bytes (no_second Encoding.number_bytes behind_number Encoding.IsNumber AreBehindNumber numbers bytes number r a
    (no_second Encoding.counted_bytes columns_and_key Encoding.IsName AreColumnsAndKey names r name s b
    (no_first Encoding.columns_bytes Encoding.counted_bytes Encoding.AreEncodableColumns Encoding.AreFew s none)))

pub no_table_key : (bytes r s t name : List ℕ) (number : ℕ) (xs : List Column) → Begins Encoding.number_bytes Encoding.IsNumber bytes number r → Begins Encoding.counted_bytes Encoding.IsName r name s
    → Begins Encoding.columns_bytes Encoding.AreEncodableColumns s xs t → BeginsNone Encoding.counted_bytes Encoding.AreFew t → BeginsNone Encoding.table_bytes Encoding.IsEncodableTable bytes
no_table_key bytes r s t name number xs a b c none =
    no_table bytes (no_second Encoding.number_bytes behind_number Encoding.IsNumber AreBehindNumber numbers bytes number r a
    (no_second Encoding.counted_bytes columns_and_key Encoding.IsName AreColumnsAndKey names r name s b
    (no_second Encoding.columns_bytes Encoding.counted_bytes Encoding.AreEncodableColumns Encoding.AreFew all_columns s xs t c none)))

-- ---- indexes

pub ordinal_begins : (bytes rest : List ℕ) (number : ℕ) → bytes ≡ number ∷ rest → number ≢ 0 → Begins byte IsOrdinal bytes number rest
ordinal_begins bytes rest number is some = record { spelled = is; can = omega arith }

no_index : (bytes : List ℕ) → BeginsNone (pair byte behind_ordinal) (Both IsOrdinal AreBehindOrdinal) bytes → BeginsNone Encoding.index_bytes Encoding.IsEncodableIndex bytes
no_index bytes none x can rest is = none (x.number, (x.table, (x.name, x.columns))) (can.number, (can.table, (can.name, can.columns))) rest is

pub no_index_name : (bytes r s : List ℕ) (number table : ℕ) → Begins byte IsOrdinal bytes number r → Begins Encoding.number_bytes Encoding.IsNumber r table s
    → BeginsNone Encoding.counted_bytes Encoding.IsName s → BeginsNone Encoding.index_bytes Encoding.IsEncodableIndex bytes
no_index_name bytes r s number table a b none =
    no_index bytes (no_second byte behind_ordinal IsOrdinal AreBehindOrdinal bytes_cancel bytes number r a
    (no_second Encoding.number_bytes name_and_numbers Encoding.IsNumber AreNameAndNumbers numbers r table s b
    (no_first Encoding.counted_bytes Encoding.counted_bytes Encoding.IsName Encoding.AreFew s none)))

pub no_index_columns : (bytes r s t name : List ℕ) (number table : ℕ) → Begins byte IsOrdinal bytes number r → Begins Encoding.number_bytes Encoding.IsNumber r table s
    → Begins Encoding.counted_bytes Encoding.IsName s name t → BeginsNone Encoding.counted_bytes Encoding.AreFew t → BeginsNone Encoding.index_bytes Encoding.IsEncodableIndex bytes
no_index_columns bytes r s t name number table a b c none =
    no_index bytes (no_second byte behind_ordinal IsOrdinal AreBehindOrdinal bytes_cancel bytes number r a
    (no_second Encoding.number_bytes name_and_numbers Encoding.IsNumber AreNameAndNumbers numbers r table s b
    (no_second Encoding.counted_bytes Encoding.counted_bytes Encoding.IsName Encoding.AreFew names s name t c none)))

-- ---- rows and changes

-- what stands behind the tag of each change
record Behind (mid : List ℕ) (change : Change) (rest : List ℕ) : Type 0 where
  table : ℕ
  first : Row
  back : List ℕ
  parts : mid ≡ Encoding.number_bytes table ++ (row_bytes first ++ back)
  small : Encoding.IsNumber table
  can : IsEncodable first

behind_of : (mid : List ℕ) (tag : ℕ) (bytes : List ℕ) (change : Change) (rest : List ℕ) → bytes ≡ tag ∷ mid → Encoding.IsEncodableChange change → bytes ≡ Encoding.change_bytes change ++ rest → Behind mid change rest
behind_of mid tag bytes (Insert n row) rest is can e = record {
  table = n;
  first = row;
  back = rest;
  small = can.0;
  can = can.1;
  parts = tail_same tag 1 mid ((Encoding.number_bytes n ++ row_bytes row) ++ rest) (sym is ∙ e) ∙ append_assoc (Encoding.number_bytes n) (row_bytes row) rest;
}
behind_of mid tag bytes (Delete n row) rest is can e = record {
  table = n;
  first = row;
  back = rest;
  small = can.0;
  can = can.1;
  parts = tail_same tag 3 mid ((Encoding.number_bytes n ++ row_bytes row) ++ rest) (sym is ∙ e) ∙ append_assoc (Encoding.number_bytes n) (row_bytes row) rest;
}
behind_of mid tag bytes (Update n row to) rest is can e = record {
  table = n;
  first = row;
  back = row_bytes to ++ rest;
  small = can.0;
  can = can.1.0;
  parts = tail_same tag 2 mid ((Encoding.number_bytes n ++ (row_bytes row ++ row_bytes to)) ++ rest) (sym is ∙ e) ∙ append_assoc (Encoding.number_bytes n) (row_bytes row ++ row_bytes to) rest
      ∙ ap (λ bs. Encoding.number_bytes n ++ bs) (append_assoc (row_bytes row) (row_bytes to) rest);
}

pub no_change_row : (bytes mid r : List ℕ) (tag table : ℕ) → bytes ≡ tag ∷ mid → Begins Encoding.number_bytes Encoding.IsNumber mid table r → BeginsNone row_bytes IsEncodable r → BeginsNone Encoding.change_bytes Encoding.IsEncodableChange bytes
no_change_row bytes mid r tag table is a none change can rest e =
    let b = behind_of mid tag bytes change rest is can e in
    let same = numbers table b.table r (row_bytes b.first ++ b.back) a.can b.small (sym a.spelled ∙ b.parts) in
    none b.first b.can b.back same.1

-- an update with no second row
pub no_update : (bytes mid r s : List ℕ) (tag table : ℕ) (row : Row) → bytes ≡ tag ∷ mid → tag ≡ 2 → Begins Encoding.number_bytes Encoding.IsNumber mid table r → Begins row_bytes IsEncodable r row s
    → BeginsNone row_bytes IsEncodable s → BeginsNone Encoding.change_bytes Encoding.IsEncodableChange bytes
no_update bytes mid r s tag table row is two a b none (Insert n q) can rest e = omega (arith, two, tag_same tag 1 mid ((Encoding.number_bytes n ++ row_bytes q) ++ rest) (sym is ∙ e))
no_update bytes mid r s tag table row is two a b none (Delete n q) can rest e = omega (arith, two, tag_same tag 3 mid ((Encoding.number_bytes n ++ row_bytes q) ++ rest) (sym is ∙ e))
no_update bytes mid r s tag table row is two a b none (Update n q to) can rest e =
    let parts = tail_same tag 2 mid ((Encoding.number_bytes n ++ (row_bytes q ++ row_bytes to)) ++ rest) (sym is ∙ e) ∙ append_assoc (Encoding.number_bytes n) (row_bytes q ++ row_bytes to) rest in
    let first = numbers table n r ((row_bytes q ++ row_bytes to) ++ rest) a.can can.0 (sym a.spelled ∙ parts) in
    let second = rows row q s (row_bytes to ++ rest) b.can can.1.0 (sym b.spelled ∙ first.1 ∙ append_assoc (row_bytes q) (row_bytes to) rest) in
    none to can.1.1 rest second.1

-- ---- records

pub no_changed : (bytes mid r : List ℕ) (tag conn : ℕ) → bytes ≡ tag ∷ mid → tag ≡ 1 → Begins count_bytes Encoding.IsCount mid conn r → BeginsNone Encoding.change_bytes Encoding.IsEncodableChange r
    → BeginsNone Encoding.record_bytes Encoding.IsEncodableRecord bytes
no_changed bytes mid r tag conn is one a none (Changed n change) can rest e =
    no_second count_bytes Encoding.change_bytes Encoding.IsCount Encoding.IsEncodableChange counts mid conn r a none (n, change) can rest (tail_same tag 1 mid ((count_bytes n ++ Encoding.change_bytes change) ++ rest) (sym is ∙ e))
no_changed bytes mid r tag conn is one a none (UndoTo n count) can rest e = omega (arith, one, tag_same tag 2 mid ((count_bytes n ++ Encoding.number_bytes count) ++ rest) (sym is ∙ e))
no_changed bytes mid r tag conn is one a none (Commit n) can rest e = omega (arith, one, tag_same tag 3 mid (count_bytes n ++ rest) (sym is ∙ e))
no_changed bytes mid r tag conn is one a none (Rollback n) can rest e = omega (arith, one, tag_same tag 4 mid (count_bytes n ++ rest) (sym is ∙ e))
no_changed bytes mid r tag conn is one a none (Schema change) can rest e = omega (arith, one, tag_same tag 5 mid (Encoding.schema_bytes change ++ rest) (sym is ∙ e))

pub no_undo_to : (bytes mid r : List ℕ) (tag conn : ℕ) → bytes ≡ tag ∷ mid → tag ≡ 2 → Begins count_bytes Encoding.IsCount mid conn r → BeginsNone Encoding.number_bytes Encoding.IsNumber r
    → BeginsNone Encoding.record_bytes Encoding.IsEncodableRecord bytes
no_undo_to bytes mid r tag conn is two a none (UndoTo n count) can rest e =
    no_second count_bytes Encoding.number_bytes Encoding.IsCount Encoding.IsNumber counts mid conn r a none (n, count) can rest (tail_same tag 2 mid ((count_bytes n ++ Encoding.number_bytes count) ++ rest) (sym is ∙ e))
no_undo_to bytes mid r tag conn is two a none (Changed n change) can rest e = omega (arith, two, tag_same tag 1 mid ((count_bytes n ++ Encoding.change_bytes change) ++ rest) (sym is ∙ e))
no_undo_to bytes mid r tag conn is two a none (Commit n) can rest e = omega (arith, two, tag_same tag 3 mid (count_bytes n ++ rest) (sym is ∙ e))
no_undo_to bytes mid r tag conn is two a none (Rollback n) can rest e = omega (arith, two, tag_same tag 4 mid (count_bytes n ++ rest) (sym is ∙ e))
no_undo_to bytes mid r tag conn is two a none (Schema change) can rest e = omega (arith, two, tag_same tag 5 mid (Encoding.schema_bytes change ++ rest) (sym is ∙ e))

-- ---- the whole

-- the bytes of a record are so many as the rest leaves
pub record_spelled : (bytes rest : List ℕ) (entry : LogRecord) → Begins Encoding.record_bytes Encoding.IsEncodableRecord bytes entry rest → Encoding.SpellsRecord bytes entry (length bytes - length rest)
record_spelled bytes rest entry b =
    let len : length (Encoding.record_bytes entry) ≡ length bytes - length rest = omega (arith, ap length b.spelled, length-append (Encoding.record_bytes entry) rest) in
    record {
      within = omega arith;
      spelled = ap (take (length bytes - length rest)) b.spelled ∙ take_at (Encoding.record_bytes entry) rest (length bytes - length rest) len;
      encodable = b.can;
    }

-- bytes that begin with a record's bytes spell that record and no other
pub once : (bytes : List ℕ) (entry other : LogRecord) (rest : List ℕ) (n : ℕ) → Encoding.IsEncodableRecord entry → bytes ≡ Encoding.record_bytes entry ++ rest → Encoding.SpellsRecord bytes other n
    → (other ≡ entry) × (n ≡ length (Encoding.record_bytes entry))
once bytes entry other rest n can is s =
    let same = records other entry (drop n bytes) rest s.encodable can (ap (λ f. f ++ drop n bytes) (sym s.spelled) ∙ take-append-drop n bytes ∙ is) in
    let len : length (take n bytes) ≡ n = length-take-le n bytes s.within in
    (same.0, sym len ∙ ap length s.spelled ∙ ap (λ r. length (Encoding.record_bytes r)) same.0)
