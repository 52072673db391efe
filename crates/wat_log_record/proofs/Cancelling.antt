-- No record's bytes begin another's, so bytes spell records in one way only.
use Rattle.std.proofs.Common.{◌≡◌, ℕ, ◌<◌, ◌≤◌, ◌^◌, true, false, List, [], ◌∷◌, ◌++◌, length, refl, sym, ◌∙◌, ap, ap₂, arith}
use Rattle.std.specs.List.{flat_map, AllByRecursion}
use Rattle.std.specs.Int.{w32, from_be_bytes}
use Rattle.std.proofs.lemmas.Nat.{from_be_bytes-to_be_bytes_4}
use Rattle.wat_value.specs.declared.value.Value.{Value}
use Rattle.wat_value.specs.declared.value.Value.TheVariants.{Null, Int, Text}
use Rattle.wat_value.specs.Encoding.{count_bytes, row_bytes, IsEncodable, IsEncodableValue, IsShort, IsShortValue}
use Rattle.wat_value.proofs.EncodingLemmas.{append_same, other_tag, tail_same, count_bytes-cancel, row_bytes-cancel}
use Rattle.wat_value.specs.declared.definition.Kind.TheVariants.{Integer, Char, Varchar}
use Rattle.wat_value.specs.declared.definition.Column.{Column}
use Rattle.wat_value.specs.declared.change.Change.TheVariants.{Insert, Update, Delete}
use Rattle.wat_value.specs.declared.change.SchemaChange.TheVariants.{CreateTable, DropTable, CreateIndex}
use Rattle.wat_log_record.specs.declared.log_record.LogRecord.{LogRecord}
use Rattle.wat_log_record.specs.declared.log_record.LogRecord.TheVariants.{Changed, UndoTo, Commit, Rollback, Schema}
use Rattle.wat_log_record.specs.Encoding
use Rattle.wat_log_record.specs.Bodies.{SpellsRecords, SpellsLog}
use Rattle.wat_log_record.proofs.Parts.{Cancels, pair, Both, pair_cancels, items_cancel, tag_same}

-- ---- the parts

pub counts : Cancels count_bytes Encoding.IsCount
counts a b s t pa pb e = count_bytes-cancel a b s t pa pb e

pub length-number_bytes : (n : ℕ) → length (Encoding.number_bytes n) ≡ 4
unfolding Encoding.number_bytes
length-number_bytes n = refl

number_back : (n : ℕ) → n < 2 ^ 32 → from_be_bytes w32 (Encoding.number_bytes n) ≡ n
unfolding Encoding.number_bytes
number_back n small = from_be_bytes-to_be_bytes_4 n small

pub numbers : Cancels Encoding.number_bytes Encoding.IsNumber
numbers a b s t pa pb e =
    let same = append_same (Encoding.number_bytes a) (Encoding.number_bytes b) s t (length-number_bytes a ∙ sym (length-number_bytes b)) e in
    (sym (number_back a pa) ∙ ap (from_be_bytes w32) same.0 ∙ number_back b pb, same.1)

-- bytes behind their number
counted : (a b s t : List ℕ) → Encoding.counted_bytes a ++ s ≡ Encoding.counted_bytes b ++ t → (a ≡ b) × (s ≡ t)
counted a b s t e = append_same a b s t (tag_same (length a) (length b) (a ++ s) (b ++ t) e) (tail_same (length a) (length b) (a ++ s) (b ++ t) e)

pub names : Cancels Encoding.counted_bytes Encoding.IsName
names a b s t pa pb e = counted a b s t e

pub ordinals : Cancels Encoding.counted_bytes Encoding.AreFew
ordinals a b s t pa pb e = counted a b s t e

pub kinds : Cancels Encoding.kind_bytes Encoding.IsEncodableKind
kinds Integer Integer s t pa pb e = (refl, (append_same (count_bytes 0) (count_bytes 0) s t refl (tail_same 1 1 (count_bytes 0 ++ s) (count_bytes 0 ++ t) e)).1)
kinds Integer (Char n) s t pa pb e = other_tag 1 2 (count_bytes 0 ++ s) (count_bytes n ++ t) (λ h. omega arith) e
kinds Integer (Varchar n) s t pa pb e = other_tag 1 3 (count_bytes 0 ++ s) (count_bytes n ++ t) (λ h. omega arith) e
kinds (Char m) Integer s t pa pb e = other_tag 2 1 (count_bytes m ++ s) (count_bytes 0 ++ t) (λ h. omega arith) e
kinds (Char m) (Char n) s t pa pb e = let same = counts m n s t pa pb (tail_same 2 2 (count_bytes m ++ s) (count_bytes n ++ t) e) in (ap Char same.0, same.1)
kinds (Char m) (Varchar n) s t pa pb e = other_tag 2 3 (count_bytes m ++ s) (count_bytes n ++ t) (λ h. omega arith) e
kinds (Varchar m) Integer s t pa pb e = other_tag 3 1 (count_bytes m ++ s) (count_bytes 0 ++ t) (λ h. omega arith) e
kinds (Varchar m) (Char n) s t pa pb e = other_tag 3 2 (count_bytes m ++ s) (count_bytes n ++ t) (λ h. omega arith) e
kinds (Varchar m) (Varchar n) s t pa pb e = let same = counts m n s t pa pb (tail_same 3 3 (count_bytes m ++ s) (count_bytes n ++ t) e) in (ap Varchar same.0, same.1)

abbrev pub Any : {X : Type 0} → X → Type 0
Any x = Unit {0}

pub flags : Cancels Encoding.flag_bytes Any
flags true true s t pa pb e = (refl, tail_same 1 1 s t e)
flags true false s t pa pb e = other_tag 1 0 s t (λ h. omega arith) e
flags false true s t pa pb e = other_tag 0 1 s t (λ h. omega arith) e
flags false false s t pa pb e = (refl, tail_same 0 0 s t e)

kinds_and_flags : Cancels (pair Encoding.kind_bytes Encoding.flag_bytes) (Both Encoding.IsEncodableKind Any)
kinds_and_flags = pair_cancels Encoding.kind_bytes Encoding.flag_bytes Encoding.IsEncodableKind Any kinds flags

pub columns : Cancels Encoding.column_bytes Encoding.IsEncodableColumn
columns a b s t pa pb e =
    let same = pair_cancels Encoding.counted_bytes (pair Encoding.kind_bytes Encoding.flag_bytes) Encoding.IsName (Both Encoding.IsEncodableKind Any) names kinds_and_flags
    (a.name, (a.kind, a.nullable)) (b.name, (b.kind, b.nullable)) s t (pa.name, (pa.kind, tt)) (pb.name, (pb.kind, tt)) e in
    ((λ i. record { name = (same.0 i).0; kind = (same.0 i).1.0; nullable = (same.0 i).1.1 }), same.1)

pub all_columns : Cancels Encoding.columns_bytes Encoding.AreEncodableColumns
all_columns a b s t pa pb e =
    items_cancel Encoding.column_bytes Encoding.IsEncodableColumn columns a b s t pa.each pb.each
    (tag_same (length a) (length b) (flat_map Encoding.column_bytes a ++ s) (flat_map Encoding.column_bytes b ++ t) e)
    (tail_same (length a) (length b) (flat_map Encoding.column_bytes a ++ s) (flat_map Encoding.column_bytes b ++ t) e)

abbrev pub columns_and_key : List Column × List ℕ → List ℕ
columns_and_key = pair Encoding.columns_bytes Encoding.counted_bytes

abbrev pub AreColumnsAndKey : List Column × List ℕ → Type 0
AreColumnsAndKey = Both Encoding.AreEncodableColumns Encoding.AreFew

abbrev pub behind_number : List ℕ × (List Column × List ℕ) → List ℕ
behind_number = pair Encoding.counted_bytes columns_and_key

abbrev pub AreBehindNumber : List ℕ × (List Column × List ℕ) → Type 0
AreBehindNumber = Both Encoding.IsName AreColumnsAndKey

pub columns_and_keys : Cancels columns_and_key AreColumnsAndKey
columns_and_keys = pair_cancels Encoding.columns_bytes Encoding.counted_bytes Encoding.AreEncodableColumns Encoding.AreFew all_columns ordinals

pub behind_numbers : Cancels behind_number AreBehindNumber
behind_numbers = pair_cancels Encoding.counted_bytes columns_and_key Encoding.IsName AreColumnsAndKey names columns_and_keys

pub tables : Cancels Encoding.table_bytes Encoding.IsEncodableTable
tables a b s t pa pb e =
    let same = pair_cancels Encoding.number_bytes behind_number Encoding.IsNumber AreBehindNumber numbers behind_numbers
    (a.number, (a.name, (a.columns, a.key))) (b.number, (b.name, (b.columns, b.key))) s t
    (pa.number, (pa.name, (pa.columns, pa.key))) (pb.number, (pb.name, (pb.columns, pb.key))) e in
    ((λ i. record { number = (same.0 i).0; name = (same.0 i).1.0; columns = (same.0 i).1.1.0; key = (same.0 i).1.1.1 }), same.1)

-- an index as its parts
abbrev pub byte : ℕ → List ℕ
byte n = n ∷ []

abbrev pub IsOrdinal : ℕ → Type 0
IsOrdinal n = 1 ≤ n

pub bytes_cancel : Cancels byte IsOrdinal
bytes_cancel a b s t pa pb e = (tag_same a b s t e, tail_same a b s t e)

abbrev pub name_and_numbers : List ℕ × List ℕ → List ℕ
name_and_numbers = pair Encoding.counted_bytes Encoding.counted_bytes

abbrev pub AreNameAndNumbers : List ℕ × List ℕ → Type 0
AreNameAndNumbers = Both Encoding.IsName Encoding.AreFew

abbrev pub behind_ordinal : ℕ × (List ℕ × List ℕ) → List ℕ
behind_ordinal = pair Encoding.number_bytes name_and_numbers

abbrev pub AreBehindOrdinal : ℕ × (List ℕ × List ℕ) → Type 0
AreBehindOrdinal = Both Encoding.IsNumber AreNameAndNumbers

pub names_and_numbers : Cancels name_and_numbers AreNameAndNumbers
names_and_numbers = pair_cancels Encoding.counted_bytes Encoding.counted_bytes Encoding.IsName Encoding.AreFew names ordinals

pub behind_ordinals : Cancels behind_ordinal AreBehindOrdinal
behind_ordinals = pair_cancels Encoding.number_bytes name_and_numbers Encoding.IsNumber AreNameAndNumbers numbers names_and_numbers

pub indexes : Cancels Encoding.index_bytes Encoding.IsEncodableIndex
indexes a b s t pa pb e =
    let same = pair_cancels byte behind_ordinal IsOrdinal AreBehindOrdinal bytes_cancel behind_ordinals
    (a.number, (a.table, (a.name, a.columns))) (b.number, (b.table, (b.name, b.columns))) s t
    (pa.number, (pa.table, (pa.name, pa.columns))) (pb.number, (pb.table, (pb.name, pb.columns))) e in
    ((λ i. record { number = (same.0 i).0; table = (same.0 i).1.0; name = (same.0 i).1.1.0; columns = (same.0 i).1.1.1 }), same.1)

-- ---- changes

abbrev pub Row : Type 0
Row = List Value

pub rows : Cancels row_bytes IsEncodable
rows = row_bytes-cancel

abbrev pub table_and_row : ℕ × Row → List ℕ
table_and_row = pair Encoding.number_bytes row_bytes

abbrev pub AreTableAndRow : ℕ × Row → Type 0
AreTableAndRow = Both Encoding.IsNumber IsEncodable

pub tables_and_rows : Cancels table_and_row AreTableAndRow
tables_and_rows = pair_cancels Encoding.number_bytes row_bytes Encoding.IsNumber IsEncodable numbers rows

abbrev pub two_rows : Row × Row → List ℕ
two_rows = pair row_bytes row_bytes

abbrev pub AreTwoRows : Row × Row → Type 0
AreTwoRows = Both IsEncodable IsEncodable

pub rows_twice : Cancels two_rows AreTwoRows
rows_twice = pair_cancels row_bytes row_bytes IsEncodable IsEncodable rows rows

abbrev pub table_and_rows : ℕ × (Row × Row) → List ℕ
table_and_rows = pair Encoding.number_bytes two_rows

abbrev pub AreTableAndRows : ℕ × (Row × Row) → Type 0
AreTableAndRows = Both Encoding.IsNumber AreTwoRows

pub tables_and_two_rows : Cancels table_and_rows AreTableAndRows
tables_and_two_rows = pair_cancels Encoding.number_bytes two_rows Encoding.IsNumber AreTwoRows numbers rows_twice

pub changes : Cancels Encoding.change_bytes Encoding.IsEncodableChange
changes (Insert m r) (Insert n q) s t pa pb e = let same = tables_and_rows (m, r) (n, q) s t pa pb (tail_same 1 1 _ _ e) in ((λ i. Insert (same.0 i).0 (same.0 i).1), same.1)
changes (Insert m r) (Update n q p) s t pa pb e = other_tag 1 2 _ _ (λ h. omega arith) e
changes (Insert m r) (Delete n q) s t pa pb e = other_tag 1 3 _ _ (λ h. omega arith) e
changes (Update m r x) (Insert n q) s t pa pb e = other_tag 2 1 _ _ (λ h. omega arith) e
changes (Update m r x) (Update n q y) s t pa pb e =
    let same = tables_and_two_rows (m, (r, x)) (n, (q, y)) s t pa pb (tail_same 2 2 _ _ e) in
    ((λ i. Update (same.0 i).0 (same.0 i).1.0 (same.0 i).1.1), same.1)
changes (Update m r x) (Delete n q) s t pa pb e = other_tag 2 3 _ _ (λ h. omega arith) e
changes (Delete m r) (Insert n q) s t pa pb e = other_tag 3 1 _ _ (λ h. omega arith) e
changes (Delete m r) (Update n q p) s t pa pb e = other_tag 3 2 _ _ (λ h. omega arith) e
changes (Delete m r) (Delete n q) s t pa pb e = let same = tables_and_rows (m, r) (n, q) s t pa pb (tail_same 3 3 _ _ e) in ((λ i. Delete (same.0 i).0 (same.0 i).1), same.1)

pub schemas : Cancels Encoding.schema_bytes Encoding.IsEncodableSchema
schemas (CreateTable a) (CreateTable b) s t pa pb e = let same = tables a b s t pa pb (tail_same 1 1 _ _ e) in (ap CreateTable same.0, same.1)
schemas (CreateTable a) (DropTable n) s t pa pb e = other_tag 1 2 _ _ (λ h. omega arith) e
schemas (CreateTable a) (CreateIndex b) s t pa pb e = other_tag 1 3 _ _ (λ h. omega arith) e
schemas (DropTable m) (CreateTable b) s t pa pb e = other_tag 2 1 _ _ (λ h. omega arith) e
schemas (DropTable m) (DropTable n) s t pa pb e = let same = numbers m n s t pa pb (tail_same 2 2 _ _ e) in (ap DropTable same.0, same.1)
schemas (DropTable m) (CreateIndex b) s t pa pb e = other_tag 2 3 _ _ (λ h. omega arith) e
schemas (CreateIndex a) (CreateTable b) s t pa pb e = other_tag 3 1 _ _ (λ h. omega arith) e
schemas (CreateIndex a) (DropTable n) s t pa pb e = other_tag 3 2 _ _ (λ h. omega arith) e
schemas (CreateIndex a) (CreateIndex b) s t pa pb e = let same = indexes a b s t pa pb (tail_same 3 3 _ _ e) in (ap CreateIndex same.0, same.1)

-- ---- records

pub records : Cancels Encoding.record_bytes Encoding.IsEncodableRecord
records (Changed m x) (Changed n y) s t pa pb e =
    let same = pair_cancels count_bytes Encoding.change_bytes Encoding.IsCount Encoding.IsEncodableChange counts changes (m, x) (n, y) s t pa pb (tail_same 1 1 _ _ e) in
    ((λ i. Changed (same.0 i).0 (same.0 i).1), same.1)
records (UndoTo m x) (UndoTo n y) s t pa pb e =
    let same = pair_cancels count_bytes Encoding.number_bytes Encoding.IsCount Encoding.IsNumber counts numbers (m, x) (n, y) s t pa pb (tail_same 2 2 _ _ e) in
    ((λ i. UndoTo (same.0 i).0 (same.0 i).1), same.1)
records (Commit m) (Commit n) s t pa pb e = let same = counts m n s t pa pb (tail_same 3 3 _ _ e) in (ap Commit same.0, same.1)
records (Rollback m) (Rollback n) s t pa pb e = let same = counts m n s t pa pb (tail_same 4 4 _ _ e) in (ap Rollback same.0, same.1)
records (Schema x) (Schema y) s t pa pb e = let same = schemas x y s t pa pb (tail_same 5 5 _ _ e) in (ap Schema same.0, same.1)
records (Changed m x) (UndoTo n y) s t pa pb e = other_tag 1 2 _ _ (λ h. omega arith) e
records (Changed m x) (Commit n) s t pa pb e = other_tag 1 3 _ _ (λ h. omega arith) e
records (Changed m x) (Rollback n) s t pa pb e = other_tag 1 4 _ _ (λ h. omega arith) e
records (Changed m x) (Schema y) s t pa pb e = other_tag 1 5 _ _ (λ h. omega arith) e
records (UndoTo m x) (Changed n y) s t pa pb e = other_tag 2 1 _ _ (λ h. omega arith) e
records (UndoTo m x) (Commit n) s t pa pb e = other_tag 2 3 _ _ (λ h. omega arith) e
records (UndoTo m x) (Rollback n) s t pa pb e = other_tag 2 4 _ _ (λ h. omega arith) e
records (UndoTo m x) (Schema y) s t pa pb e = other_tag 2 5 _ _ (λ h. omega arith) e
records (Commit m) (Changed n y) s t pa pb e = other_tag 3 1 _ _ (λ h. omega arith) e
records (Commit m) (UndoTo n y) s t pa pb e = other_tag 3 2 _ _ (λ h. omega arith) e
records (Commit m) (Rollback n) s t pa pb e = other_tag 3 4 _ _ (λ h. omega arith) e
records (Commit m) (Schema y) s t pa pb e = other_tag 3 5 _ _ (λ h. omega arith) e
records (Rollback m) (Changed n y) s t pa pb e = other_tag 4 1 _ _ (λ h. omega arith) e
records (Rollback m) (UndoTo n y) s t pa pb e = other_tag 4 2 _ _ (λ h. omega arith) e
records (Rollback m) (Commit n) s t pa pb e = other_tag 4 3 _ _ (λ h. omega arith) e
records (Rollback m) (Schema y) s t pa pb e = other_tag 4 5 _ _ (λ h. omega arith) e
records (Schema x) (Changed n y) s t pa pb e = other_tag 5 1 _ _ (λ h. omega arith) e
records (Schema x) (UndoTo n y) s t pa pb e = other_tag 5 2 _ _ (λ h. omega arith) e
records (Schema x) (Commit n) s t pa pb e = other_tag 5 3 _ _ (λ h. omega arith) e
records (Schema x) (Rollback n) s t pa pb e = other_tag 5 4 _ _ (λ h. omega arith) e

some_bytes : (entry : LogRecord) (s : List ℕ) → Encoding.record_bytes entry ++ s ≡ [] → ⊥
some_bytes (Changed m x) s e = cc
some_bytes (UndoTo m x) s e = cc
some_bytes (Commit m) s e = cc
some_bytes (Rollback m) s e = cc
some_bytes (Schema x) s e = cc

-- a body spells one list of records
bodies_once : (xs ys : List LogRecord) → AllByRecursion Encoding.IsEncodableRecord xs → AllByRecursion Encoding.IsEncodableRecord ys
    → flat_map Encoding.record_bytes xs ≡ flat_map Encoding.record_bytes ys → xs ≡ ys
bodies_once [] [] px py e = refl
bodies_once [] (y ∷ ys) px py e = absurd (some_bytes y (flat_map Encoding.record_bytes ys) (sym e))
bodies_once (x ∷ xs) [] px py e = absurd (some_bytes x (flat_map Encoding.record_bytes xs) e)
bodies_once (x ∷ xs) (y ∷ ys) px py e =
    let first = records x y (flat_map Encoding.record_bytes xs) (flat_map Encoding.record_bytes ys) px.0 py.0 e in
    ap₂ (λ z zs. z ∷ zs) first.0 (bodies_once xs ys px.1 py.1 first.1)

pub spelled_once : (body : List ℕ) (xs ys : List LogRecord) → SpellsRecords body xs → SpellsRecords body ys → xs ≡ ys
spelled_once body xs ys a b = bodies_once xs ys a.encodable b.encodable (sym a.spelled ∙ b.spelled)

-- and so do the bodies of a log
pub log_once : (bodies : List (List ℕ)) (xs ys : List LogRecord) → SpellsLog bodies xs → SpellsLog bodies ys → xs ≡ ys
log_once [] xs ys a b = a ∙ sym b
log_once (body ∷ bodies) xs ys a b = a.3 ∙ (λ i. spelled_once body a.0 b.0 a.2 b.2 i ++ log_once bodies a.1 b.1 a.4 b.4 i) ∙ sym b.3

-- ---- what can be spelled can be written

short_values : (values : Row) → AllByRecursion IsEncodableValue values → AllByRecursion IsShortValue values
short_values [] can = tt
short_values (Null ∷ values) can = (tt, short_values values can.1)
short_values (Int n ∷ values) can = (tt, short_values values can.1)
short_values (Text t ∷ values) can = (can.0.0, short_values values can.1)

short_row : (row : Row) → IsEncodable row → IsShort row
short_row row can = record { count = can.count; values = short_values row can.values }

pub writable : (entry : LogRecord) → Encoding.IsEncodableRecord entry → Encoding.IsWritable entry
writable (Changed conn (Insert table row)) can = short_row row can.1.1
writable (Changed conn (Update table before after)) can = (short_row before can.1.1.0, short_row after can.1.1.1)
writable (Changed conn (Delete table before)) can = short_row before can.1.1
writable (UndoTo conn count) can = tt
writable (Commit conn) can = tt
writable (Rollback conn) can = tt
writable (Schema (CreateTable def)) can = record { columns = can.columns.few; key = can.key }
writable (Schema (DropTable table)) can = tt
writable (Schema (CreateIndex index)) can = record { number = can.number; columns = can.columns }
