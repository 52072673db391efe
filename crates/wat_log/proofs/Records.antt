-- What the records that were read so far say of a body.
use Rattle.std.proofs.Common.{◌≡◌, ◌≢◌, ℕ, ◌+◌, ◌<◌, ◌≤◌, List, [], ◌∷◌, ◌++◌, length, take, drop, sym, ◌∙◌, ap, refl, arith, append_assoc, append-nil, length-append}
use Rattle.std.specs.Prelude.{Bool, false, nat_eq}
use Rattle.std.specs.List.{flat_map, AllByRecursion}
use Rattle.std.proofs.lemmas.List.{take-append-drop, length-take-le}
use Rattle.wat_log_record.specs.declared.log_record.LogRecord.{LogRecord}
use Rattle.wat_log_record.specs.declared.log_record.LogRecord.TheVariants.{Changed, UndoTo, Commit, Rollback, Schema}
use Rattle.wat_log_record.specs.Encoding.{record_bytes, IsEncodableRecord, SpellsRecord, SpellsNoRecord}
use Rattle.wat_log_record.specs.Bodies.{SpellsRecords}
use Rattle.wat_log_record.proofs.Cancelling.{records}
use Rattle.wat_log_record.proofs.Parts.{item_more}
use Rattle.wat_log.specs.Reading.{AddsRecords, SpellsNone, HasRead}
use Rattle.wat_log.proofs.Bodies.{all_more}

some_bytes : (entry : LogRecord) (rest : List ℕ) → record_bytes entry ++ rest ≡ [] → ⊥
some_bytes (Changed conn change) rest e = cc
some_bytes (UndoTo conn count) rest e = cc
some_bytes (Commit conn) rest e = cc
some_bytes (Rollback conn) rest e = cc
some_bytes (Schema change) rest e = cc

pub some_length : (entry : LogRecord) → 0 < length (record_bytes entry)
some_length (Changed conn change) = omega arith
some_length (UndoTo conn count) = omega arith
some_length (Commit conn) = omega arith
some_length (Rollback conn) = omega arith
some_length (Schema change) = omega arith

-- a record takes at least a byte
pub record_size : (bytes : List ℕ) (entry : LogRecord) (n : ℕ) → SpellsRecord bytes entry n → 0 < n
record_size bytes entry n spells =
    let size : length (take n bytes) ≡ length (record_bytes entry) = ap length spells.spelled in
    omega (arith, size, some_length entry, length-take-le n bytes spells.within)

-- nothing was read yet
pub read_none : (body : List ℕ) (into : List LogRecord) → HasRead body into into body
read_none body into = record { entries = []; spelled = refl; encodable = tt; is = sym (append-nil into) }

-- one record more was read
pub read_more : (body : List ℕ) (old into : List LogRecord) (rest : List ℕ) (entry : LogRecord) (n : ℕ) → HasRead body old into rest → SpellsRecord rest entry n
    → HasRead body old (into ++ entry ∷ []) (drop n rest)
read_more body old into rest entry n so_far spells =
    let next : rest ≡ record_bytes entry ++ drop n rest = sym (take-append-drop n rest) ∙ ap (λ front. front ++ drop n rest) spells.spelled in
    record {
      entries = so_far.entries ++ entry ∷ [];
      spelled = item_more record_bytes IsEncodableRecord records body so_far.entries entry rest (drop n rest) so_far.spelled next;
      encodable = all_more so_far.entries (entry ∷ []) so_far.encodable (spells.encodable, tt);
      is = ap (λ z. z ++ entry ∷ []) so_far.is ∙ append_assoc old so_far.entries (entry ∷ []);
    }

-- all of a body was read
pub read_all : (body : List ℕ) (old into : List LogRecord) (rest : List ℕ) → HasRead body old into rest → rest ≡ [] → body ≢ [] → AddsRecords body old into
read_all body old into rest so_far done some =
    let whole : body ≡ flat_map record_bytes so_far.entries = so_far.spelled ∙ ap (λ z. flat_map record_bytes so_far.entries ++ z) done ∙ append-nil (flat_map record_bytes so_far.entries) in
    record {
      entries = so_far.entries;
      spells = record { spelled = whole; some = λ none. some (whole ∙ ap (flat_map record_bytes) none); encodable = so_far.encodable };
      is = so_far.is;
    }

-- what stands behind the first records of a body spells the others
others : (xs ys : List LogRecord) (rest : List ℕ) → AllByRecursion IsEncodableRecord xs → AllByRecursion IsEncodableRecord ys → flat_map record_bytes xs ++ rest ≡ flat_map record_bytes ys
    → (zs : List LogRecord) × (rest ≡ flat_map record_bytes zs) × AllByRecursion IsEncodableRecord zs
others [] ys rest px py e = (ys, e, py)
others (x ∷ xs) [] rest px py e = absurd (some_bytes x (flat_map record_bytes xs ++ rest) (sym (append_assoc (record_bytes x) (flat_map record_bytes xs) rest) ∙ e))
others (x ∷ xs) (y ∷ ys) rest px py e =
    let first = records x y (flat_map record_bytes xs ++ rest) (flat_map record_bytes ys) px.0 py.0 (sym (append_assoc (record_bytes x) (flat_map record_bytes xs) rest) ∙ e) in
    others xs ys rest px.1 py.1 first.1

none_behind : (rest : List ℕ) (zs : List LogRecord) → rest ≢ [] → SpellsNoRecord rest → rest ≡ flat_map record_bytes zs → AllByRecursion IsEncodableRecord zs → ⊥
none_behind rest [] some none e can = some e
none_behind rest (z ∷ zs) some none e can = none z can.0 (flat_map record_bytes zs) e

-- where the rest begins with no record, the body spells none
pub no_more : (body : List ℕ) (old into : List LogRecord) (rest : List ℕ) → HasRead body old into rest → rest ≢ [] → SpellsNoRecord rest → SpellsNone body
no_more body old into rest so_far some none entries spells =
    let left = others so_far.entries entries rest so_far.encodable spells.encodable (sym so_far.spelled ∙ spells.spelled) in
    none_behind rest left.0 some none left.1 left.2

-- an empty body spells none
empty_spells : (entries : List LogRecord) → entries ≢ [] → flat_map record_bytes entries ≡ [] → ⊥
empty_spells [] some e = some refl
empty_spells (x ∷ xs) some e = some_bytes x (flat_map record_bytes xs) e

pub no_body : (body : List ℕ) → body ≡ [] → SpellsNone body
no_body body empty entries spells = empty_spells entries spells.some (sym spells.spelled ∙ empty)

pub no_bytes : (body : List ℕ) → length body ≡ 0 → SpellsNone body
no_bytes [] e = no_body [] refl
no_bytes (x ∷ xs) e = absurd (omega (arith, e))

-- a list that is not empty, by its test
pub some_bytes_left : (xs : List ℕ) (test : Bool) → test ≡ nat_eq (length xs) 0 → test ≡ false → xs ≢ []
some_bytes_left [] test is left e = cc
some_bytes_left (x ∷ xs) test is left e = cc

-- nothing is noted where no bytes are
pub none_noted : (entries : List LogRecord) → flat_map record_bytes entries ≡ [] → entries ≡ []
none_noted [] e = refl
none_noted (x ∷ xs) e = absurd (some_bytes x (flat_map record_bytes xs) e)
