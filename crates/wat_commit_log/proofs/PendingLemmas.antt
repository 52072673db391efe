-- The bytes of changes, as they come to be.
use Rattle.std.proofs.Common.{◌≡◌, ℕ, ◌+◌, ◌<◌, List, [], ◌∷◌, ◌++◌, length, map, take, get_or, Option, Some, None, All, refl, sym, ◌∙◌, ap, arith, append-nil, append_assoc, length-append}
use Rattle.std.specs.List.{flat_map, filter_map, AllByRecursion}
use Rattle.std.proofs.lemmas.List.{map-append, take_more}
use Rattle.std.proofs.lemmas.List.Concat.{flat_map-append}
use Rattle.wat_value.specs.declared.change.Change.{Change}
use Rattle.wat_value.specs.declared.change.Act.{Act}
use Rattle.wat_value.specs.declared.change.Act.TheVariants.{OnRow, OnSchema}
use Rattle.wat_log_record.specs.declared.log_record.LogRecord.{LogRecord}
use Rattle.wat_log_record.specs.declared.log_record.LogRecord.TheVariants as entries
use Rattle.wat_log_record.specs.Encoding.{record_bytes, IsEncodableRecord}
use Rattle.wat_commit_log.specs.Logged.{Transaction, OfRows, OfSchema, body_of, bytes_of, changed, records_of, IsFramed}
use Rattle.wat_commit_log.specs.Pending.{AreBytes, change_in, changes_bytes, changes_in}

pub bytes_of-append : (xs ys : List LogRecord) → bytes_of (xs ++ ys) ≡ bytes_of xs ++ bytes_of ys
bytes_of-append xs ys = flat_map-append record_bytes xs ys

pub changes_bytes-append : (xs ys : List Change) → changes_bytes (xs ++ ys) ≡ changes_bytes xs ++ changes_bytes ys
changes_bytes-append xs ys = ap bytes_of (map-append changed xs ys) ∙ bytes_of-append (map changed xs) (map changed ys)

pub one_change : (change : Change) → changes_bytes (change ∷ []) ≡ record_bytes (changed change)
one_change change = append-nil (record_bytes (changed change))

pub changes_bytes-push : (xs : List Change) (change : Change) → changes_bytes (xs ++ change ∷ []) ≡ changes_bytes xs ++ record_bytes (changed change)
changes_bytes-push xs change = changes_bytes-append xs (change ∷ []) ∙ ap (λ (more : List ℕ). changes_bytes xs ++ more) (one_change change)

pub changes_in-append : (xs ys : List Act) → changes_in (xs ++ ys) ≡ changes_in xs ++ changes_in ys
changes_in-append [] ys = refl
changes_in-append (OnRow change ∷ xs) ys = ap (λ (l : List Change). change ∷ l) (changes_in-append xs ys)
changes_in-append (OnSchema change ∷ xs) ys = changes_in-append xs ys

-- one act more
pub row_more : (acts : List Act) (i : ℕ) (d : Act) (change : Change) → i < length acts → get_or acts i d ≡ OnRow change → changes_in (take (i + 1) acts) ≡ changes_in (take i acts) ++ change ∷ []
row_more acts i d change there is =
    ap changes_in (take_more acts i d there) ∙ changes_in-append (take i acts) (get_or acts i d ∷ []) ∙ ap (λ (act : Act). changes_in (take i acts) ++ changes_in (act ∷ [])) is

pub schema_more : (acts : List Act) (i : ℕ) (d : Act) → i < length acts → change_in (get_or acts i d) ≡ None → changes_in (take (i + 1) acts) ≡ changes_in (take i acts)
schema_more acts i d there is =
    ap changes_in (take_more acts i d there) ∙ changes_in-append (take i acts) (get_or acts i d ∷ []) ∙ none (get_or acts i d) is
  where
    none : (act : Act) → change_in act ≡ None → changes_in (take i acts) ++ changes_in (act ∷ []) ≡ changes_in (take i acts)
    none (OnRow change) is = cc
    none (OnSchema change) is = append-nil (changes_in (take i acts))

pub each_append : {X : Type 0} (P : X → Type 0) (xs ys : List X) → AllByRecursion P xs → AllByRecursion P ys → AllByRecursion P (xs ++ ys)
each_append P [] ys px py = py
each_append P (x ∷ xs) ys px py = (px.0, each_append P xs ys px.1 py)

pub encodable-append : (xs ys : List Change) → AllByRecursion IsEncodableRecord (map changed xs) → AllByRecursion IsEncodableRecord (map changed ys) → AllByRecursion IsEncodableRecord (map changed (xs ++ ys))
encodable-append [] ys px py = py
encodable-append (x ∷ xs) ys px py = (px.0, encodable-append xs ys px.1 py)

pub commit_body : (changes : List Change) (commit : LogRecord) → bytes_of (map changed changes ++ commit ∷ []) ≡ changes_bytes changes ++ record_bytes commit
commit_body changes commit = bytes_of-append (map changed changes) (commit ∷ []) ∙ ap (λ (more : List ℕ). changes_bytes changes ++ more) (append-nil (record_bytes commit))

some_bytes : (entry : LogRecord) → 0 < length (record_bytes entry)
some_bytes (entries.Changed m x) = omega arith
some_bytes (entries.UndoTo m x) = omega arith
some_bytes (entries.Commit m) = omega arith
some_bytes (entries.Rollback m) = omega arith
some_bytes (entries.Schema x) = omega arith

-- a body with a record behind has bytes
pub some_record : (front : List ℕ) (entry : LogRecord) → 0 < length (front ++ record_bytes entry)
some_record front entry = omega (arith, length-append front (record_bytes entry), some_bytes entry)
