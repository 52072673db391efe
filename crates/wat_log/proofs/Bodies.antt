-- The records of a log with one frame more.
use Rattle.std.proofs.Common.{◌≡◌, ◌≢◌, ◌⊎◌, ⊎_elim, ℕ, List, [], ◌∷◌, ◌++◌, Result, Ok, Err, sym, ◌∙◌, ap, subst, inl, inr, refl, append_assoc, append-nil}
use Rattle.std.specs.List.{flat_map, AllByRecursion}
use Rattle.std.proofs.lemmas.Grind.{flat_map-append}
use Rattle.std.specs.Prelude.{OnOk}
use Rattle.wat_disk.specs.Disk.{Told}
use Rattle.wat_gate.specs.declared.gate_log.GateLog.{GateLog}
use Rattle.wat_gate.specs.Bodies.{IsWhole, bodies, KeepsOrAdds}
use Rattle.wat_gate.specs.GateLog.{file_of, bodies_in, IsLogOf}
use Rattle.wat_log_record.specs.declared.log_record.LogRecord.{LogRecord}
use Rattle.wat_log_record.specs.Encoding.{record_bytes, IsEncodableRecord}
use Rattle.wat_log_record.specs.Bodies.{SpellsRecords, SpellsLog}
use Rattle.wat_log_record.proofs.Cancelling.{log_once}
use Rattle.wat_log.specs.Log.{HasRecords}

pub log_more : (before : List (List ℕ)) (body : List ℕ) (xs ys : List LogRecord) → SpellsLog before xs → SpellsRecords body ys → SpellsLog (before ++ body ∷ []) (xs ++ ys)
log_more [] body xs ys is spells = (ys, [], spells, ap (λ z. z ++ ys) is ∙ sym (append-nil ys), refl)
log_more (first ∷ before) body xs ys is spells =
    (is.0, is.1 ++ ys, is.2, ap (λ z. z ++ ys) is.3 ∙ append_assoc is.0 is.1 ys, log_more before body is.1 ys is.4 spells)

-- two lists that can be spelled, one behind the other
pub all_more : (xs ys : List LogRecord) → AllByRecursion IsEncodableRecord xs → AllByRecursion IsEncodableRecord ys → AllByRecursion IsEncodableRecord (xs ++ ys)
all_more [] ys px py = py
all_more (x ∷ xs) ys px py = (px.0, all_more xs ys px.1 py)

-- the body that a frame adds
pub spells_all : (more : List LogRecord) → more ≢ [] → AllByRecursion IsEncodableRecord more → SpellsRecords (flat_map record_bytes more) more
spells_all more some can = record { spelled = refl; some = some; encodable = can }

pub has_more : (old new body : List ℕ) (flushed more : List LogRecord) → HasRecords old flushed → SpellsRecords body more → IsWhole new → bodies new ≡ bodies old ++ body ∷ []
    → HasRecords new (flushed ++ more)
has_more old new body flushed more has spells whole is = record {
  whole = whole;
  spelled = subst (λ (all : List (List ℕ)). SpellsLog all (flushed ++ more)) (sym is) (log_more (bodies old) body flushed more has.spelled spells);
}

pub has_once : (content : List ℕ) (xs ys : List LogRecord) → HasRecords content xs → HasRecords content ys → xs ≡ ys
has_once content xs ys a b = log_once (bodies content) xs ys a.spelled b.spelled

pub all_or_none : (old new : List ℕ) (flushed more : List LogRecord) → HasRecords old flushed → more ≢ [] → AllByRecursion IsEncodableRecord more
    → KeepsOrAdds (flat_map record_bytes more) old new → HasRecords new flushed ⊎ HasRecords new (flushed ++ more)
all_or_none old new flushed more has some can keeps = ⊎_elim
    (λ (same : bodies new ≡ bodies old). inl (record { whole = keeps.whole; spelled = subst (λ (all : List (List ℕ)). SpellsLog all flushed) (sym same) has.spelled }))
    (λ (added : bodies new ≡ bodies old ++ flat_map record_bytes more ∷ []). inr (has_more old new (flat_map record_bytes more) flushed more has (spells_all more some can) keeps.whole added))
    keeps.either

-- one record more is noted
pub noted_more : (old new : List ℕ) (noted : List LogRecord) (entry : LogRecord) → old ≡ flat_map record_bytes noted → new ≡ old ++ record_bytes entry
    → new ≡ flat_map record_bytes (noted ++ entry ∷ [])
noted_more old new noted entry is more =
    more ∙ ap (λ z. z ++ record_bytes entry) is ∙ ap (λ z. flat_map record_bytes noted ++ z) (sym (append-nil (record_bytes entry))) ∙ sym (flat_map-append record_bytes noted (entry ∷ []))

pub more_some : (xs : List LogRecord) (x : LogRecord) → xs ++ x ∷ [] ≢ []
more_some [] x e = cc
more_some (y ∷ ys) x e = cc

-- a frame was appended to the gate log, which is that of file 2
pub appended_records : {T E : Type 0} (result : Result T E) (old new : Told) (log next : GateLog) (body : List ℕ) (flushed more : List LogRecord) → file_of log ≡ 2 → file_of next ≡ file_of log
    → HasRecords (old.content 2) flushed → SpellsRecords body more → OnOk result (IsLogOf new next) → OnOk result (bodies_in new next ≡ bodies_in old log ++ body ∷ [])
    → OnOk result (HasRecords (new.content 2) (flushed ++ more))
appended_records (Ok x) old new log next body flushed more file same has spells known added =
    let now : file_of next ≡ 2 = same ∙ file in
    has_more (old.content 2) (new.content 2) body flushed more has spells (subst (λ (n : ℕ). IsWhole (new.content n)) now known.whole)
    (sym (ap (λ (n : ℕ). bodies (new.content n)) now) ∙ added ∙ ap (λ (n : ℕ). bodies (old.content n) ++ body ∷ []) file)
appended_records (Err e) old new log next body flushed more file same has spells known added = tt
