-- Small facts of the store's calls.
use Rattle.std.proofs.Common.{◌≡◌, ℕ, ◌≤◌, length, Option, Some, None, refl, sym, ◌∙◌, arith, length-append}
use Rattle.wat_disk.specs.Disk.{Told}
use Rattle.wat_value.specs.declared.change.Change.{Change}
use Rattle.wat_schema.specs.Tables.{Tables}
use Rattle.wat_value.specs.Encoding.{count_bytes}
use Rattle.wat_value.proofs.EncodingLemmas.{length-count_bytes}
use Rattle.wat_log_record.specs.declared.log_record.LogRecord.TheVariants.{UndoTo, Rollback}
use Rattle.wat_log_record.specs.Encoding.{record_bytes, number_bytes}
use Rattle.wat_log.specs.declared.record_log.Log.{Log}
use Rattle.wat_log.specs.Log.{gate_of, noted_bytes}
use Rattle.wat_replay.specs.State.{State}
use Rattle.wat_objects.specs.declared.objects.Objects.{Objects}
use Rattle.wat_store.specs.Parts.{IsStore}
use Rattle.wat_store.proofs.Changing.{same_gate}

pub not_refused : {A : Type 0} {o : Option A} {x : A} → o ≡ None → o ≡ Some x → ⊥
not_refused {A} {o} {x} none some = let no : None ≡ Some x = sym none ∙ some in cc

-- room for a commit changes nothing that is noted
pub reserved : (told : Told) (objects : Objects) (log after : Log) (s : State) (t : Tables) → IsStore told objects log s t → noted_bytes after ≡ noted_bytes log → gate_of after ≡ gate_of log → IsStore told objects after s t
reserved told objects log after s t is bytes gate = record {
  holds = is.holds;
  records = same_gate told log after gate is.records;
  noted = is.noted;
  has = record { spelled = bytes ∙ is.has.spelled; encodable = is.has.encodable };
  kept = is.kept;
  lawful = is.lawful;
}

pub one_change : (o : Option Change) (x y : Change) → o ≡ Some x → o ≡ Some y → x ≡ y
one_change o x y is also = let e : Some x ≡ Some y = sym is ∙ also in cc

-- ---- the records of undoing are short

length-number_bytes : (n : ℕ) → length (number_bytes n) ≡ 4
unfolding number_bytes
length-number_bytes n = refl

pub short_rollback : (conn : ℕ) → length (record_bytes (Rollback conn)) ≤ 900000
short_rollback conn = omega (arith, length-count_bytes conn)

pub short_undo : (conn count : ℕ) → length (record_bytes (UndoTo conn count)) ≤ 900000
short_undo conn count = omega (arith, length-append (count_bytes conn) (number_bytes count), length-count_bytes conn, length-number_bytes count)
