-- The records of a log, whose frames have these bodies.
use Rattle.std.specs.Prelude.{◌≡◌, ◌≢◌, ℕ, List, [], ◌∷◌, ◌++◌}
use Rattle.std.specs.List.{flat_map, AllByRecursion}
use Rattle.wat_log_record.specs.declared.log_record.LogRecord.{LogRecord}
use Rattle.wat_log_record.specs.Encoding.{record_bytes, IsEncodableRecord}

-- A body is the bytes of one record or more.
pub record SpellsRecords (body : List ℕ) (entries : List LogRecord) : Type 0 where
  pub spelled : body ≡ flat_map record_bytes entries
  pub some : entries ≢ []
  pub encodable : AllByRecursion IsEncodableRecord entries

-- The records of the bodies, one body after another.
abbrev pub SpellsLog : List (List ℕ) → List LogRecord → Type 0
SpellsLog [] entries = entries ≡ []
SpellsLog (body ∷ bodies) entries = (first more : List LogRecord) × SpellsRecords body first × (entries ≡ first ++ more) × SpellsLog bodies more
