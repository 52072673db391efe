-- What is read of a frame's body.
use Rattle.std.specs.Prelude.{◌≡◌, ℕ, List, ◌++◌}
use Rattle.std.specs.List.{flat_map, AllByRecursion}
use Rattle.wat_log_record.specs.declared.log_record.LogRecord.{LogRecord}
use Rattle.wat_log_record.specs.Bodies.{SpellsRecords}
use Rattle.wat_log_record.specs.Encoding.{record_bytes, IsEncodableRecord}

-- The records that the body spells were added to the old ones.
pub record AddsRecords (body : List ℕ) (old new : List LogRecord) : Type 0 where
  pub entries : List LogRecord
  pub spells : SpellsRecords body entries
  pub is : new ≡ old ++ entries

-- the body spells no records
abbrev pub SpellsNone : List ℕ → Type 0
SpellsNone body = (entries : List LogRecord) → SpellsRecords body entries → ⊥

-- The records that were read so far were added to the old ones, and the rest of the body stands behind them.
pub record HasRead (body : List ℕ) (old new : List LogRecord) (rest : List ℕ) : Type 0 where
  pub entries : List LogRecord
  pub spelled : body ≡ flat_map record_bytes entries ++ rest
  pub encodable : AllByRecursion IsEncodableRecord entries
  pub is : new ≡ old ++ entries
