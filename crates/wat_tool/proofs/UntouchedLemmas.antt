-- A disk that no call has changed.
use Rattle.std.proofs.Common.{refl, ◌∙◌}
use Rattle.wat_disk.specs.Bytes.{Torn}
use Rattle.wat_disk.specs.Disk.{Told, InFile}
use Rattle.wat_disk.proofs.Writes.{torn_same}
use Rattle.wat_disk.proofs.Stops.{stays, none_same, both_same}
use Rattle.wat_commit_log.specs.Logged.{log_file}
use Rattle.wat_tool.specs.Ending.{IsUntouched, ChangesFirstByte}

-- before the first call
pub untouched_here : (told : Told) → IsUntouched told told
untouched_here told = record { content = λ file. refl; stops = none_same told }

-- two parts, one after the other
pub untouched_on : (before mid now : Told) → IsUntouched before mid → IsUntouched mid now → IsUntouched before now
untouched_on before mid now first then = record { content = λ file. then.content file ∙ first.content file; stops = both_same before mid now first.stops then.stops }

-- before the first call of init
pub first_byte_here : (told : Told) → ChangesFirstByte told told
first_byte_here told = record {
  others = λ other not_it. refl;
  stops = stays told (InFile log_file (Torn 0 1)) (λ image left. record { changed = torn_same 0 1 (image log_file); others = λ other not_it. refl });
}
