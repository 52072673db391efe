use Rattle.std.proofs.Common.{◌≡◌, List, take, true}
use Rattle.wat_log_record.specs.declared.log_record.LogRecord.{LogRecord}
use Rattle.wat_replay.specs.State.{State}
use Rattle.wat_translate.specs.Reading.{HasTold, Tells}
use Rattle.wat_translate.proofs.reading.tell_entries.Given as goal

abbrev pub invariant-loop-entry : goal.invariant-loop-entry
invariant-loop-entry l = (before : List LogRecord) (s : State) → HasTold l.fn.reader l.fn.text.items before s → Tells l.reader l.text.items before (take l.entry-index l.entries) s true
