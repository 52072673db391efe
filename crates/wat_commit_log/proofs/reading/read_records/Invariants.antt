use Rattle.std.proofs.Common.{length, take, ◌-◌, ◌≤◌}
use Rattle.wat_commit_log.specs.Reading.{AreRecords}
use Rattle.wat_commit_log.proofs.reading.read_records.Given as goal

abbrev pub invariant-loop-at : goal.invariant-loop-at
invariant-loop-at l = record {
  within : l.at ≤ length l.bytes;
  read : AreRecords (take l.at l.bytes) l.records;
}

abbrev pub decreases-loop-at : goal.decreases-loop-at
decreases-loop-at l = length l.bytes - l.at
