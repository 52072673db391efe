use Rattle.std.proofs.Common.{drop}
use Rattle.wat_schema.specs.Tables.{Tables}
use Rattle.wat_commit_log.specs.Reading.{Changes}
use Rattle.wat_commit_log.proofs.reading.make_changes.Given as goal

abbrev pub invariant-loop-record : goal.invariant-loop-record
invariant-loop-record l = record {
  comes : (t : Tables) → Changes l.tables (drop l.record-index l.records) t → Changes l.initial.tables l.records t;
  goes : (t : Tables) → Changes l.initial.tables l.records t → Changes l.tables (drop l.record-index l.records) t;
}
