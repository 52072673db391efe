use Rattle.std.proofs.Common.{◌≡◌, ◌++◌, length}
use Rattle.std.specs.List.{flat_map, AllByRecursion}
use Rattle.wat_log_record.specs.Encoding.{change_bytes, IsEncodableChange}
use Rattle.wat_undo.proofs.reading.read_changes.Given as goal

abbrev pub invariant-loop-i : goal.invariant-loop-i
invariant-loop-i l = record {
  spelled : l.bytes ≡ flat_map change_bytes l.changes ++ l.rest;
  many : length l.changes ≡ l._i;
  each : AllByRecursion IsEncodableChange l.changes;
}
