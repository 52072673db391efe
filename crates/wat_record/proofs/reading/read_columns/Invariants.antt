use Rattle.std.proofs.Common.{◌≡◌, ◌++◌, length}
use Rattle.std.specs.List.{flat_map, AllByRecursion}
use Rattle.wat_log_record.specs.Encoding.{column_bytes, IsEncodableColumn}
use Rattle.wat_record.proofs.reading.read_columns.Given as goal

abbrev pub invariant-loop-i : goal.invariant-loop-i
invariant-loop-i l = record {
  spelled : l.bytes ≡ flat_map column_bytes l.columns ++ l.rest;
  many : length l.columns ≡ l._i;
  each : AllByRecursion IsEncodableColumn l.columns;
}
