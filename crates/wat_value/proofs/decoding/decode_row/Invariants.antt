use Rattle.std.proofs.Common.{◌≡◌, ◌≤◌, ◌++◌, length, take}
use Rattle.std.specs.List.{flat_map, AllByRecursion}
use Rattle.wat_value.specs.Encoding.{count_bytes, value_bytes, IsEncodableValue}
use Rattle.wat_value.proofs.decoding.decode_row.Given as goal

abbrev pub invariant-loop-i : goal.invariant-loop-i
invariant-loop-i l = record {
  within : l.at ≤ length l.bytes;
  count : length l.row ≡ l._i;
  spelled : take l.at l.bytes ≡ count_bytes l.count ++ flat_map value_bytes l.row;
  values : AllByRecursion IsEncodableValue l.row;
}
