use Rattle.std.proofs.Common.{◌≡◌, ◌++◌, take, drop, vec_len}
use Rattle.std.specs.List.{flat_map, AllByRecursion}
use Rattle.wat_value.specs.Encoding.{row_bytes, value_bytes, IsShortValue, IsEncodableValue}
use Rattle.wat_value.proofs.encoding.push_row.Given as goal

abbrev pub invariant-loop-value : goal.invariant-loop-value
invariant-loop-value l = record {
  rest : l.out.items ++ flat_map value_bytes (drop l.value-index l.value-items) ≡ l.fn.out.items ++ row_bytes l.value-items;
  kept : take (vec_len l.fn.out) l.out.items ≡ l.fn.out.items;
  short : AllByRecursion IsShortValue (drop l.value-index l.value-items);
  encodable : AllByRecursion IsEncodableValue (take l.value-index l.value-items);
}
