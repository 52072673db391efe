use Rattle.std.proofs.Common.{◌≡◌, ◌++◌, take, drop, vec_len}
use Rattle.std.specs.List.{flat_map, AllByRecursion}
use Rattle.wat_log_record.specs.Encoding.{column_bytes, columns_bytes, IsEncodableColumn}
use Rattle.wat_record.proofs.writing.push_columns.Given as goal

abbrev pub invariant-loop-column : goal.invariant-loop-column
invariant-loop-column l = record {
  rest : l.out.items ++ flat_map column_bytes (drop l.column-index l.columns) ≡ l.fn.out.items ++ columns_bytes l.columns;
  kept : take (vec_len l.fn.out) l.out.items ≡ l.fn.out.items;
  encodable : AllByRecursion IsEncodableColumn (take l.column-index l.columns);
}
