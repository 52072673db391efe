use Rattle.std.proofs.Common.{◌≡◌, ◌++◌, take, drop}
use Rattle.std.specs.List.{flat_map, AllByRecursion}
use Rattle.wat_log_record.specs.Encoding.{index_bytes, IsEncodableIndex}
use Rattle.wat_catalog_chain.proofs.writing.push_indexes.Given as goal

abbrev pub invariant-loop-index : goal.invariant-loop-index
invariant-loop-index l = record {
  rest : l.out.items ++ flat_map index_bytes (drop l.index-index l.indexes) ≡ l.fn.out.items ++ flat_map index_bytes l.indexes;
  encodable : AllByRecursion IsEncodableIndex (take l.index-index l.indexes);
}
