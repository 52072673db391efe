use Rattle.std.proofs.Common.{◌≡◌, ◌++◌, take, drop}
use Rattle.std.specs.List.{flat_map, AllByRecursion}
use Rattle.wat_log_record.specs.Encoding.{change_bytes, IsEncodableChange}
use Rattle.wat_undo.proofs.writing.push_changes.Given as goal

abbrev pub invariant-loop-change : goal.invariant-loop-change
invariant-loop-change l = record {
  rest : l.out.items ++ flat_map change_bytes (drop l.change-index l.changes) ≡ l.fn.out.items ++ flat_map change_bytes l.changes;
  encodable : AllByRecursion IsEncodableChange (take l.change-index l.changes);
}
