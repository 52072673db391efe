use Rattle.std.proofs.Common.{◌≡◌, map, take, string_bytes}
use Rattle.wat_schema.proofs.entry.Entry.new.Given as goal

abbrev pub invariant-loop-column : goal.invariant-loop-column
invariant-loop-column l = map string_bytes l.columns.keys ≡ map (λ column. column.name) (take l.column-index l.fn.def.columns)
