use Rattle.std.proofs.Common.{◌≡◌, ◌++◌}
use Rattle.std.specs.Iterator.Adapters.{zip_first, zip_second}
use Rattle.std.specs.Slice.Iter.{iter_rest}
use Rattle.wat_group.specs.Query.{keys_at}
use Rattle.wat_group.proofs.keyed.keys_at.Given as goal

abbrev pub invariant-loop-def : goal.invariant-loop-def
invariant-loop-def l = l.keys ++ keys_at (iter_rest (zip_first l.def-iterator)) (iter_rest (zip_second l.def-iterator)) ≡ keys_at l.defs l.rows
