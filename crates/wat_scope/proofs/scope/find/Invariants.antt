use Rattle.std.proofs.Common.{◌≡◌, drop}
use Rattle.wat_scope.specs.Joining.{joined}
use Rattle.wat_scope.specs.Scope.{found_among, spots, found}
use Rattle.std.specs.List.{enumerate_from}
use Rattle.wat_scope.proofs.scope.find.Given as goal

abbrev pub invariant-loop-i : goal.invariant-loop-i
invariant-loop-i l = joined l.all (found_among (spots l.fn.schema (l.fn.qualifier, l.fn.name) (enumerate_from l.i (drop l.i l.source-items)))) ≡ found l.fn.schema l.fn.scope (l.fn.qualifier, l.fn.name)
