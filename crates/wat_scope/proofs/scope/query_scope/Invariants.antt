use Rattle.std.proofs.Common.{◌≡◌, map, take}
use Rattle.wat_scope.specs.Scope.{visible}
use Rattle.wat_scope.proofs.scope.query_scope.Given as goal

abbrev pub invariant-loop-source : goal.invariant-loop-source
invariant-loop-source l = l.scope ≡ map (visible l.fn.schema) (take l.source-index l.source-items)
