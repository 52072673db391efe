use Rattle.std.proofs.Common.{ap}
use Rattle.wat_scope.specs.Scope.{found_among, spots, found}
use Rattle.std.specs.List.{enumerate_from}
use Rattle.wat_scope.proofs.scope.find.Goals as goal

pub loop-i-init : goal.loop-i-init
unfolding found
loop-i-init c = ap (λ sources. found_among (spots c.args.schema.now (c.args.qualifier.now, c.args.name.now) (enumerate_from 0 sources))) c.as_slice-source-items.ensures
