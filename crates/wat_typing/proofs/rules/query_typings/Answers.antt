use Rattle.std.proofs.Common.{ap, ◌∙◌}
use Rattle.wat_walk.specs.Queries.{listed}
use Rattle.wat_types.specs.Types.{any_aggregated}
use Rattle.wat_typing.specs.Rules.{types_of}
use Rattle.wat_typing.proofs.AggregateLemmas.{all_alike}
use Rattle.wat_typing.proofs.rules.query_typings.Goals as goal

pub returns-clause-aggregates : goal.returns-clause-aggregates
returns-clause-aggregates c =
    ap any_aggregated c.in_ok-items.ensures ∙ all_alike (types_of c.args.schema.now c.args.scope.now) (listed c.args.query.now.items)
