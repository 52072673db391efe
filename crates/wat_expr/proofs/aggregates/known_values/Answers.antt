use Rattle.std.proofs.Common.{sym, ◌∙◌}
use Rattle.wat_expr.specs.Aggregates.{known_value}
use Rattle.wat_expr.proofs.AggregateLemmas.{filter_map_skips}
use Rattle.wat_expr.proofs.aggregates.known_values.Goals as goal

pub loop-outcome-preserved : goal.loop-outcome-preserved
loop-outcome-preserved c =
    c.loop-outcome.invariant ∙ sym (filter_map_skips known_value c.loop-outcome.yielded c.in-Some.outcome (sym c.known_value.ensures ∙ c.in_default.is))
