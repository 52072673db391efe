-- How the structs of the evaluation are seen. Only functions within the crate cite this.
use Rattle.std.specs.Prelude.{Some, None, if◌then◌else◌, string_bytes}
use Rattle.wat_value.specs.declared.value.Value.TheVariants as value
use Rattle.wat_walk.specs.Lent.{lent}
use Rattle.wat_expr.specs.declared.context.Context.{Context}
use Rattle.wat_expr.specs.declared.left_operand.LeftOperand.{LeftOperand}
use Rattle.wat_expr.specs.declared.left_operand.LeftOperand.TheVariants.{Joined, Computed}
use Rattle.wat_expr.specs.declared.outcome.Outcome.{Outcome}
use Rattle.wat_expr.specs.declared.outcome.Outcome.TheVariants as outcome
use Rattle.wat_expr.specs.Evaluation.{Over}

-- what is lent to the evaluation of an expression
abbrev pub over_context : Context → Over
over_context c = record { rows = c.rows.now; group = if c.is_grouped then Some (lent c.group.now) else None }

-- the outcome of a left operand, also where it is a text that is still being joined
abbrev pub outcome_so_far : LeftOperand → Outcome
outcome_so_far (Joined text) = outcome.Is (value.Text (string_bytes text))
outcome_so_far (Computed o) = o
