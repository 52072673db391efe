use Rattle.std.proofs.Common.{List, ℕ, ap, ◌∙◌}
use Rattle.std.specs.List.{filter_map}
use Rattle.wat_value.specs.declared.definition.Column.{Column}
use Rattle.wat_schema.specs.Definitions.{bad_table}
use Rattle.wat_rules.specs.Changes.{column_of}
use Rattle.wat_rules.specs.Rules.{table_rule}
use Rattle.wat_rules.proofs.statements.table_rule.Goals as goal

pub returns : goal.returns
unfolding table_rule
returns c =
    c.in_ok-rule.ensures
    ∙ (ap (λ (columns : List Column). bad_table c.args.schema.now columns c.in_ok-keys.keys) c.in_ok-columns.ensures
    ∙ ap (λ (keys : List (List (List ℕ))). bad_table c.args.schema.now (filter_map column_of c.args.elements.now) keys) c.in_ok-keys.ensures)
