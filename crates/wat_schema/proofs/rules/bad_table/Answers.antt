use Rattle.std.proofs.Common.{List, map, ap, ◌∙◌, arith}
use Rattle.wat_schema.specs.Catalog.{Name}
use Rattle.wat_schema.specs.Definitions.{bad_definition, number_named}
use Rattle.wat_schema.proofs.Once.{only_one}
use Rattle.wat_schema.proofs.rules.bad_table.Goals as goal

pub returns-in-len1 : goal.returns-in-len1
returns-in-len1 c =
    c.in_ok-rule-in-len1.ensures
    ∙ ap (λ (ks : List (List Name)). bad_definition c.args.is_full c.args.columns.now (map (map (number_named c.args.columns.now)) ks))
    (only_one c.args.keys.now c.key-item.result c.as_slice.result.now (omega (arith, c.in-len1.len_at_least)) (omega (arith, c.in-len1.len_below)) (c.as_slice.ensures ∙ c.key-item.is))
