use Rattle.wat_rules.proofs.CheckLemmas.{by_name, by_rule, let_through}
use Rattle.wat_rules.proofs.checking.checked.Goals as goal

pub returns-in-Some : goal.returns-in-Some
returns-in-Some c = by_name c.args.schema.now c.args.statement.now c.in_ok-refusal.field-0 c.in-Some.refusal c.in_ok-refusal.ensures c.in-Some.is

pub returns-in-Some-2 : goal.returns-in-Some-2
returns-in-Some-2 c =
    by_rule c.args.schema.now c.args.statement.now c.in_ok-placed.placed c.in_ok-refusal.field-0 c.in_ok-refusal-2.field-0 c.in-Some-2.refusal
    c.in_ok-refusal.ensures c.in_default.not-Some c.in_ok-placed.ensures c.in_ok-refusal-2.ensures c.in-Some-2.is

pub returns : goal.returns
returns c =
    let_through c.args.schema.now c.args.statement.now c.in_ok-placed.placed c.in_ok-refusal.field-0 c.in_ok-refusal-2.field-0
    c.in_ok-refusal.ensures c.in_default.not-Some c.in_ok-placed.ensures c.in_ok-refusal-2.ensures c.in_default-2.not-Some
