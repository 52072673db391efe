use Rattle.std.proofs.Common.{◌≡◌, Option, IfOk, subst}
use Rattle.wat_schema.specs.declared.refusal.Refusal.{Refusal}
use Rattle.wat_rules.proofs.CheckLemmas.{by_table, by_source, by_columns, by_keys}
use Rattle.wat_rules.proofs.checking.name_refusal.Goals as goal

pub returns-in-Some : goal.returns-in-Some
returns-in-Some c = by_table c.args.schema.now c.args.statement.now c.in_ok-refusal.field-0 c.in-Some.refusal c.in_ok-refusal.ensures c.in-Some.is

pub returns-in-Some-2 : goal.returns-in-Some-2
returns-in-Some-2 c =
    by_source c.args.schema.now c.args.statement.now c.in_ok-refusal.field-0 c.in_ok-refusal-2.field-0 c.in-Some-2.refusal c.in_ok-refusal.ensures c.in_default.not-Some c.in_ok-refusal-2.ensures c.in-Some-2.is

pub returns-in-Some-3 : goal.returns-in-Some-3
returns-in-Some-3 c =
    by_columns c.args.schema.now c.args.statement.now c.in_ok-refusal.field-0 c.in_ok-refusal-2.field-0 c.in_ok-refusal-3.field-0 c.in-Some-3.refusal
    c.in_ok-refusal.ensures c.in_default.not-Some c.in_ok-refusal-2.ensures c.in_default-2.not-Some c.in_ok-refusal-3.ensures c.in-Some-3.is

pub returns : goal.returns
returns c =
    subst (λ (all : Option Refusal). IfOk c.assigned_key.result (λ refusal. refusal ≡ all))
    (by_keys c.args.schema.now c.args.statement.now c.in_ok-refusal.field-0 c.in_ok-refusal-2.field-0 c.in_ok-refusal-3.field-0
    c.in_ok-refusal.ensures c.in_default.not-Some c.in_ok-refusal-2.ensures c.in_default-2.not-Some c.in_ok-refusal-3.ensures c.in_default-3.not-Some)
    c.assigned_key.ensures
