use Rattle.std.proofs.Common.{ap, ◌∙◌}
use Rattle.wat_typing.specs.Rules.{shown_types, insert_rule}
use Rattle.wat_typing.proofs.RuleLemmas.{answer_rule}
use Rattle.wat_typing.proofs.rules.answer_given.Goals as goal

pub returns : goal.returns
returns c =
    c.lesser.ensures
    ∙ answer_rule c.args.schema.now c.args.table.now c.args.columns.now c.args.query.now c.in_ok-scope.scope c.in_ok-t.t c.in_ok-types.types c.in_ok-rule.rule c.in_ok-given.given
    c.in_ok-scope.ensures c.in_ok-t.ensures.typings
    (c.in_ok-types.ensures ∙ ap (shown_types c.args.schema.now c.in_ok-scope.scope c.args.query.now.items) c.as_slice.ensures)
    c.in_ok-rule.ensures
    (c.in_ok-given.ensures ∙ ap (insert_rule c.args.schema.now c.args.table.now c.args.columns.now) c.as_slice-2.ensures)
