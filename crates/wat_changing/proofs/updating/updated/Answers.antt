use Rattle.std.proofs.Common.{Some, sym, ap, ◌∙◌}
use Rattle.std.specs.Option.{option_map}
use Rattle.std.proofs.lemmas.Result.{IfOk-weaker}
use Rattle.wat_changing.proofs.ChangedLemmas.{update_fails, update_is}
use Rattle.wat_changing.proofs.updating.updated.Goals as goal

pub returns-in_default : goal.returns-in_default
returns-in_default c =
    update_fails c.args.def.now c.args.sets.now c.args.met.now c.as_slice-before.result.now (c.as_slice-before.ensures.value ∙ c.in_ok-sorted.ensures)
    (ap (option_map (λ rows. rows.items)) (sym c.in_default.is) ∙ c.in_ok-after.ensures)

pub returns : goal.returns
returns c =
    IfOk-weaker c.tested.result _ _
    (λ d is. is
    ∙ update_is c.args.def.now c.args.sets.now c.args.met.now c.as_slice-before.result.now _ _ (c.as_slice-before.ensures.value ∙ c.in_ok-sorted.ensures)
    (ap Some c.as_slice-rows.ensures.value ∙ ap (option_map (λ rows. rows.items)) (sym c.in-Some.is) ∙ c.in_ok-after.ensures) c.in_ok-changes.ensures) c.tested.ensures
