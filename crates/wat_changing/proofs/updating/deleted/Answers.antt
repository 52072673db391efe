use Rattle.std.proofs.Common.{◌∙◌}
use Rattle.std.proofs.lemmas.Result.{IfOk-weaker}
use Rattle.wat_changing.proofs.ChangedLemmas.{delete_is}
use Rattle.wat_changing.proofs.updating.deleted.Goals as goal

pub returns : goal.returns
returns c =
    IfOk-weaker c.tested.result _ _
    (λ d is. is ∙ delete_is c.args.def.now c.args.met.now c.as_slice-before.result.now _ (c.as_slice-before.ensures.value ∙ c.in_ok-sorted.ensures) c.in_ok-changes.ensures) c.tested.ensures
