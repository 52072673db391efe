use Rattle.std.proofs.Common.{map, sym, ap, ◌∙◌}
use Rattle.std.proofs.lemmas.Result.{IfOk-weaker}
use Rattle.wat_group.specs.declared.answer.Finished.{Finished}
use Rattle.wat_meaning.specs.Meaning.{given_row, inserted}
use Rattle.wat_changing.proofs.ChangedLemmas.{insert_is}
use Rattle.wat_changing.proofs.inserting.inserted.Goals as goal

pub returns : goal.returns
returns c =
    let def = c.args.def.now in
    let columns = c.args.columns.now in
    let rows = c.as_slice-rows.ensures.value ∙ c.in_ok-given.ensures ∙ ap (map (given_row def columns)) c.as_slice.ensures in
    IfOk-weaker c.tested.result _ _
    (λ d is. is ∙ insert_is def columns c.in-Rows.values _ _ rows c.in_ok-changes.ensures ∙ ap (λ (f : Finished). inserted columns f def) (sym c.in-Rows.is)) c.tested.ensures
