use Rattle.std.proofs.Common.{◌≡◌, ◌∙◌, sym}
use Rattle.wat_value.specs.declared.value.Value.TheVariants.{Null}
use Rattle.wat_value.specs.Fits.{value_in}
use Rattle.wat_recover.proofs.Listing.{same_value, value_itself, value_there, value_past}
use Rattle.wat_objects.proofs.of_row.is_in_column.Goals as goal

pub returns-in-Some : goal.returns-in-Some
returns-in-Some c =
    let there : value_in c.args.row.now c.args.column ≡ c.in-Some.found.now = value_there c.args.row.now c.args.column c.in-Some.found.now (sym c.in-Some.ensures) in (
      λ h. same_value c.args.value.now c.in-Some.found.now (sym c.eq.ensures ∙ h) ∙ sym there,
      λ e. c.eq.ensures ∙ value_itself c.args.value.now c.in-Some.found.now (e ∙ there),
    )

pub returns-in-None : goal.returns-in-None
returns-in-None c =
    let past : value_in c.args.row.now c.args.column ≡ Null = value_past c.args.row.now c.args.column (sym c.in-None.ensures) in (
      λ h. same_value c.args.value.now Null (sym c.eq-in-None.ensures ∙ h) ∙ sym past,
      λ e. c.eq-in-None.ensures ∙ value_itself c.args.value.now Null (e ∙ past),
    )
