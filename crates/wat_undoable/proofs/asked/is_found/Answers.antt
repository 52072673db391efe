use Rattle.std.proofs.Common.{◌≡◌, ◌∙◌, sym, ap, Some}
use Rattle.std.specs.Ordering.{is_eq}
use Rattle.wat_value.specs.Order.{key_cmp, key_eq}
use Rattle.wat_recover.proofs.Listing.{same_row, row_itself}
use Rattle.wat_undoable.proofs.asked.is_found.Goals as goal

pub returns-in-Some : goal.returns-in-Some
returns-in-Some c =
    let e : c.is_eq.result ≡ key_eq c.in-Some.found c.args.row.now =
    c.is_eq.ensures ∙ ap is_eq (c.compare_rows.ensures ∙ (λ i. key_cmp (c.as_slice.ensures i) (c.as_slice-in-Some.ensures i))) in (
      λ h. c.in-Some.is ∙ ap Some (same_row c.in-Some.found c.args.row.now (sym e ∙ h)),
      λ h. e ∙ row_itself c.in-Some.found c.args.row.now (let s : Some c.in-Some.found ≡ Some c.args.row.now = sym c.in-Some.is ∙ h in cc),
    )
