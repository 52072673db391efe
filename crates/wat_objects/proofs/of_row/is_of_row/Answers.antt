use Rattle.std.proofs.Common.{◌≡◌, ◌∙◌, sym}
use Rattle.wat_value.specs.Fits.{values_in}
use Rattle.wat_recover.specs.Asked.{row_in}
use Rattle.wat_recover.proofs.Listing.{of_row_is}
use Rattle.wat_objects.proofs.of_row.is_of_row.Goals as goal

pub returns-then-table-table_of : goal.returns-then-table-table_of
returns-then-table-table_of c =
    let e : values_in c.row_of.result.now c.as_slice.result.now ≡ values_in (row_in c.args.change.now) c.args.def.now.key = λ i. values_in (c.row_of.ensures i) (c.as_slice.ensures i) in
    of_row_is c.are_in_columns.result c.args.def.now c.args.table c.args.key.now c.args.change.now (c.if-table-table_of.true ∙ c.table_of.ensures)
    (λ h. sym c.as_slice-then-table-table_of.ensures ∙ c.are_in_columns.ensures.0 h ∙ e) (λ k. c.are_in_columns.ensures.1 (c.as_slice-then-table-table_of.ensures ∙ k ∙ sym e))
