use Rattle.std.proofs.Common.{◌≡◌, ◌<◌, ◌∙◌, get_or, length, sym, arith, true}
use Rattle.std.proofs.lemmas.List.{take_more_same, length-map}
use Rattle.wat_value.specs.Fits.{value_in, values_in}
use Rattle.wat_recover.proofs.Listing.{column_value}
use Rattle.wat_objects.proofs.of_row.are_in_columns.Goals as goal

pub loop-i-preserved : goal.loop-i-preserved
loop-i-preserved c =
    let row = c.args.row.now in
    let columns = c.args.columns.now in
    let values = c.args.values.now in
    let i = c.loop-i.i in
    let d = c.index-values-i.result in
    let same : c.is_in_column.result ≡ true = c.if-not-is_in_column.false in
    let within : i < length columns = omega (arith, c.if-columns-values.false, c.loop-i-test.true) in
    let here : get_or values i d ≡ value_in row (get_or columns i 0) = sym c.index-values-i.is ∙ c.is_in_column.ensures.0 same in
    take_more_same values (values_in row columns) i d c.loop-i-test.true (omega (arith, within, length-map columns (value_in row))) c.loop-i.invariant (here ∙ sym (column_value row columns i d within))
