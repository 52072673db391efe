use Rattle.std.proofs.Common.{rules, ◌≡◌, true, false}
use Rattle.wat_value.specs.Fits.{fits, fits_column}
use Rattle.wat_value.proofs.FitsLemmas.{pointwise_on, pointwise_off}
use Rattle.wat_value.proofs.definition.fits.Goals as goal

pub returns-then-not-takes : goal.returns-then-not-takes
returns-then-not-takes c =
    let fails : fits_column c.item.result.now c.item-in-loop-i.result.now ≡ false = search rules in
    pointwise_off fits_column c.args.def.now.columns c.args.row.now c.loop-i.i c.item.result.now c.item-in-loop-i.result.now (fits c.args.def.now c.args.row.now) c.item.ensures c.item-in-loop-i.ensures fails c.loop-i.invariant

pub loop-i-preserved : goal.loop-i-preserved
loop-i-preserved c =
    let passes : fits_column c.item.result.now c.item-in-loop-i.result.now ≡ true = search rules in
    pointwise_on fits_column c.args.def.now.columns c.args.row.now c.loop-i.i c.item.result.now c.item-in-loop-i.result.now (fits c.args.def.now c.args.row.now) c.item.ensures c.item-in-loop-i.ensures passes c.loop-i.invariant
