use Rattle.wat_value.proofs.WidthLemmas.{row_width, values_width, short_row}
use Rattle.wat_value.proofs.laws.width_laws.Goals as goal

pub returns-clause-row : goal.returns-clause-row
returns-clause-row c def row fits = row_width def.columns row fits

pub returns-clause-values : goal.returns-clause-values
returns-clause-values c def row numbers fits there = values_width def.columns row numbers fits there

pub returns-clause-short : goal.returns-clause-short
returns-clause-short c = short_row
