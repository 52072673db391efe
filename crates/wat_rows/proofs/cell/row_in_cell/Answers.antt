use Rattle.std.proofs.Common.{◌≡◌, ℕ, List, length, Option, Some, None, sym, ap, ap₂, ◌∙◌, arith}
use Rattle.wat_value.specs.Encoding.{row_bytes}
use Rattle.wat_rows.proofs.Cells.{rest_is, decoded, number_is, pair_is, none_some}
use Rattle.wat_rows.proofs.cell.row_in_cell.Goals as goal

pub returns-then-len-rest-clause-none : goal.returns-then-len-rest-clause-none
returns-then-len-rest-clause-none c table row small encodable is =
    let read = decoded c.args.cell.now table row c.in_ok-row.field-0 c.in_ok-row.ensures.round_trip encodable is in
    let same = pair_is c.in_ok-row.field-0 c.in-Some.row row c.in-Some.len (length (row_bytes row)) c.in-Some.is read in
    omega (arith, same.1, c.if-len-rest.true, ap length (rest_is c.args.cell.now table row is))

pub returns-then-len-rest-clause-round_trip : goal.returns-then-len-rest-clause-round_trip
returns-then-len-rest-clause-round_trip c table row small encodable is = absurd (returns-then-len-rest-clause-none c table row small encodable is)

pub returns-else-len-rest-clause-round_trip : goal.returns-else-len-rest-clause-round_trip
returns-else-len-rest-clause-round_trip c table row small encodable is =
    let read = decoded c.args.cell.now table row c.in_ok-row.field-0 c.in_ok-row.ensures.round_trip encodable is in
    let same = pair_is c.in_ok-row.field-0 c.in-Some.row row c.in-Some.len (length (row_bytes row)) c.in-Some.is read in
    ap₂ (λ t r. Some (t, r)) (number_is c.args.cell.now table c.read_u32.result row small c.read_u32.ensures is) same.0

pub returns-in-None-clause-none : goal.returns-in-None-clause-none
returns-in-None-clause-none c table row small encodable is =
    none_some c.in_ok-row.field-0 (row, length (row_bytes row)) c.in-None.is (decoded c.args.cell.now table row c.in_ok-row.field-0 c.in_ok-row.ensures.round_trip encodable is)

pub returns-in-None-clause-round_trip : goal.returns-in-None-clause-round_trip
returns-in-None-clause-round_trip c table row small encodable is = absurd (returns-in-None-clause-none c table row small encodable is)
