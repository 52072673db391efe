use Rattle.std.proofs.Common.{◌≤◌, length, sym, ap, arith}
use Rattle.std.proofs.lemmas.List.{length-take-le}
use Rattle.wat_pages_tests.proofs.cells.first_bytes.Goals as goal

pub slice_bounds-result-end : goal.slice_bounds-result-end
slice_bounds-result-end c =
    let room : 27 ≤ length c.as_slice-bytes.result.now = omega (arith, ap length c.as_slice-bytes.ensures.bytes, c.as_slice-bytes.ensures.whole) in
    sym (length-take-le 27 c.as_slice-bytes.result.now room)
