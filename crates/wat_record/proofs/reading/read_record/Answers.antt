use Rattle.std.proofs.Common.{◌-◌, Some, length}
use Rattle.wat_record.proofs.ReadingLemmas.{record_spelled, once}
use Rattle.wat_record.proofs.reading.read_record.Goals as goal

pub returns-in-Some-clause-round_trip : goal.returns-in-Some-clause-round_trip
returns-in-Some-clause-round_trip c entry can rest is =
    let spelled = record_spelled c.args.bytes.now c.in-Some.rest.now c.in-Some.entry (rw c.in-Some.is at c.in_ok-entry.ensures) in
    let one = once c.args.bytes.now entry c.in-Some.entry rest (length c.args.bytes.now - length c.in-Some.rest.now) can is spelled in
    λ i. Some (one.0 i, one.1 i)
