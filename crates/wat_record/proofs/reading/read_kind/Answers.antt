use Rattle.wat_record.proofs.ReadingLemmas.{no_kind_long}
use Rattle.wat_record.proofs.reading.read_kind.Goals as goal

pub returns-then-most-ne0 : goal.returns-then-most-ne0
returns-then-most-ne0 c =
    no_kind_long c.args.bytes.now c.in-Some.rest.now c.in-Some-read_count.rest.now c.in-Some.tag.now c.in-Some-read_count.most c.in-Some.ensures.cases.0 c.in-1.is c.in-Some-read_count.ensures c.if-most-ne0.true
