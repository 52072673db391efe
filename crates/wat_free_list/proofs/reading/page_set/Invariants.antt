use Rattle.std.proofs.Common.{take}
use Rattle.wat_payload.specs.Reading.{IsSetOf}
use Rattle.wat_free_list.proofs.reading.page_set.Given as goal

abbrev pub invariant-loop-page : goal.invariant-loop-page
invariant-loop-page l = IsSetOf l.set.keys (take l.page-index l.pages)
