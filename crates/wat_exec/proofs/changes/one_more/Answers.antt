use Rattle.wat_exec.proofs.KeptLemmas.{counted_one}
use Rattle.wat_exec.proofs.changes.one_more.Goals as goal

pub returns-then-made-len-clause-made : goal.returns-then-made-len-clause-made
returns-then-made-len-clause-made c task progress k change is kept next = counted_one task progress c.args.changes c.in-Some.field-0 change c.in-Some.is kept next
