use Rattle.std.proofs.Common.{subst, sym}
use Rattle.wat_exec.specs.Making.{AreKept}
use Rattle.wat_exec.proofs.changes.change_made.Goals as goal

pub returns-clause-kept : goal.returns-clause-kept
returns-clause-kept c = λ task progress kept. c.one_more.ensures.kept task progress (subst (AreKept task progress) (sym c.take.ensures.value) kept)
