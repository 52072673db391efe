use Rattle.wat_written_laws.proofs.NamesKept.{names_kept}
use Rattle.wat_written_laws.proofs.ReadableActs.{act_readable}
use Rattle.wat_written_laws.proofs.written_acts_are_readable.Goals as goal

pub returns-clause-readable : goal.returns-clause-readable
returns-clause-readable c = act_readable

pub returns-clause-kept : goal.returns-clause-kept
returns-clause-kept c = names_kept
