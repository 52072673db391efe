use Rattle.wat_restore.proofs.Covering.{covered_restores}
use Rattle.wat_restore.proofs.Heads.{one_page, one_head}
use Rattle.wat_restore.proofs.laws.restore_laws.Goals as goal

pub returns : goal.returns
returns c = record { restores = covered_restores; one_page = one_page; one_head = one_head }
