use Rattle.wat_keeping.proofs.Calls.{checkpoint_stopped, checkpoint_stays}
use Rattle.wat_keeping.proofs.laws.checkpoint_laws.Goals as goal

pub returns : goal.returns
returns g c = record {
  stop = λ old new. checkpoint_stopped (g.D.Disk.told old) (g.D.Disk.told new);
  kept = λ old new. checkpoint_stays (g.D.Disk.told old) (g.D.Disk.told new);
}
