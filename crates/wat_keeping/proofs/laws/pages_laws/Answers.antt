use Rattle.wat_keeping.proofs.Calls.{pages_stopped, pages_stay}
use Rattle.wat_keeping.proofs.laws.pages_laws.Goals as goal

pub returns : goal.returns
returns g c = record {
  stop = λ old new. pages_stopped (g.D.Disk.told old) (g.D.Disk.told new);
  kept = λ old new. pages_stay (g.D.Disk.told old) (g.D.Disk.told new);
}
