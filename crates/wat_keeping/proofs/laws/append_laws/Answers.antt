use Rattle.wat_keeping.proofs.Calls.{append_stopped, append_stays, commits}
use Rattle.wat_keeping.proofs.laws.append_laws.Goals as goal

pub returns : goal.returns
returns g c = record {
  stop = λ old new. append_stopped (g.D.Disk.told old) (g.D.Disk.told new);
  kept = λ old new. append_stays (g.D.Disk.told old) (g.D.Disk.told new);
  commits = λ disk. commits (g.D.Disk.told disk);
}
