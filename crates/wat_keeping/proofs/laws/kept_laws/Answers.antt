use Rattle.wat_keeping.proofs.Calls.{first, now, committed, no_list, note}
use Rattle.wat_keeping.proofs.laws.kept_laws.Goals as goal

pub returns : goal.returns
returns g c = record {
  first = λ disk. first (g.D.Disk.told disk);
  now = λ disk. now (g.D.Disk.told disk);
  committed = λ disk. committed (g.D.Disk.told disk);
  no_list = λ disk. no_list (g.D.Disk.told disk);
  note = λ disk. note (g.D.Disk.told disk);
}
