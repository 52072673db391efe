use Rattle.std.proofs.Common.{◌≡◌, ℕ, Err, ap}
use Rattle.std.specs.Prelude.{Result}
use Rattle.wat_disk.specs.declared.disk.DiskError.{DiskError}
use Rattle.wat_disk.specs.declared.disk.DiskError.TheVariants.{Failed}
use Rattle.wat_disk.proofs.memory.MemoryDiskDisk.length.Goals as goal

pub returns-then-not-can_call-clause-counts : goal.returns-then-not-can_call-clause-counts
returns-then-not-can_call-clause-counts c =
    let failed : Err c.fail.result ≡ Err Failed = ap (λ (e : DiskError). let r : Result ℕ DiskError = Err e in r) c.fail.ensures.failed in
    record {
      moment = c.fail.ensures.moment;
      never_falls = c.fail.ensures.never_falls;
      failed = λ is. c.fail.ensures.faults;
      kept = λ not. absurd (not failed);
      last = λ end. (failed, c.fail.ensures.content);
    }
