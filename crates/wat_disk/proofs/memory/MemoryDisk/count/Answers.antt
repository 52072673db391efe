use Rattle.std.proofs.Common.{◌+◌, arith}
use Rattle.wat_disk.proofs.Record.{counts_on, still_left, record_counts}
use Rattle.wat_disk.proofs.memory.MemoryDisk.count.Goals as goal

pub invariant_of-self : goal.invariant_of-self
invariant_of-self c =
    let s = c.args.self.now in
    record {
      replayable = record_counts s.base.items s.files.items s.entries.items s.kept.items s.moment s.replayable;
      roomy = s.roomy;
    }

pub returns-clause-stops : goal.returns-clause-stops
returns-clause-stops c = let s = c.args.self.now in counts_on s.base.items s.entries.items s.kept.items s.moment s.replayable.past s.files.items s.files.items s.faults s.faults

pub returns-clause-unsynced : goal.returns-clause-unsynced
returns-clause-unsynced c = let s = c.args.self.now in still_left s.base.items s.entries.items s.kept.items s.moment s.replayable.past s.files.items s.files.items s.faults s.faults (s.moment + 1) (omega arith)
