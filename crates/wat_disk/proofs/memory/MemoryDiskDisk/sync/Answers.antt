use Rattle.std.proofs.Common.{[], refl, sym, arith}
use Rattle.std.proofs.lemmas.List.{append-nil}
use Rattle.wat_disk.proofs.Record.{record_adds, sync_adds, sync_is_synced}
use Rattle.wat_disk.proofs.memory.MemoryDiskDisk.sync.Goals as goal

pub invariant_of-self-clause-replayable : goal.invariant_of-self-clause-replayable
invariant_of-self-clause-replayable c =
    let s = c.args.self.now in
    record_adds s.base.items s.files.items s.files.items s.entries.items c.push.new.self.items s.kept.items [] s.kept.items s.moment s.faults s.replayable
    _ refl (rw c.unwrap.ensures at c.push.ensures.items) (sym (append-nil s.kept.items)) (record { of_eight = c.requires; in_range = omega arith }) refl s.replayable.eight s.replayable.replayed

pub returns-clause-synced : goal.returns-clause-synced
returns-clause-synced c =
    let s = c.args.self.now in
    sync_is_synced s.base.items s.files.items s.files.items s.entries.items c.push.new.self.items s.kept.items [] s.kept.items s.moment s.faults s.replayable
    _ refl (rw c.unwrap.ensures at c.push.ensures.items) (sym (append-nil s.kept.items)) c.args.file.0 refl refl

pub returns-clause-stops : goal.returns-clause-stops
returns-clause-stops c =
    let s = c.args.self.now in
    sync_adds s.base.items s.files.items s.files.items s.entries.items c.push.new.self.items s.kept.items [] s.kept.items s.moment s.faults s.replayable
    _ refl (rw c.unwrap.ensures at c.push.ensures.items) (sym (append-nil s.kept.items)) c.args.file.0 refl
