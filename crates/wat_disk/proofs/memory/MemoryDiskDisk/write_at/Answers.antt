use Rattle.std.proofs.Common.{◌≡◌, refl, ap, sym, ◌∙◌, length, take, arith, [], ◌∷◌}
use Rattle.std.proofs.lemmas.List.{take_all}
use Rattle.wat_disk.specs.Acts.{Act, Wrote, content_after}
use Rattle.wat_disk.specs.Memory.{bytes_at, acts_until}
use Rattle.wat_disk.proofs.Record.{record_adds, write_adds, replays_write, same_in_file}
use Rattle.wat_disk.proofs.memory.MemoryDiskDisk.write_at.Goals as goal

pub invariant_of-self-clause-replayable : goal.invariant_of-self-clause-replayable
invariant_of-self-clause-replayable c =
    let s = c.args.self.now in
    let bytes = c.args.bytes.now in
    let all : take (length bytes) bytes ≡ bytes = take_all (length bytes) bytes (omega arith) in
    let acts = acts_until s.moment [] s.entries.items s.kept.items in
    let wrote : Wrote c.args.file.0 c.args.at (take (length bytes) bytes) ≡ Wrote c.args.file.0 c.args.at bytes = ap (Wrote c.args.file.0 c.args.at) all in
    record_adds s.base.items s.files.items c.write_file.new.files.items s.entries.items c.push.new.self.items s.kept.items bytes c.extend_from_slice.new.self.items s.moment s.faults s.replayable
    _ refl (rw c.unwrap-2.ensures at c.push.ensures.items) (rw c.unwrap.ensures at c.extend_from_slice.ensures.items) (record { of_eight = c.requires; in_range = (c.if-not-can_write.ensures.0 refl).in_range }) refl (c.write_file.ensures.as_many ∙ s.replayable.eight)
    (λ f. replays_write s.base.items s.files.items c.write_file.new.files.items acts c.args.file.0 c.args.at bytes s.replayable.replayed c.write_file.ensures.files f
    ∙ ap (λ (a : Act). content_after (bytes_at s.base.items) (a ∷ acts) f) (sym wrote))

pub returns-clause-stops : goal.returns-clause-stops
returns-clause-stops c =
    let s = c.args.self.now in
    let bytes = c.args.bytes.now in
    let all : take (length bytes) bytes ≡ bytes = take_all (length bytes) bytes (omega arith) in
    write_adds s.base.items s.files.items c.write_file.new.files.items s.entries.items c.push.new.self.items s.kept.items bytes c.extend_from_slice.new.self.items s.moment s.faults s.replayable
    _ refl (rw c.unwrap-2.ensures at c.push.ensures.items) (rw c.unwrap.ensures at c.extend_from_slice.ensures.items) c.args.file.0 c.args.at (ap (Wrote c.args.file.0 c.args.at) all)

pub returns-then-not-can_write-clause-stops : goal.returns-then-not-can_write-clause-stops
returns-then-not-can_write-clause-stops c = same_in_file c.args.file.0 c.args.at (length c.args.bytes.now) _ _ c.fail.ensures.stops
