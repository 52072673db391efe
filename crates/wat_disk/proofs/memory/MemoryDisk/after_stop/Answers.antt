use Rattle.std.proofs.Common.{◌≡◌, [], ℕ, ◌∙◌, ap, sym, subst, length}
use Rattle.wat_disk.specs.declared.memory.MemoryDisk.{MemoryDisk}
use Rattle.wat_disk.specs.Acts.{LeftAfter}
use Rattle.wat_disk.specs.Disk.{SameFiles}
use Rattle.wat_disk.specs.Memory.{bytes_at, acts_until}
use Rattle.wat_disk.specs.MemoryDisk.{told_of}
use Rattle.wat_disk.specs.Picks.{picked_after}
use Rattle.wat_disk.proofs.Picked.{picked_is_left}
use Rattle.wat_disk.proofs.Record.{if_ok-more}
use Rattle.wat_disk.proofs.memory.MemoryDisk.after_stop.Goals as goal

pub left_at-requires-clause-eight : goal.left_at-requires-clause-eight
left_at-requires-clause-eight c = ap length c.deref.ensures.value ∙ c.args.self.now.replayable.base_eight

pub returns-clause-left : goal.returns-clause-left
returns-clause-left c =
    let s = c.args.self.now in
    let acts = acts_until c.args.moment [] s.entries.items s.kept.items in
    let files = c.in_ok-files.files in
    let picked : (f : ℕ) → bytes_at files.items f ≡ picked_after c.args.pick (bytes_at s.base.items) acts f = λ f.
    c.in_ok-files.ensures.left f
    ∙ (λ i. picked_after c.args.pick (bytes_at (c.deref.ensures.value i)) (acts_until c.args.moment [] (c.deref-2.ensures.value i) (c.deref-3.ensures.value i)) f) in
    if_ok-more (λ (disk : MemoryDisk). SameFiles (bytes_at files.items) (told_of disk).content) (λ (disk : MemoryDisk). (told_of s).left_at c.args.moment (told_of disk).content) c.new-2.result
    (λ (disk : MemoryDisk) same f. subst (LeftAfter (bytes_at s.base.items) acts f) (sym (same f ∙ picked f)) (picked_is_left c.args.pick (bytes_at s.base.items) acts f))
    c.new-2.ensures.content
