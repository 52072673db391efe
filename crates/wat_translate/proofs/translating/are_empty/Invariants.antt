use Rattle.std.proofs.Common.{◌≡◌, ◌<◌, ℕ, []}
use Rattle.wat_disk.specs.Disk.{SameFiles, EachStop}
use Rattle.wat_faults.specs.Faults.{HasCause}
use Rattle.wat_translate.proofs.translating.are_empty.Given as goal

abbrev pub invariant-loop-file : goal.invariant-loop-file
invariant-loop-file g l = record {
  empty : g.D.Disk.tells_content → (file : ℕ) → file < l.file → (g.D.Disk.told l.fn.disk).content file ≡ [];
  content : SameFiles (g.D.Disk.told l.fn.disk).content (g.D.Disk.told l.disk).content;
  stops : EachStop (g.D.Disk.told l.fn.disk) (g.D.Disk.told l.disk) SameFiles;
  cause : HasCause (g.D.Disk.told l.fn.disk).faults (g.D.Disk.told l.disk).faults ⊥;
}
