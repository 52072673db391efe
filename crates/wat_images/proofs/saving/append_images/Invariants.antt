use Rattle.std.proofs.Common.{◌≡◌, ◌*◌, length, take}
use Rattle.wat_disk.specs.Disk.{SameFiles, EachStop}
use Rattle.wat_faults.specs.Faults.{HasCause}
use Rattle.wat_restore.specs.Images.{encoded, pages_of}
use Rattle.wat_images.proofs.saving.append_images.Given as goal

abbrev pub invariant-loop-page : goal.invariant-loop-page
invariant-loop-page g l = record {
  frame : g.D.Disk.tells_content → l.frame.body ≡ encoded (pages_of ((g.D.Disk.told l.fn.disk).content 0) (take l.page-index l.pages));
  size : length l.frame.body ≡ 4100 * l.page-index;
  content : SameFiles (g.D.Disk.told l.fn.disk).content (g.D.Disk.told l.disk).content;
  stops : EachStop (g.D.Disk.told l.fn.disk) (g.D.Disk.told l.disk) SameFiles;
  cause : HasCause (g.D.Disk.told l.fn.disk).faults (g.D.Disk.told l.disk).faults ⊥;
}
