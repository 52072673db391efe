use Rattle.std.proofs.Common.{◌≡◌}
use Rattle.std.specs.Map.{keys_of}
use Rattle.wat_disk.specs.Disk.{InFile, SameOthers, EachStop}
use Rattle.wat_faults.specs.Faults.{HasCause}
use Rattle.wat_restore.specs.Restored.{laid, KeepsPagesBut}
use Rattle.wat_restore.specs.Images.{AllWhole}
use Rattle.wat_images.proofs.main_file.write_pages.Given as goal

abbrev pub invariant-loop-page : goal.invariant-loop-page
invariant-loop-page g l = record {
  left : g.D.Disk.tells_content → laid ((g.D.Disk.told l.disk).content 0) l.page-iterator ≡ laid ((g.D.Disk.told l.fn.disk).content 0) l.pages.entries;
  long : AllWhole l.page-iterator → AllWhole l.pages.entries;
  others : SameOthers 0 (g.D.Disk.told l.fn.disk).content (g.D.Disk.told l.disk).content;
  stops : EachStop (g.D.Disk.told l.fn.disk) (g.D.Disk.told l.disk) (InFile 0 (KeepsPagesBut (keys_of l.pages.entries)));
  cause : HasCause (g.D.Disk.told l.fn.disk).faults (g.D.Disk.told l.disk).faults ⊥;
}
