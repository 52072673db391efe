use Rattle.std.proofs.Common.{ℕ, List, ◌++◌}
use Rattle.wat_restore.specs.Restored.{images_from}
use Rattle.wat_images.specs.Reading.{AreWhole, HasImages}
use Rattle.wat_images.proofs.reading.read_body.Given as goal

abbrev pub invariant-loop-i : goal.invariant-loop-i
invariant-loop-i l = record {
  has : (before : List (ℕ × List ℕ)) → HasImages l.fn.images.entries before → HasImages l.images.entries (before ++ images_from l.i l.body);
  whole : AreWhole l.fn.images.entries → AreWhole l.images.entries;
}
