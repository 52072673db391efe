use Rattle.std.proofs.Common.{ℕ, ◌-◌, ◌<◌, ◌^◌, ◌++◌, length}
use Rattle.std.specs.Prelude.{nat_eq}
use Rattle.std.specs.List.{IsDistinct}
use Rattle.wat_disk.specs.Disk.{EachStop}
use Rattle.wat_faults.specs.Faults.{HasCause}
use Rattle.wat_restore.specs.Restored.{Checkpoint, OnlyPages}
use Rattle.wat_restore.specs.Safe.{IsSafe, Covers}
use Rattle.wat_book.specs.Book.{SameBook}
use Rattle.wat_pages.specs.Pages.{IsPagesOf, SameHead, book_of}
use Rattle.wat_payload.specs.Reading.{IsSetOf}
use Rattle.wat_files.specs.Chains.{BeginsFree}
use Rattle.wat_free_list.specs.Whole.{whole_pages}
use Rattle.wat_free_list.proofs.reading.read_free_list.Given as goal

abbrev pub invariant-loop-here : goal.invariant-loop-here
invariant-loop-here g l = record {
  set : IsSetOf l.seen.keys (l.met ++ l.list.items);
  begins : g.D.Disk.tells_content → BeginsFree (whole_pages (book_of (g.D.Disk.told l.fn.disk) l.fn.pages)) l.first l.list.items l.here;
  small : l.here < 2 ^ 32;
  once : IsDistinct nat_eq (l.met ++ l.list.items);
  same : SameHead l.fn.pages l.pages;
  book : g.D.Disk.tells_content → SameBook (book_of (g.D.Disk.told l.fn.disk) l.fn.pages) (book_of (g.D.Disk.told l.disk) l.pages);
  known : g.D.Disk.tells_content → IsPagesOf (g.D.Disk.told l.disk) l.pages;
  others : OnlyPages (g.D.Disk.told l.fn.disk).content (g.D.Disk.told l.disk).content;
  stops : g.D.Disk.tells_content → (saved : Checkpoint) → IsSafe saved (g.D.Disk.told l.fn.disk) → EachStop (g.D.Disk.told l.fn.disk) (g.D.Disk.told l.disk) (Covers saved);
  safe : g.D.Disk.tells_content → (saved : Checkpoint) → IsSafe saved (g.D.Disk.told l.fn.disk) → IsSafe saved (g.D.Disk.told l.disk);
  cause : HasCause (g.D.Disk.told l.fn.disk).faults (g.D.Disk.told l.disk).faults ⊥;
}

abbrev pub decreases-loop-here : goal.decreases-loop-here
decreases-loop-here g l = 2 ^ 32 - length l.seen.keys
