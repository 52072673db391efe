use Rattle.std.proofs.Common.{◌≡◌, ◌≢◌, ℕ, List, drop}
use Rattle.wat_disk.specs.Disk.{EachStop}
use Rattle.wat_faults.specs.Faults.{HasCause}
use Rattle.wat_restore.specs.Restored.{Checkpoint, OnlyPages}
use Rattle.wat_restore.specs.Safe.{IsSafe, Covers}
use Rattle.wat_book.specs.Book.{Owners, nobody, header, section, IsOwned}
use Rattle.wat_pages.specs.Pages.{count_of, limit_of, stored_of, header_of, IsPagesOf, book_of}
use Rattle.wat_payload.specs.Working.{IsLeft, Freed}
use Rattle.wat_payload.proofs.writing.free_pages.Given as goal

abbrev pub invariant-loop-page : goal.invariant-loop-page
invariant-loop-page g l = record {
  freed : g.D.Disk.tells_content → (me kept : ℕ) (owners : Owners) (free : List ℕ) → me ≢ nobody → me ≢ header → IsOwned (book_of (g.D.Disk.told l.fn.disk) l.fn.pages) owners free
      → IsLeft (section (book_of (g.D.Disk.told l.fn.disk) l.fn.pages) owners me) kept l.list
      → Freed me (book_of (g.D.Disk.told l.fn.disk) l.fn.pages) owners free (book_of (g.D.Disk.told l.disk) l.pages) kept (drop l.page-index l.list) l.page-index;
  count : count_of l.pages ≡ count_of l.fn.pages;
  limit : limit_of l.pages ≡ limit_of l.fn.pages;
  stored : stored_of l.pages ≡ stored_of l.fn.pages;
  header_is : header_of l.pages ≡ header_of l.fn.pages;
  known : g.D.Disk.tells_content → IsPagesOf (g.D.Disk.told l.disk) l.pages;
  others : OnlyPages (g.D.Disk.told l.fn.disk).content (g.D.Disk.told l.disk).content;
  stops : g.D.Disk.tells_content → (saved : Checkpoint) → IsSafe saved (g.D.Disk.told l.fn.disk) → EachStop (g.D.Disk.told l.fn.disk) (g.D.Disk.told l.disk) (Covers saved);
  safe : g.D.Disk.tells_content → (saved : Checkpoint) → IsSafe saved (g.D.Disk.told l.fn.disk) → IsSafe saved (g.D.Disk.told l.disk);
  cause : HasCause (g.D.Disk.told l.fn.disk).faults (g.D.Disk.told l.disk).faults ⊥;
}
