use Rattle.std.proofs.Common.{◌≡◌, ℕ, ◌-◌, ◌≤◌, List}
use Rattle.wat_faults.specs.Faults.{HasCause}
use Rattle.wat_pages.specs.Pages.{count_of, IsPagesOf, book_of}
use Rattle.wat_schema.specs.Catalog.{Catalog}
use Rattle.wat_schema.specs.Stored.{IsCatalog, defs_of}
use Rattle.wat_payload.specs.Reading.{IsSetOf}
use Rattle.wat_heap.specs.Heaps.{directory_of}
use Rattle.wat_roots.specs.Went.{Went, Stays}
use Rattle.wat_row_pages.specs.Taken.{TakesTo}
use Rattle.wat_row_pages.proofs.taking.take_pages.Given as goal

abbrev pub invariant-loop-page : goal.invariant-loop-page
invariant-loop-page g l = record {
  some : 1 ≤ l.page;
  within : l.page - 1 ≤ l.count - 1;
  counted : l.count ≡ count_of l.pages;
  first : l.count ≡ count_of l.fn.pages;
  takes : g.D.Disk.tells_content → (schema : Catalog) (list : List ℕ) → IsCatalog schema → defs_of schema ≡ l.defs → IsSetOf l.listed.keys list → TakesTo (book_of (g.D.Disk.told l.fn.disk) l.fn.pages) list schema l.page (directory_of l.heap);
  known : g.D.Disk.tells_content → IsPagesOf (g.D.Disk.told l.disk) l.pages;
  went : g.D.Disk.tells_content → Went (g.D.Disk.told l.fn.disk) (g.D.Disk.told l.disk) l.fn.pages l.pages;
  stays : g.D.Disk.tells_content → Stays (g.D.Disk.told l.fn.disk) (g.D.Disk.told l.disk) l.fn.pages l.pages;
  cause : HasCause (g.D.Disk.told l.fn.disk).faults (g.D.Disk.told l.disk).faults ⊥;
}

abbrev pub decreases-loop-page : goal.decreases-loop-page
decreases-loop-page g l = l.count - l.page
