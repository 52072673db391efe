-- What a call that only reads pages leaves.
use Rattle.wat_disk.specs.Disk.{Told}
use Rattle.wat_book.specs.Book.{SameBook}
use Rattle.wat_pages.specs.declared.pages.Pages.{Pages}
use Rattle.wat_pages.specs.Pages.{SameHead, book_of}
use Rattle.wat_cells.specs.Going.{Goes, Keeps}

-- Whatever the call answers: the count, the limit, the free pages and the header are as before, and a stop within it leaves the last checkpoint.
pub record Went (old new : Told) (before after : Pages) : Type 0 where
  pub head : SameHead before after
  pub goes : Goes old new before after

-- Where it is Ok: all pages are as before, and a stop after it leaves the last checkpoint.
pub record Stays (old new : Told) (before after : Pages) : Type 0 where
  pub pages : SameBook (book_of old before) (book_of new after)
  pub keeps : Keeps old new after
