-- What a call that changes one page's cells gives back.
use Rattle.std.specs.Prelude.{ℕ, List}
use Rattle.wat_slot.specs.Cells.{IsCellPage}
use Rattle.wat_book.specs.Book.{Book, Writes}

-- the page has these cells, and no other has changed
pub record WroteCells (page : ℕ) (cells : List (List ℕ)) (old new : Book) : Type 0 where
  pub bytes : List ℕ
  pub are : IsCellPage bytes cells
  pub writes : Writes page bytes old new
