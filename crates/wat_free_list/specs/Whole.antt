-- The pages that are whole.
use Rattle.std.specs.Prelude.{ℕ, ◌==◌, ◌&&◌, nat_lt, List, length, Option, Some, None, if◌then◌else◌}
use Rattle.wat_book.specs.Book.{Book, Section}

-- the pages below the count that have all their bytes
abbrev pub whole_pages : Book → Section
whole_pages book page = if nat_lt page book.count && (length (book.page page) == 4096) then Some (book.page page) else None
