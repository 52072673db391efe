-- The pages as the files have them.
use Rattle.std.specs.Prelude.{ℕ, ◌+◌, ◌*◌, nat_le, nat_lt, List, length, Option, Some, None, if◌then◌else◌}
use Rattle.std.specs.Option.{option_or}
use Rattle.wat_disk.specs.Disk.{Image}
use Rattle.wat_restore.specs.Restored.{page_at, image_of}
use Rattle.wat_book.specs.Book.{Section}

-- a page of main, where it is whole there
abbrev pub page_in : List ℕ → ℕ → Option (List ℕ)
page_in main page = if nat_le (4096 * page + 4096) (length main) then Some (page_at main page) else None

-- a page of the files: its image, or else as main has it
abbrev pub page_of : Image → ℕ → Option (List ℕ)
page_of files page = option_or (image_of files page) (page_in (files 0) page)

-- the pages below the count
abbrev pub first_pages : Image → ℕ → Section
first_pages files count page = if nat_lt page count then page_of files page else None
