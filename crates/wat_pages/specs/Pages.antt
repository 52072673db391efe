-- The pages of a database, by their numbers.
use Rattle.std.specs.Prelude.{◌≡◌, ℕ, ◌==◌, if◌then◌else◌, nat_eq, List, Some, unwrap_or}
use Rattle.std.specs.Map.{lookup}
use Rattle.wat_disk.specs.Disk.{Told}
use Rattle.wat_gate.specs.GateLog.{frames_of, IsLogOf}
use Rattle.wat_restore.specs.Head.{Head, head_bytes}
use Rattle.wat_restore.specs.Restored.{images_in, StandsIn, stored_page, Checkpoint}
use Rattle.wat_book.specs.Book.{Book}
use Rattle.wat_images.specs.Reading.{SameImages}
use Rattle.wat_pages.specs.declared.pages.Pages.{Pages}
use Rattle.wat_pages.specs.declared.header.Header.{Header}
use Rattle.wat_pages.specs.Header.{head_of}

-- the count of pages now
abbrev pub count_of : Pages → ℕ
count_of pages = pages.count

-- the stored limit of the count
abbrev pub limit_of : Pages → ℕ
limit_of pages = pages.limit

-- the first free page now, or 0
abbrev pub first_free_of : Pages → ℕ
first_free_of pages = pages.first_free

-- the header of the last checkpoint
abbrev pub header_of : Pages → Header
header_of pages = pages.header

-- the count of pages at the last checkpoint
abbrev pub stored_of : Pages → ℕ
stored_of pages = pages.stored

-- how many frames of images the before file has; by IsPagesOf as many as it has bodies
abbrev pub image_frames_of : Pages → ℕ
image_frames_of pages = frames_of pages.before

-- the bytes of a page now: as it was changed, or else as the last checkpoint has it
unfoldable pub page_in : Told → Pages → ℕ → List ℕ
page_in told pages page = unwrap_or (lookup (nat_eq page) pages.changed.entries) (stored_page told.content page)

-- The files read as the calls on these pages left them.
pub record IsPagesOf (told : Told) (pages : Pages) : Type 0 where
  pub log : IsLogOf told pages.before
  pub images : SameImages pages.images.entries (images_in (told.content 1))
  pub read : (page : ℕ) (bytes : List ℕ) → lookup (nat_eq page) pages.read.entries ≡ Some bytes → StandsIn told.content page bytes

-- The count, the limit, the free pages and the header are as before.
pub record SameHead (old new : Pages) : Type 0 where
  pub count : count_of new ≡ count_of old
  pub limit : limit_of new ≡ limit_of old
  pub free : first_free_of new ≡ first_free_of old
  pub stored : stored_of new ≡ stored_of old
  pub header : header_of new ≡ header_of old

-- the pages as their users see them
abbrev pub book_of : Told → Pages → Book
book_of told pages = record { count = count_of pages; page = page_in told pages; first_free = first_free_of pages }

-- the header that a checkpoint of the pages now saves
abbrev pub next_head : Pages → Header → Head
next_head pages header = head_of header (limit_of pages) (count_of pages) (first_free_of pages)

-- what a checkpoint of the pages now saves
abbrev pub next_checkpoint : Told → Pages → Header → Checkpoint
next_checkpoint told pages header = record {
  count = count_of pages;
  page = λ page. if page == 0 then head_bytes (next_head pages header) else page_in told pages page;
}

-- What the pages were opened with: the header of the files, and no page that is changed.
pub record IsOpenedOf (pages : Pages) (head : Head) : Type 0 where
  pub tells : head_of (header_of pages) (limit_of pages) (count_of pages) (first_free_of pages) ≡ head
  pub unchanged : stored_of pages ≡ count_of pages
