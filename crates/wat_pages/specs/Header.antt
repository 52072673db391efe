-- The header, of the fields that a caller gives and those that are the pages' own.
use Rattle.std.specs.Prelude.{ℕ}
use Rattle.wat_restore.specs.Head.{Head}
use Rattle.wat_pages.specs.declared.header.Header.{Header}
use Rattle.wat_pages.specs.declared.header.StoredHeader.{StoredHeader}

-- the header with a limit, a count of pages and a first free page
abbrev pub head_of : Header → ℕ → ℕ → ℕ → Head
head_of header limit count free = record {
  limit = limit;
  count = count;
  frames = header.frames;
  place = header.place;
  catalog = header.catalog;
  rollback = header.rollback;
  free = free;
  next_table = header.next_table;
}

abbrev pub stored_head : StoredHeader → Head
stored_head stored = head_of stored.header stored.limit stored.count stored.first_free
