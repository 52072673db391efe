-- The header's page, page 0.
use Rattle.std.specs.Prelude.{◌≡◌, ℕ, ◌-◌, ◌<◌, ◌≤◌, ◌^◌, ◌++◌, List, take, drop, codes, replicate}
use Rattle.std.specs.Int.{w32, w64, to_be_bytes, from_be_bytes}

-- What the header tells.
pub record Head : Type 0 where
  -- the greatest number of pages that statements may take, and how many there are
  pub limit : ℕ
  pub count : ℕ
  -- the log's frames at the checkpoint, and the place of its gate there
  pub frames : ℕ
  pub place : ℕ
  -- the first pages of the catalog, of the changes to roll back and of the free list; 0 where there is none
  pub catalog : ℕ
  pub rollback : ℕ
  pub free : ℕ
  -- the number of the next table
  pub next_table : ℕ

-- the fields, one behind the other, behind the name of the format, its version and the size of a page
abbrev pub head_fields : Head → List ℕ
head_fields head =
    codes "WATSQL01" ++ to_be_bytes w32 1 ++ to_be_bytes w32 4096 ++ to_be_bytes w32 head.limit ++ to_be_bytes w32 head.count ++ to_be_bytes w64 head.frames ++ to_be_bytes w64 head.place
    ++ to_be_bytes w32 head.catalog ++ to_be_bytes w32 head.rollback ++ to_be_bytes w32 head.free ++ to_be_bytes w32 head.next_table

-- page 0: its fields, and zeros behind them
unfoldable pub head_bytes : Head → List ℕ
head_bytes head = head_fields head ++ replicate (4096 - 56) 0

-- Each number has the width of its field, and there are two pages at least.
pub record FitsPage (head : Head) : Type 0 where
  pub some : 2 ≤ head.count
  pub limit : head.limit < 2 ^ 32
  pub count : head.count < 2 ^ 32
  pub frames : head.frames < 2 ^ 64
  pub place : head.place < 2 ^ 64
  pub catalog : head.catalog < 2 ^ 32
  pub rollback : head.rollback < 2 ^ 32
  pub free : head.free < 2 ^ 32
  pub next_table : head.next_table < 2 ^ 32

-- The page is the header's, and tells this.
pub record IsHead (page : List ℕ) (head : Head) : Type 0 where
  pub bytes : page ≡ head_bytes head
  pub fits : FitsPage head

-- numbers of 4 and of 8 bytes at a place of a page
abbrev pub number_at : List ℕ → ℕ → ℕ
number_at page at = from_be_bytes w32 (take 4 (drop at page))

abbrev pub long_at : List ℕ → ℕ → ℕ
long_at page at = from_be_bytes w64 (take 8 (drop at page))

-- what stands in the fields of a page
pub record ReadsAs (page : List ℕ) (head : Head) : Type 0 where
  pub limit : number_at page 16 ≡ head.limit
  pub count : number_at page 20 ≡ head.count
  pub frames : long_at page 24 ≡ head.frames
  pub place : long_at page 32 ≡ head.place
  pub catalog : number_at page 40 ≡ head.catalog
  pub rollback : number_at page 44 ≡ head.rollback
  pub free : number_at page 48 ≡ head.free
  pub next_table : number_at page 52 ≡ head.next_table
