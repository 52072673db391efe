-- Whose pages are, told from the chains that the header leads to.
use Rattle.std.specs.Prelude.{◌≡◌, ◌↔◌, ℕ, ◌<◌, ◌==◌, nat_eq, false, List, if◌then◌else◌}
use Rattle.std.specs.List.{list_any}
use Rattle.wat_disk.specs.Disk.{Image}
use Rattle.wat_restore.specs.Head.{Head}
use Rattle.wat_restore.specs.Restored.{StandsIn, stored_page}
use Rattle.wat_book.specs.Book.{Book, Owners, nobody, header, section, IsOwned}
use Rattle.wat_book.specs.Chains.{HoldsPayload}
use Rattle.wat_rows.specs.Pages.{of_rows}
use Rattle.wat_files.specs.Chains.{Chains, listed}
use Rattle.wat_held.specs.Held.{in_catalog, in_rollback, AreKnown}

-- page 0 is the header's, the pages of the lists are theirs, and all others are of rows
abbrev pub owners_by : Chains → Owners
owners_by chains page =
    if page == 0 then header
    else (if list_any (nat_eq page) chains.catalog then in_catalog
    else (if list_any (nat_eq page) chains.rollback then in_rollback
    else (if list_any (nat_eq page) chains.free then nobody else of_rows)))

-- Each page has an owner: the two chains stand on pages of their own, the free ones are listed, and all that no list has are of rows.
pub record AreOwned (book : Book) (head : Head) (chains : Chains) : Type 0 where
  pub owned : IsOwned book (owners_by chains) chains.free
  pub known : AreKnown book.count (owners_by chains)
  pub catalog : HoldsPayload (section book (owners_by chains) in_catalog) head.catalog chains.schema
  pub rollback : HoldsPayload (section book (owners_by chains) in_rollback) head.rollback chains.changes
  pub rows : (page : ℕ) → 0 < page → (owners_by chains page ≡ of_rows) ↔ (list_any (nat_eq page) (listed chains) ≡ false)

-- The pages read as the files have them, by their header.
pub record ReadsAs (book : Book) (files : Image) (head : Head) : Type 0 where
  pub count : book.count ≡ head.count
  pub free : book.first_free ≡ head.free
  pub pages : (page : ℕ) (bytes : List ℕ) → StandsIn files page bytes → book.page page ≡ bytes

-- Each page below the count has the bytes that the files have at its place, whole or not.
abbrev pub HasStored : Book → Image → Type 0
HasStored book files = (page : ℕ) → page < book.count → book.page page ≡ stored_page files page
