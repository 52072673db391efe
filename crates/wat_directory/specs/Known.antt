-- What the directory knows of the row pages.
use Rattle.std.specs.Prelude.{◌≡◌, ◌≢◌, ℕ, ◌+◌, ◌-◌, ◌<◌, ◌≤◌, List, [], ◌∷◌, length, Option, Some, None, ◌⊎◌, if◌then◌else◌}
use Rattle.std.specs.List.{position}
use Rattle.std.specs.Option.{option_map, option_and_then}
use Rattle.std.specs.Ordering.{nat_cmp}
use Rattle.std.specs.BTreeMap.{get}
use Rattle.wat_value.specs.Order.{key_cmp}
use Rattle.wat_book.specs.Book.{Section}
use Rattle.wat_room.specs.Rooms.{AreRooms, room_in}
use Rattle.wat_rows.specs.declared.name.RowName.{RowName}
use Rattle.wat_rows.specs.Rows.{Row, NamedRow, RowMap, Defs, names_of, used_by, name_is, row_cell, size_of}
use Rattle.wat_rows.specs.Pages.{Layout, PlaceMap, AreNamed, AreRowPages, is_at}
use Rattle.wat_directory.specs.declared.places.Places.{Places}
use Rattle.wat_directory.specs.declared.row_page.RowPage.{RowPage}
use Rattle.wat_directory.specs.declared.directory.Directory.{Directory}
use Rattle.wat_directory.specs.declared.directory.Spot.{Spot}

-- the page of a row, by table and key
abbrev pub place_in : Places → ℕ → Row → Option ℕ
place_in places table key = option_and_then (λ keys. get key_cmp keys key) (get nat_cmp places.tables table)

abbrev pub place_at : Directory → ℕ → Row → Option ℕ
place_at d table key = place_in d.places table key

abbrev pub page_at : Directory → ℕ → Option RowPage
page_at d page = get nat_cmp d.pages page

abbrev pub names_in : Option RowPage → List RowName
names_in None = []
names_in (Some entry) = entry.names

-- how many row pages there are
abbrev pub row_pages : Directory → ℕ
row_pages d = length d.pages.entries

-- how many bytes of cells they have, with the cells' lengths
abbrev pub used_in : List (ℕ × RowPage) → ℕ
used_in [] = 0
used_in (entry ∷ entries) = entry.1.used + used_in entries

abbrev pub used_bytes : Directory → ℕ
used_bytes d = used_in d.pages.entries

abbrev pub room_at : Directory → ℕ → ℕ
room_at d page = room_in d.rooms page

-- how many bytes of cells a page still takes, of 4,080
abbrev pub room_left : Option RowPage → ℕ
room_left None = 0
room_left (Some entry) = 4080 - entry.used

abbrev pub spot_on : ℕ → Row → ℕ → Option RowPage → Option Spot
spot_on table key page None = None
spot_on table key page (Some entry) = option_map (λ cell. record { page = page; cell = cell }) (position (name_is table key) entry.names)

abbrev pub spot_by : Directory → ℕ → Row → Option ℕ → Option Spot
spot_by d table key None = None
spot_by d table key (Some page) = spot_on table key page (page_at d page)

-- on which page a row stands, and as which cell
abbrev pub spot_at : Directory → ℕ → Row → Option Spot
spot_at d table key = spot_by d table key (place_at d table key)

-- what is known of a page of these rows
abbrev pub entry_of : List NamedRow → RowPage
entry_of rows = record { used = used_by rows; names = names_of rows }

-- The directory knows these pages' rows, where each row stands, and how much room each page has.
pub record Knows (d : Directory) (on : Layout) (place : PlaceMap) : Type 0 where
  pub pages : (page : ℕ) → page_at d page ≡ option_map entry_of (on page)
  pub places : (table : ℕ) (key : Row) → place_at d table key ≡ place table key
  pub rooms : (page : ℕ) → room_at d page ≡ room_left (page_at d page)
  pub are : AreRooms d.rooms

-- The pages of the section hold these rows, and the directory knows where.
pub record Holds (d : Directory) (pages : Section) (defs : Defs) (rows : RowMap) : Type 0 where
  pub on : Layout
  pub place : PlaceMap
  pub stand : AreRowPages pages on
  pub named : AreNamed defs on place rows
  pub knows : Knows d on place

-- the least row page with room for so many bytes of cells
pub record IsLeastRoom (d : Directory) (size page : ℕ) : Type 0 where
  pub entry : RowPage
  pub is : page_at d page ≡ Some entry
  pub room : entry.used + size ≤ 4080
  pub least : (other : ℕ) (its : RowPage) → other < page → page_at d other ≡ Some its → 4080 < its.used + size

-- no row page has room for so many bytes of cells
abbrev pub NoRoom : Directory → ℕ → Type 0
NoRoom d size = (page : ℕ) (entry : RowPage) → page_at d page ≡ Some entry → 4080 < entry.used + size

-- the page is a row page with room for so many bytes of cells
pub record IsRoomy (d : Directory) (page size : ℕ) : Type 0 where
  pub entry : RowPage
  pub is : page_at d page ≡ Some entry
  pub room : entry.used + size ≤ 4080

-- The cells of the page take so many bytes less, and all other pages are known as before.
pub record LessUsed (page size : ℕ) (old new : Directory) : Type 0 where
  pub before : RowPage
  pub after : RowPage
  pub was : page_at old page ≡ Some before
  pub is : page_at new page ≡ Some after
  pub less : after.used + size ≡ before.used
  pub others : (other : ℕ) → other ≢ page → page_at new other ≡ page_at old other

-- how many bytes the row's own cell takes, and none where it doesn't stand
abbrev pub own_size : ℕ → Option Row → ℕ
own_size table None = 0
own_size table (Some before) = size_of (row_cell table before)

-- how many bytes the row's own cell takes on a page
abbrev pub own_on : Directory → RowMap → ℕ → Row → ℕ → ℕ
own_on d rows table key page = if is_at page (place_at d table key) then own_size table (rows table key) else 0

-- No row page has room for so many bytes of the row's cell, where its own old cell is not counted.
abbrev pub NoRoomFor : Directory → RowMap → ℕ → Row → ℕ → Type 0
NoRoomFor d rows table key size = (page : ℕ) (entry : RowPage) → page_at d page ≡ Some entry → 4080 + own_on d rows table key page < entry.used + size

-- the row's own page has room for it
pub record HasOwnRoom (d : Directory) (rows : RowMap) (table : ℕ) (key : Row) (size page : ℕ) : Type 0 where
  pub place : place_at d table key ≡ Some page
  pub room : (entry : RowPage) → page_at d page ≡ Some entry → entry.used + size ≤ 4080 + own_on d rows table key page

-- the page where the row is to stand: its own where that has room, and else the least with room
abbrev pub IsChosen : Directory → RowMap → ℕ → Row → ℕ → ℕ → Type 0
IsChosen d rows table key size page =
    HasOwnRoom d rows table key size page ⊎ (((own : ℕ) → HasOwnRoom d rows table key size own → ⊥) × IsLeastRoom d size page)
