-- What the calls of the directory change.
use Rattle.std.specs.Prelude.{◌≡◌, ℕ, ◌==◌, ◌&&◌, Option, if◌then◌else◌}
use Rattle.wat_value.specs.Order.{key_eq}
use Rattle.wat_room.specs.Rooms.{AreRooms}
use Rattle.wat_rows.specs.Rows.{Row}
use Rattle.wat_directory.specs.declared.row_page.RowPage.{RowPage}
use Rattle.wat_directory.specs.declared.directory.Directory.{Directory}
use Rattle.wat_directory.specs.Known.{page_at, place_at, room_at, room_left}

-- This is known of the page now, and of all others what was.
pub record SetsPage (page : ℕ) (entry : Option RowPage) (old new : Directory) : Type 0 where
  pub pages : (other : ℕ) → page_at new other ≡ (if page == other then entry else page_at old other)
  pub rooms : AreRooms old.rooms → (other : ℕ) → room_at new other ≡ (if page == other then room_left entry else room_at old other)
  pub are : AreRooms old.rooms → AreRooms new.rooms

-- The row stands there now, and all others where they stood.
abbrev pub SetsPlace : ℕ → Row → Option ℕ → Directory → Directory → Type 0
SetsPlace table key place old new = (t : ℕ) (k : Row) → place_at new t k ≡ (if (table == t) && key_eq key k then place else place_at old t k)

-- each row stands where it stood
abbrev pub SamePlaces : Directory → Directory → Type 0
SamePlaces old new = (t : ℕ) (k : Row) → place_at new t k ≡ place_at old t k
