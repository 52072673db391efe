-- How much room pages have.
use Rattle.std.specs.Prelude.{◌≡◌, ℕ, ◌+◌, ◌<◌, ◌≤◌, ◌==◌, nat_lt, if◌then◌else◌}
use Rattle.wat_room.specs.declared.rooms.Rooms.{Rooms, Full, Page, Split'}

-- the room of a page, and 0 of one that isn't there
abbrev pub room_in : Rooms → ℕ → ℕ
room_in Full page = 0
room_in (Page number room) page = if number == page then room else 0
room_in (Split' p low boundary q high most) page = if nat_lt page boundary then room_in low page else room_in high page

-- no page has more
abbrev pub most_in : Rooms → ℕ
most_in Full = 0
most_in (Page number room) = room
most_in (Split' p low boundary q high most) = most

-- The pages are from one number on below another, on their side of each boundary, and none has more room than is said of its side.
abbrev pub AreBetween : Rooms → ℕ → ℕ → Type 0
AreBetween Full from to = Unit {0}
AreBetween (Page number room) from to = (from ≤ number) × (number < to)
AreBetween (Split' p low boundary q high most) from to =
    (from < boundary) × (boundary < to) × (most_in low ≤ most) × (most_in high ≤ most) × AreBetween low from boundary × AreBetween high boundary to

-- what holds of all rooms that are kept
abbrev pub AreRooms : Rooms → Type 0
AreRooms rooms = AreBetween rooms 0 4294967295

-- the least page with so much room
pub record IsLeastWith (rooms : Rooms) (size page : ℕ) : Type 0 where
  pub room : size ≤ room_in rooms page
  pub least : (other : ℕ) → other < page → room_in rooms other < size
