-- The text of a schedule.
use Rattle.std.specs.Prelude.{◌≡◌, ℕ, ◌≤◌, List, [], ◌++◌, All, codes, decimal, if◌then◌else◌}
use Rattle.std.specs.List.{join_by}
use Rattle.wat_schedule.specs.declared.item.Item.{Item}

-- connections have the numbers from 1 to their count
pub record IsConnection (count conn : ℕ) : Type 0 where
  pub first : 1 ≤ conn
  pub last : conn ≤ count

-- an item as it is written: the number of its connection, with a full stop behind it where it is a single step
abbrev pub item_text : Item → List ℕ
item_text item = decimal item.conn ++ (if item.single then codes "." else [])

-- a schedule as it is written: its items with one space between, and nothing where it has none
abbrev pub schedule_text : List Item → List ℕ
schedule_text items = join_by item_text (codes " ") items

-- the text is the schedule of these items, for so many connections
pub record IsSchedule (count : ℕ) (text : List ℕ) (items : List Item) : Type 0 where
  pub spelled : text ≡ schedule_text items
  pub within : All (λ item. IsConnection count item.conn) items
