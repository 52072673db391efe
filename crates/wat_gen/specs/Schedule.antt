-- The schedule of a session that is made up.
use Rattle.std.specs.Prelude.{ℕ, ◌+◌, ◌*◌, false, List, ◌++◌, replicate}
use Rattle.wat_schedule.specs.declared.item.Item.{Item}
use Rattle.wat_gen.specs.Numbers.{Drawn, ◌>>=◌, draw, given, in_a_row}

-- a turn of a connection, to the end of a statement
abbrev pub turn_of : ℕ → Item
turn_of conn = record { conn = conn; single = false }

-- a turn of one of the eight connections
unfoldable pub drawn_turn : Drawn Item
drawn_turn = do
  before ← draw 8
  given (turn_of (before + 1))

-- the schedule of scripts with so many transactions each: the turns in which connection 1 makes and fills the table,
-- and then as many turns that are drawn as the transactions have statements
unfoldable pub drawn_schedule : ℕ → Drawn (List Item)
drawn_schedule count = do
  turns ← in_a_row (32 * count) drawn_turn
  given (replicate 103 (turn_of 1) ++ turns)
