-- Texts that are schedules, and texts that are none.
use Rattle.std.specs.Prelude.{ℕ, List, [], ◌∷◌, true, false, codes, map}
use Rattle.wat_schedule.specs.declared.item.Item.{Item}
use Rattle.wat_schedule.specs.Schedule.{IsSchedule}

-- a turn of the connection to the end of a statement
abbrev pub turn : ℕ → Item
turn conn = record { conn = conn; single = false }

-- a single step of the connection
abbrev pub step : ℕ → Item
step conn = record { conn = conn; single = true }

-- the text is no schedule for so many connections
abbrev pub IsNone : ℕ → List ℕ → Type 0
IsNone count text = (items : List Item) → ¬ IsSchedule count text items

-- schedules of two connections, each with what it stands for
abbrev pub TwoCases : Type 0
TwoCases =
    IsSchedule 2 (codes "1 1 2") (map turn (1 ∷ 1 ∷ 2 ∷ [])) × IsSchedule 2 (codes "1 2 2") (map turn (1 ∷ 2 ∷ 2 ∷ [])) × IsSchedule 2 (codes "2 1 2") (map turn (2 ∷ 1 ∷ 2 ∷ [])) × IsSchedule 2 (codes "1 2 1 2") (map turn (1 ∷ 2 ∷ 1 ∷ 2 ∷ [])) × IsSchedule 2 (codes "1 1 2 2 1") (map turn (1 ∷ 1 ∷ 2 ∷ 2 ∷ 1 ∷ [])) × IsSchedule 2 (codes "1 1 2 2 2") (map turn (1 ∷ 1 ∷ 2 ∷ 2 ∷ 2 ∷ [])) × IsSchedule 2 (codes "1 1 2 2 1 2") (map turn (1 ∷ 1 ∷ 2 ∷ 2 ∷ 1 ∷ 2 ∷ [])) × IsSchedule 2 (codes "2 1 1 1 1 1") (map turn (2 ∷ 1 ∷ 1 ∷ 1 ∷ 1 ∷ 1 ∷ [])) × IsSchedule 2 (codes "1 1 1 1 1 2 2 2 2") (map turn (1 ∷ 1 ∷ 1 ∷ 1 ∷ 1 ∷ 2 ∷ 2 ∷ 2 ∷ 2 ∷ [])) × IsSchedule 2 (codes "1 1 1 2 2 2 2 2 2") (map turn (1 ∷ 1 ∷ 1 ∷ 2 ∷ 2 ∷ 2 ∷ 2 ∷ 2 ∷ 2 ∷ []))

-- the empty schedule, one of three connections, and some with single steps
abbrev pub OtherCases : Type 0
OtherCases =
    IsSchedule 1 [] [] × IsSchedule 3 (codes "1 2 3 1 2 3") (map turn (1 ∷ 2 ∷ 3 ∷ 1 ∷ 2 ∷ 3 ∷ [])) × IsSchedule 2 (codes "1 2.") (turn 1 ∷ step 2 ∷ []) × IsSchedule 64 (codes "64. 10") (step 64 ∷ turn 10 ∷ [])

-- texts with a wrong number
abbrev pub NumberCases : Type 0
NumberCases = IsNone 2 (codes "01") × IsNone 2 (codes "0") × IsNone 1 (codes "3") × IsNone 2 (codes "1 2 3.") × IsNone 2 (codes "+1")

-- texts with a space too many, or with a full stop that stands wrong
abbrev pub MarkCases : Type 0
MarkCases = IsNone 2 (codes " ") × IsNone 2 (codes "1 ") × IsNone 2 (codes "1  2") × IsNone 2 (codes ".") × IsNone 2 (codes "1 .2")
