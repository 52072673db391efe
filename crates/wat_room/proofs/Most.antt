-- No page has more room than is said.
use Rattle.std.proofs.Common.{◌≡◌, ℕ, ◌+◌, ◌<◌, ◌≤◌, ◌==◌, Bool, true, false, if◌then◌else◌, inl, inr, arith}
use Rattle.std.specs.Prelude.{nat_lt}
use Rattle.wat_room.specs.declared.rooms.Rooms.{Rooms, Full, Page, Split'}
use Rattle.wat_room.specs.Rooms.{room_in, most_in, AreBetween}

either : (b : Bool) (m n most : ℕ) → m ≤ most → n ≤ most → (if b then m else n) ≤ most
either true m n most a b = a
either false m n most a b = b

pub at_most : (rooms : Rooms) (from to page : ℕ) → AreBetween rooms from to → room_in rooms page ≤ most_in rooms
at_most Full from to page between = omega arith
at_most (Page number room) from to page between = either (number == page) room 0 room (omega arith) (omega arith)
at_most (Split' p low boundary q high most) from to page between =
    let low_is = at_most low from boundary page between.4 in
    let high_is = at_most high boundary to page between.5 in
    either (nat_lt page boundary) (room_in low page) (room_in high page) most (omega (arith, low_is, between.2)) (omega (arith, high_is, between.3))
