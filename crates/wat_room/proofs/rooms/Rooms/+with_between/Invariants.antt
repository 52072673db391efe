use Rattle.std.proofs.Common.{◌-◌}
use Rattle.wat_room.proofs.rooms.Rooms.+with_between.Given as goal

abbrev pub decreases-with_between : goal.decreases-with_between
decreases-with_between l = l.to - l.from
