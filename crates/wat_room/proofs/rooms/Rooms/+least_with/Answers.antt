use Rattle.std.proofs.Common.{◌<◌, ap, arith}
use Rattle.wat_room.specs.Rooms.{room_in, most_in}
use Rattle.wat_room.proofs.Most.{at_most}
use Rattle.wat_room.proofs.rooms.Rooms.+least_with.Goals as goal

pub returns-then-most-size-clause-none : goal.returns-then-most-size-clause-none
returns-then-most-size-clause-none t c from to between some page = omega (arith, at_most c.args.self.now from to page between, ap most_in c.in-Split.is, c.if-most-size.true)
