use Rattle.wat_disk.proofs.Stops.{synced_same}
use Rattle.wat_create.proofs.Sound.{new_kept, new_left}
use Rattle.wat_create.proofs.Unmade.{made_behind, others_behind}
use Rattle.wat_create.proofs.making.create.Goals as goal

pub returns-in-Ok-write_files-clause-kept : goal.returns-in-Ok-write_files-clause-kept
returns-in-Ok-write_files-clause-kept g c tells =
    new_kept c.args.limit (g.D.Disk.told c.write_files.new.disk) c.ranges.limit.fits (c.in-Ok-write_files.ensures.made tells) c.in-Ok-write_files.ensures.synced

pub returns-in-Ok-write_files-clause-database : goal.returns-in-Ok-write_files-clause-database
returns-in-Ok-write_files-clause-database g c tells =
    new_left c.args.limit (g.D.Disk.told c.write_files.new.disk)
    (new_kept c.args.limit (g.D.Disk.told c.write_files.new.disk) c.ranges.limit.fits (c.in-Ok-write_files.ensures.made tells) c.in-Ok-write_files.ensures.synced)

pub returns-in-Ok-write_files-clause-stops : goal.returns-in-Ok-write_files-clause-stops
returns-in-Ok-write_files-clause-stops g c tells synced =
    made_behind c.args.limit _ _ _ c.find_none.ensures.stops (c.write_files.ensures.stops tells (synced_same 1 _ _ synced c.find_none.ensures.content c.find_none.ensures.stops))

pub returns-in-Ok-write_files-clause-other_stops : goal.returns-in-Ok-write_files-clause-other_stops
returns-in-Ok-write_files-clause-other_stops g c = others_behind _ _ _ c.find_none.ensures.stops c.write_files.ensures.other_stops

pub returns-clause-stops : goal.returns-clause-stops
returns-clause-stops g c tells synced =
    made_behind c.args.limit _ _ _ c.find_none.ensures.stops (c.write_files.ensures.stops tells (synced_same 1 _ _ synced c.find_none.ensures.content c.find_none.ensures.stops))

pub returns-clause-other_stops : goal.returns-clause-other_stops
returns-clause-other_stops g c = others_behind _ _ _ c.find_none.ensures.stops c.write_files.ensures.other_stops
