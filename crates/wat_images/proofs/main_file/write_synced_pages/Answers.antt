use Rattle.std.specs.Map.{keys_of}
use Rattle.wat_disk.proofs.Stops.{goes_on_same}
use Rattle.wat_restore.specs.Restored.{KeepsPagesBut}
use Rattle.wat_images.proofs.main_file.write_synced_pages.Goals as goal

pub returns-in-Ok-clause-stops : goal.returns-in-Ok-clause-stops
returns-in-Ok-clause-stops g c = goes_on_same 0 _ _ _ (KeepsPagesBut (keys_of c.args.images.now.entries)) c.write_pages.ensures.stops c.sync.ensures.stops

pub returns-in-Err-clause-stops : goal.returns-in-Err-clause-stops
returns-in-Err-clause-stops g c = goes_on_same 0 _ _ _ (KeepsPagesBut (keys_of c.args.images.now.entries)) c.write_pages.ensures.stops c.sync.ensures.stops
