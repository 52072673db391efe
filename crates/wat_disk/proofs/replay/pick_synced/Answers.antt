use Rattle.std.proofs.Common.{◌∙◌}
use Rattle.wat_disk.specs.Memory.{bytes_at}
use Rattle.wat_disk.proofs.Record.{bytes_at-set}
use Rattle.wat_disk.proofs.replay.pick_synced.Goals as goal

pub returns-clause-files : goal.returns-clause-files
returns-clause-files c =
    bytes_at-set c.args.left.now.items c.args.file c.in_ok-held.held (λ f. bytes_at c.args.content.now f) c.requires (c.in_ok-held.ensures.same ∙ c.bytes_of.ensures)
