use Rattle.std.proofs.Common.{[], drop}
use Rattle.wat_disk.specs.Memory.{acts_until}
use Rattle.wat_disk.proofs.Picked.{IsReplay}
use Rattle.wat_disk.proofs.replay.left_at.Given as goal

abbrev pub invariant-loop-entry : goal.invariant-loop-entry
invariant-loop-entry l = IsReplay l.moment l.pick l.base l.content.items l.left.items (drop l.entry-index l.entries) l.rest (acts_until l.moment [] l.entries l.fn.kept)
