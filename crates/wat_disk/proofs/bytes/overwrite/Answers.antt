use Rattle.std.proofs.Common.{◌+◌, ◌++◌, length, take, drop, ◌∙◌}
use Rattle.wat_disk.proofs.Writes.{written_grown}
use Rattle.wat_disk.proofs.bytes.overwrite.Goals as goal

pub returns-clause-written : goal.returns-clause-written
returns-clause-written c =
    c.paste.ensures.pasted ∙ (λ i. take c.args.at (c.fill_up.ensures.filled i) ++ c.args.bytes.now ++ drop (c.args.at + length c.args.bytes.now) (c.fill_up.ensures.filled i))
    ∙ written_grown c.args.held.now.items c.args.bytes.now c.args.at
