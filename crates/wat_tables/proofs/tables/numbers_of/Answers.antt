use Rattle.std.proofs.Common.{ap, ◌∙◌}
use Rattle.wat_tables.proofs.Listed.{one_number}
use Rattle.wat_tables.proofs.tables.numbers_of.Goals as goal

pub loop-def-preserved : goal.loop-def-preserved
loop-def-preserved c =
    c.in_ok-insert.ensures.keys ∙ one_number c.args.defs.now c.loop-def.def-index c.def-item.result c.loop-def.numbers.keys c.requires c.loop-def-test.true c.def-item.is c.loop-def.invariant
