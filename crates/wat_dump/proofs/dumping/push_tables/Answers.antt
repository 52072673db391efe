use Rattle.wat_dump.proofs.Texts.{table_goes}
use Rattle.wat_dump.proofs.dumping.push_tables.Goals as goal

pub loop-def-preserved : goal.loop-def-preserved
loop-def-preserved c =
    table_goes c.args.tables.now c.args.indexes.now c.args.defs.now c.loop-def.def-index c.def-item.result _ c.loop-def.out.items c.push_statements.new.out.items c.loop-def-test.true c.def-item.is c.loop-def.invariant
    c.in_ok-push_statements.ensures
