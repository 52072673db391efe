use Rattle.wat_dump.proofs.Texts.{whole_table}
use Rattle.wat_dump.proofs.dumping.push_statements.Goals as goal

pub returns : goal.returns
returns c =
    whole_table c.args.tables.now c.schema-schema.result.now c.args.def.now c.args.indexes.now c.args.out.now.items c.push_table.new.out.items c.push_indexes.new.out.items c.push_rows_called.new.out.items c.schema-schema.ensures c.in_ok-push_table.ensures
    c.in_ok-push_indexes.ensures c.in_ok-push_rows_called.ensures
