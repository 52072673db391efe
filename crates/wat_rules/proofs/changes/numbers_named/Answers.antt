use Rattle.wat_schema.specs.Catalog.{column_at}
use Rattle.wat_typing.proofs.Steps.{filter_map_next}
use Rattle.wat_rules.proofs.changes.numbers_named.Goals as goal

pub loop-name-preserved : goal.loop-name-preserved
loop-name-preserved c =
    filter_map_next (column_at c.args.schema.now c.args.table) c.args.names.now c.loop-name.name-index c.name-item.result c.loop-name.numbers c.add_number.new.numbers c.loop-name-test.true c.name-item.is c.loop-name.invariant c.in_ok-add_number.ensures
