use Rattle.std.proofs.Common.{ap, sym}
use Rattle.wat_names.specs.Refusals.{first}
use Rattle.wat_names.proofs.ColumnLemmas.{in_order_items}
use Rattle.wat_names.proofs.columns.in_orders.Goals as goal

pub loop-item-init : goal.loop-item-init
loop-item-init c = ap first (sym (in_order_items c.args.schema.now c.args.scope.now c.args.order.now))
