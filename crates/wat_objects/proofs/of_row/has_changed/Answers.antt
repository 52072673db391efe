use Rattle.std.proofs.Common.{◌<◌, ◌∙◌, length, sym, arith}
use Rattle.wat_undo.specs.Kept.{lists_of}
use Rattle.wat_objects.proofs.Looking.{one_there, none_more, of_this}
use Rattle.wat_objects.proofs.of_row.has_changed.Goals as goal

pub returns-then-is_of_row : goal.returns-then-is_of_row
returns-then-is_of_row c =
    sym (one_there (of_this c.args.def.now c.args.table c.args.key.now) (lists_of c.args.undo.now c.args.conn) c.loop-i.i c.change.result.now c.change.ensures (sym c.is_of_row.ensures ∙ c.if-is_of_row.true))

pub loop-i-preserved : goal.loop-i-preserved
loop-i-preserved c =
    let within : c.loop-i.i < length (lists_of c.args.undo.now c.args.conn) = omega (arith, c.loop-i-test.true, c.count-i-end.ensures) in
    none_more (of_this c.args.def.now c.args.table c.args.key.now) (lists_of c.args.undo.now c.args.conn) c.loop-i.i c.change.result.now within c.change.ensures c.loop-i.invariant (sym c.is_of_row.ensures ∙ c.if-is_of_row.false)
