use Rattle.std.proofs.Common.{arith}
use Rattle.wat_undo.proofs.Keeping.{none_open_past, none_open_from, least_open}
use Rattle.wat_undo.proofs.lists.least_from.Goals as goal

pub returns-then-from-gt65535 : goal.returns-then-from-gt65535
returns-then-from-gt65535 c = none_open_past c.args.lists.now.entries c.args.from c.requires (omega arith)

pub returns-in-Some : goal.returns-in-Some
returns-in-Some c =
    least_open c.args.lists.now.entries c.range.result c.args.from c.in-Some.conn.now c.in-Some.field-0-1.now c.next.new.self c.requires (c.range.ensures.between tt) c.in-Some.ensures.steps

pub returns-in-None : goal.returns-in-None
returns-in-None c = none_open_from c.args.lists.now.entries c.range.result c.args.from (c.range.ensures.between tt) c.in-None.ensures.steps.0
