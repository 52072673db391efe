use Rattle.std.proofs.Common.{arith}
use Rattle.wat_undo.proofs.Keeping.{few_there}
use Rattle.wat_undo.proofs.undo.Undo.count.Goals as goal

pub overflow_cast-result : goal.overflow_cast-result
overflow_cast-result c = omega (arith, few_there c.self.inside.lists c.args.conn c.in-Some.list.now c.self.invariant c.in-Some.ensures.value, c.len.ensures)
