use Rattle.std.proofs.Common.{◌≡◌, take, drop}
use Rattle.wat_statement_locks.specs.Inheriting.{AreInheriting}
use Rattle.wat_statement_locks.proofs.inheritance.inheriting.Given as goal

abbrev pub invariant-loop-i : goal.invariant-loop-i
invariant-loop-i l = AreInheriting l.locks l.conn l.table (take l._i l.fn.spots) l.after × (l.left ≡ drop l._i l.fn.spots)
