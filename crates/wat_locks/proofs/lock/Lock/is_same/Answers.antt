use Rattle.std.proofs.Common.{◌∙◌, sym, ap}
use Rattle.std.specs.Ordering.{is_eq}
use Rattle.wat_value.specs.OrderLaws.{equal_of}
use Rattle.wat_locks.specs.Order.{lock_cmp}
use Rattle.wat_locks.specs.OrderLaws.{lock_level, lock_itself}
use Rattle.wat_locks.proofs.lock.Lock.is_same.Goals as goal

pub returns : goal.returns
returns c = (
  λ yes. lock_level _ _ (equal_of (lock_cmp c.args.self.now c.args.other.now) (sym c.eq.ensures ∙ yes)),
  λ same. c.eq.ensures ∙ ap is_eq (lock_itself _ _ same),
)
