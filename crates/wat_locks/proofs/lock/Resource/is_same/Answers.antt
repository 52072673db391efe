use Rattle.std.proofs.Common.{◌∙◌, sym, ap}
use Rattle.std.specs.Ordering.{is_eq}
use Rattle.wat_value.specs.OrderLaws.{equal_of}
use Rattle.wat_locks.specs.Order.{resource_cmp}
use Rattle.wat_locks.specs.OrderLaws.{resource_level, resource_itself}
use Rattle.wat_locks.proofs.lock.Resource.is_same.Goals as goal

pub returns : goal.returns
returns c = (
  λ yes. resource_level _ _ (equal_of (resource_cmp c.args.self.now c.args.other.now) (sym c.eq.ensures ∙ yes)),
  λ same. c.eq.ensures ∙ ap is_eq (resource_itself _ _ same),
)
