-- The order in which wanted locks stand.
use Rattle.std.specs.Prelude.{ℕ, Bool}
use Rattle.std.specs.declared.cmp.Ordering.{Ordering}
use Rattle.std.specs.declared.cmp.Ordering.TheVariants.{Less, Greater}
use Rattle.std.specs.Ordering.{nat_cmp, ordering_then, eq_by_cmp}
use Rattle.wat_value.specs.Order.{key_cmp, place_cmp}
use Rattle.wat_locks.specs.declared.lock.LockKind.{LockKind}
use Rattle.wat_locks.specs.declared.lock.LockKind.TheVariants.{Read, Write, Phantom, AntiPhantom}
use Rattle.wat_locks.specs.declared.lock.Resource.{Resource}
use Rattle.wat_locks.specs.declared.lock.Resource.TheVariants.{Row, Gap}
use Rattle.wat_locks.specs.declared.lock.Lock.{Lock}

-- Read before Write, Phantom before AntiPhantom
abbrev pub kind_rank : LockKind → ℕ
kind_rank Read = 0
kind_rank Write = 1
kind_rank Phantom = 2
kind_rank AntiPhantom = 3

abbrev pub kind_cmp : LockKind → LockKind → Ordering
kind_cmp k l = nat_cmp (kind_rank k) (kind_rank l)

-- rows before gaps; gaps by table, index and place, with End last
abbrev pub resource_cmp : Resource → Resource → Ordering
resource_cmp (Row t x) (Row u y) = ordering_then (nat_cmp t u) (key_cmp x y)
resource_cmp (Row t x) (Gap u j q) = Less
resource_cmp (Gap t i p) (Row u y) = Greater
resource_cmp (Gap t i p) (Gap u j q) = ordering_then (ordering_then (nat_cmp t u) (nat_cmp i j)) (place_cmp p q)

-- two resources are level in that order, and so the same
abbrev pub resource_eq : Resource → Resource → Bool
resource_eq = eq_by_cmp resource_cmp

-- by resource, then Read before Write and Phantom before AntiPhantom
abbrev pub lock_cmp : Lock → Lock → Ordering
lock_cmp a b = ordering_then (resource_cmp a.resource b.resource) (kind_cmp a.kind b.kind)

-- two locks are level in that order, and so the same
abbrev pub lock_eq : Lock → Lock → Bool
lock_eq = eq_by_cmp lock_cmp
