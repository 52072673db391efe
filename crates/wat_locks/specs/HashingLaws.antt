-- Resources that are the same are hashed alike.
use Rattle.std.proofs.Common.{◌≡◌, ap}
use Rattle.std.specs.Prelude.{IsTrue}
use Rattle.wat_value.specs.OrderLaws.{equal_of}
use Rattle.wat_locks.specs.declared.lock.Resource.{Resource}
use Rattle.wat_locks.specs.Order.{resource_cmp, resource_eq}
use Rattle.wat_locks.specs.OrderLaws.{resource_level}
use Rattle.wat_locks.specs.Hashing.{resource_hash}

pub resource_hash_alike : (r s : Resource) → IsTrue (resource_eq r s) → resource_hash r ≡ resource_hash s
resource_hash_alike r s same = ap resource_hash (resource_level r s (equal_of (resource_cmp r s) same))
