-- What resources give to a hash function.
use Rattle.std.specs.Prelude.{◌++◌}
use Rattle.std.specs.Hash as fed
use Rattle.std.specs.Hash.{HashWrites}
use Rattle.wat_value.specs.Hashing.{key_hash, place_hash}
use Rattle.wat_locks.specs.declared.lock.Resource.{Resource}
use Rattle.wat_locks.specs.declared.lock.Resource.TheVariants.{Row, Gap}

-- 0 before a row, 1 before a gap
abbrev pub resource_hash : Resource → HashWrites
resource_hash (Row table key) = fed.u8 0 ++ fed.u32 table ++ key_hash key
resource_hash (Gap table index place) = fed.u8 1 ++ fed.u32 table ++ fed.u8 index ++ place_hash place
