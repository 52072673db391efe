-- What a visit is of.
use Rattle.std.specs.Prelude.{◌≡◌, true, false, List, Some}
use Rattle.wat_value.specs.declared.value.Value.{Value}
use Rattle.wat_value.specs.declared.place.Place.TheVariants.{At}
use Rattle.wat_isolation.specs.Machine as machine
use Rattle.wat_isolation.specs.Sql.{sql, IndexName}
use Rattle.wat_level.specs.declared.visit.Visit.{Visit}
use Rattle.wat_protocol.specs.Locked.{place_of}

-- a visit of a position of the interval, with the row that its key belongs to, whether or not that row stands
pub record IsVisitOf (s : machine.State sql) (i : IndexName) (key : List Value) (visit : Visit) : Type 0 where
  pub table : visit.table ≡ i.table
  pub index : visit.index ≡ i.index
  pub place : visit.place ≡ At key
  pub row : visit.row ≡ Some (s.scheme.row_of i key).key
  pub past : visit.past ≡ false

-- a visit of the first position past the interval, or of the end
pub record IsVisitPast (i : IndexName) (q : machine.Place sql) (visit : Visit) : Type 0 where
  pub table : visit.table ≡ i.table
  pub index : visit.index ≡ i.index
  pub place : visit.place ≡ place_of q
  pub past : visit.past ≡ true
