use Rattle.std.proofs.Common.{drop}
use Rattle.wat_schema.specs.Tables.{Table}
use Rattle.wat_serial.proofs.Inserted.{IsSoFar}
use Rattle.wat_serial.proofs.duplicates.first_duplicate.Given as goal

abbrev pub invariant-loop-row : goal.invariant-loop-row
invariant-loop-row l = (y : Table) × IsSoFar l.table y l.seen.keys (drop l.row-index l.rows) l.rows
