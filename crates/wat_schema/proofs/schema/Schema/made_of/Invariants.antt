use Rattle.std.proofs.Common.{◌≡◌, drop}
use Rattle.std.specs.Option.{option_and_then}
use Rattle.wat_schema.specs.Catalog.{empty_catalog}
use Rattle.wat_schema.specs.Making.{with_tables_of, with_indexes_of}
use Rattle.wat_schema.proofs.schema.Schema.made_of.Given as goal

abbrev pub invariant-loop-i : goal.invariant-loop-i
invariant-loop-i l = with_tables_of (drop l.i l.defs) l.schema ≡ with_tables_of l.defs empty_catalog

abbrev pub invariant-loop-i-2 : goal.invariant-loop-i-2
invariant-loop-i-2 l = with_indexes_of (drop l.i l.indexes) l.schema ≡ option_and_then (with_indexes_of l.indexes) (with_tables_of l.defs empty_catalog)
