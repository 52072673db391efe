use Rattle.std.proofs.Common.{◌≡◌, take}
use Rattle.std.specs.List.{filter_map}
use Rattle.wat_ast.specs.declared.query.Source.{Source}
use Rattle.wat_schema.specs.Catalog.{listing_named}
use Rattle.wat_plan.proofs.source_table.source_tables.Given as goal

abbrev pub invariant-loop-source : goal.invariant-loop-source
invariant-loop-source l = l.tables ≡ filter_map (λ (s : Source). listing_named l.schema s.table) (take l.source-index l.source-items)
