use Rattle.std.proofs.Common.{◌≡◌, false, map, take}
use Rattle.wat_value.specs.declared.definition.Column.{Column}
use Rattle.wat_schema.specs.Catalog.{repeats}
use Rattle.wat_schema.specs.Definitions.{same_name}
use Rattle.wat_schema.proofs.rules.names_of.Given as goal

abbrev pub invariant-loop-column : goal.invariant-loop-column
invariant-loop-column l = record { called : l.names ≡ map (λ (column : Column). column.name) (take l.column-index l.columns); once : repeats same_name (take l.column-index l.columns) ≡ false }
