use Rattle.std.proofs.Common.{◌≡◌, ◌+◌, drop}
use Rattle.wat_catalog_chain.specs.Definitions.{leading}
use Rattle.wat_catalog_chain.proofs.writing.leading.Given as goal

abbrev pub invariant-loop-index : goal.invariant-loop-index
invariant-loop-index l = record {
  same : l.count ≡ l.index-index;
  more : leading l.table l.indexes ≡ l.count + leading l.table (drop l.index-index l.indexes);
}
