use Rattle.wat_catalog_chain.proofs.Parts.{ReadsIndexes}
use Rattle.wat_catalog_chain.proofs.reading.read_indexes.Given as goal

abbrev pub invariant-loop-i : goal.invariant-loop-i
invariant-loop-i l = ReadsIndexes l.def l.bytes l.indexes l.rest l.i
