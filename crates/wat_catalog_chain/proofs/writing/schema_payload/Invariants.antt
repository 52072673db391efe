use Rattle.std.proofs.Common.{drop}
use Rattle.wat_catalog_chain.proofs.Walks.{Writes}
use Rattle.wat_catalog_chain.proofs.writing.schema_payload.Given as goal

abbrev pub invariant-loop-def : goal.invariant-loop-def
invariant-loop-def l = Writes l.schema l.out.items (drop l.def-index l.def-items) l.rest
