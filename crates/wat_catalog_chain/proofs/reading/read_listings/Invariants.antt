use Rattle.wat_catalog_chain.specs.Definitions.{BeginsListings}
use Rattle.wat_catalog_chain.proofs.reading.read_listings.Given as goal

abbrev pub invariant-loop-i : goal.invariant-loop-i
invariant-loop-i l = BeginsListings l._i l.bytes l.found.tables l.found.indexes l.rest
