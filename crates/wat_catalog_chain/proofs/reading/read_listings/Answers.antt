use Rattle.wat_catalog_chain.proofs.Parts.{no_listing_next, listings_more}
use Rattle.wat_catalog_chain.proofs.reading.read_listings.Goals as goal

pub returns-in-None : goal.returns-in-None
returns-in-None c =
    no_listing_next c.args.bytes.now c.loop-i.rest.now _ _ c.loop-i._i c.args.count c.loop-i.invariant c.loop-i-test.true (rw c.in-None.is at c.in_ok-behind.ensures)

pub loop-i-preserved : goal.loop-i-preserved
loop-i-preserved c =
    listings_more c.args.bytes.now c.loop-i.rest.now c.in-Some.behind.now _ _ _ _ c.loop-i._i c.loop-i.invariant (rw c.in-Some.is at c.in_ok-behind.ensures)
