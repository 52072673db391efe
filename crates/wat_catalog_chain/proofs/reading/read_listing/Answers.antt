use Rattle.std.proofs.Math.Facts.{Fits-lt-pow}
use Rattle.wat_catalog_chain.proofs.Parts.{no_listing_count, no_listing_indexes, adds, byte_behind}
use Rattle.wat_catalog_chain.proofs.reading.read_listing.Goals as goal

pub returns-in_default-split_first : goal.returns-in_default-split_first
returns-in_default-split_first c =
    no_listing_count c.args.bytes.now c.in-Some.rest.now c.in-Some.def (rw c.in-Some.is at c.in_ok-def.ensures) c.in_default-split_first.ensures.cases

pub returns : goal.returns
returns c =
    no_listing_indexes c.args.bytes.now c.in-Some.rest.now c.in-Some-split_first.rest.now c.in-Some.def c.in-Some-split_first.count.now (rw c.in-Some.is at c.in_ok-def.ensures) c.in-Some-split_first.ensures.cases.0 (rw c.in-None.is at c.in_ok-indexes.ensures)

pub returns-in-Some-2 : goal.returns-in-Some-2
returns-in-Some-2 c =
    let def = rw c.in-Some.is at c.in_ok-def.ensures in
    adds c.args.bytes.now c.in-Some.rest.now c.in-Some-split_first.rest.now c.in-Some-2.rest.now c.in-Some.def c.in-Some-split_first.count.now c.in-Some-2.indexes c.args.found.now.tables c.push.new.self c.args.found.now.indexes c.append.new.self
    def c.in-Some-split_first.ensures.cases.0 (byte_behind c.args.bytes.now c.in-Some.rest.now c.in-Some-split_first.rest.now c.in-Some.def c.in-Some-split_first.count.now def c.in-Some-split_first.ensures.cases.0 (λ i. Fits-lt-pow (c.type_inv.bytes i)))
    (rw c.in-Some-2.is at c.in_ok-indexes.ensures) c.in_ok-push-in-Some-2.ensures.ok c.in_ok-append-in-Some-2.ensures
