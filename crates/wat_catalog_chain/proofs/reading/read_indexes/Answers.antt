use Rattle.wat_catalog_chain.proofs.Parts.{no_index_next, wrong_index, indexes_more}
use Rattle.wat_catalog_chain.proofs.reading.read_indexes.Goals as goal
use Rattle.wat_catalog_chain.proofs.reading.read_indexes.Goals.{then-index-i-via-then-index-i, then-index-i-via-else-index-i+then-index-def}

pub returns-in_default : goal.returns-in_default
returns-in_default c =
    no_index_next c.args.def.now c.args.bytes.now c.loop-i.rest.now c.loop-i.indexes c.loop-i.i c.args.count c.loop-i.invariant c.loop-i-test.true (rw c.in_default.is at c.in_ok-index.ensures)

pub returns-then-index-i : goal.returns-then-index-i
returns-then-index-i c =
    let read = rw c.in-Some.is at c.in_ok-index.ensures in
    wrong_index c.args.def.now c.args.bytes.now c.loop-i.rest.now c.in-Some.behind.now c.loop-i.indexes c.loop-i.i c.args.count c.in-Some.index c.loop-i.invariant c.loop-i-test.true read
    (λ at table. elim c.then-index-i.branch [
      | then-index-i-via-then-index-i w ↦ w.if-index-i.true at
      | then-index-i-via-else-index-i+then-index-def w ↦ w.if-index-def.true table
    ])

pub loop-i-preserved : goal.loop-i-preserved
loop-i-preserved c =
    let read = rw c.in-Some.is at c.in_ok-index.ensures in
    indexes_more c.args.def.now c.args.bytes.now c.loop-i.rest.now c.in-Some.behind.now c.loop-i.indexes c.push.new.self c.loop-i.i c.in-Some.index c.loop-i.invariant read c.if-index-i.false c.if-index-def.false c.in_ok-push.ensures.ok
