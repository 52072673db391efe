use Rattle.wat_index.proofs.SearchLemmas.{found_with, found_without}
use Rattle.wat_index.proofs.vec_index.place_in.Goals as goal

pub returns-clause-with : goal.returns-clause-with
returns-clause-with c = found_with c.args.key.now c.args.keys.now c.binary_search.result c.requires c.binary_search.ensures.bound c.binary_search.ensures.position

pub returns-clause-without : goal.returns-clause-without
returns-clause-without c = found_without c.args.key.now c.args.keys.now c.binary_search.result c.requires c.binary_search.ensures.bound c.binary_search.ensures.position
