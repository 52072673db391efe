use Rattle.std.proofs.Common.{rules, ap, ◌∙◌}
use Rattle.std.specs.Vec.Iter.{into_iter_items, into_iter_len}
use Rattle.std.proofs.lemmas.Iterator.{items_from_collect}
use Rattle.std.proofs.lemmas.Iterator.Adapters.{YieldsList-from_vec, YieldsList-from_skip}
use Rattle.wat_tool.proofs.words.words_of.Goals as goal

-- what is collected is what the skipped arguments yield
pub returns-in-Ok-clause-words : goal.returns-in-Ok-clause-words
returns-in-Ok-clause-words c =
    rw c.in-Ok.is (λ counted.
    let all = YieldsList-from_vec (into_iter_items c.in-Ok.all) (ap into_iter_items c.skip.ensures.source) (ap into_iter_len c.skip.ensures.source ∙ counted) in
    let items = items_from_collect c.collect.result c.collect.ensures.ran (YieldsList-from_skip 1 all c.skip.ensures.count) in
    search rules)
