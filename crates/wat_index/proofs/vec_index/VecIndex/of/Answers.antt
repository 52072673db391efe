use Rattle.std.proofs.Common.{ap, ◌∙◌}
use Rattle.wat_list.specs.Rising.{rising}
use Rattle.wat_value.specs.Order.{key_cmp}
use Rattle.wat_index.proofs.SortedLemmas.{sorted_is}
use Rattle.wat_index.proofs.vec_index.VecIndex.of.Goals as goal

pub invariant_of-result : goal.invariant_of-result
invariant_of-result c = ap (rising key_cmp) (sorted_is c.args.keys.items c.sort.new.self.items c.requires c.sort.ensures.permutation c.in_ok-sort.ensures.sorted) ∙ c.requires

pub returns : goal.returns
returns c = sorted_is c.args.keys.items c.sort.new.self.items c.requires c.sort.ensures.permutation c.in_ok-sort.ensures.sorted
