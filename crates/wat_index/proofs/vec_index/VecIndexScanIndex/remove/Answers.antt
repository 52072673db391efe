use Rattle.std.proofs.Common.{ap, ◌∙◌}
use Rattle.wat_index.specs.KeySets.{without_key}
use Rattle.wat_index.proofs.KeySetLemmas.{rising_without}
use Rattle.wat_index.proofs.vec_index.VecIndexScanIndex.remove.Goals as goal

pub returns-clause-keys : goal.returns-clause-keys
returns-clause-keys g c told keys held = record {
  same = c.remove_key.ensures ∙ ap (without_key c.args.key.now) held.same;
  in_order = rising_without c.args.key.now keys held.in_order;
}
