use Rattle.std.proofs.Common.{ap, ◌∙◌}
use Rattle.wat_index.specs.KeySets.{with_key}
use Rattle.wat_index.proofs.KeySetLemmas.{rising_with}
use Rattle.wat_index.proofs.vec_index.VecIndexScanIndex.insert.Goals as goal

pub returns-in-Ok-clause-keys : goal.returns-in-Ok-clause-keys
returns-in-Ok-clause-keys g c told keys held = record {
  same = c.in-Ok.ensures.ok ∙ ap (with_key c.args.key.now) held.same;
  in_order = rising_with c.args.key.now keys held.in_order;
}
