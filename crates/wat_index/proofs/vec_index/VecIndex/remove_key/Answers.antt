use Rattle.std.proofs.Common.{◌≡◌, remove, sym, ap, ◌∙◌}
use Rattle.wat_list.specs.Rising.{rising}
use Rattle.wat_value.specs.Order.{key_cmp}
use Rattle.wat_index.specs.KeySets.{without_key}
use Rattle.wat_index.proofs.KeySetLemmas.{rising_without}
use Rattle.wat_index.proofs.vec_index.VecIndex.remove_key.Goals as goal

pub invariant_of-self : goal.invariant_of-self
invariant_of-self c =
    let keys = c.self.inside.keys.items in
    let key = c.args.key.now in
    let same : c.as_slice.result.now ≡ keys = c.as_slice.ensures.value in
    let new : c.remove.new.self.items ≡ without_key key keys = c.remove.ensures.items ∙ (ap (λ z. remove z c.in-Ok.place) (sym same) ∙ (c.in-Ok.ensures.without ∙ ap (without_key key) same)) in
    ap (rising key_cmp) new ∙ rising_without key keys c.self.invariant
