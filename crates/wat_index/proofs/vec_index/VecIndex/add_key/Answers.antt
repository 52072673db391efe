use Rattle.std.proofs.Common.{◌≡◌, insert, sym, ap, ◌∙◌}
use Rattle.wat_list.specs.Rising.{rising}
use Rattle.wat_value.specs.Order.{key_cmp}
use Rattle.wat_index.specs.KeySets.{with_key}
use Rattle.wat_index.proofs.KeySetLemmas.{rising_with}
use Rattle.wat_index.proofs.vec_index.VecIndex.add_key.Goals as goal

pub invariant_of-self-in-Err : goal.invariant_of-self-in-Err
invariant_of-self-in-Err c =
    let keys = c.self.inside.keys.items in
    let key = c.args.key.now in
    let same : c.as_slice.result.now ≡ keys = c.as_slice.ensures.value in
    let new : c.insert.new.self.items ≡ with_key key keys =
    c.in_ok-insert-in-Err.ensures.items
    ∙ (ap (insert keys c.in-Err.place) c.in_ok-key-in-Err.ensures ∙ (ap (λ z. insert z c.in-Err.place key) (sym same) ∙ (c.in-Err.ensures.with ∙ ap (with_key key) same))) in
    ap (rising key_cmp) new ∙ rising_with key keys c.self.invariant
