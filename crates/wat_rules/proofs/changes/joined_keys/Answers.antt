use Rattle.std.proofs.Common.{ℕ, List, ap, ◌∙◌}
use Rattle.std.specs.List.{flat_map}
use Rattle.std.proofs.lemmas.List.{take_all}
use Rattle.wat_rules.proofs.changes.joined_keys.Goals as goal

pub returns : goal.returns
returns c =
    c.loop-key.invariant ∙ ap (flat_map (λ (key : List (List ℕ)). key)) (take_all c.loop-key.key-index c.args.keys.now c.loop-key-test.false)
