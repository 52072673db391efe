use Rattle.std.proofs.Common.{◌≡◌, ℕ, List, take}
use Rattle.std.specs.List.{flat_map}
use Rattle.wat_rules.proofs.changes.joined_keys.Given as goal

abbrev pub invariant-loop-key : goal.invariant-loop-key
invariant-loop-key l = l.all ≡ flat_map (λ (key : List (List ℕ)). key) (take l.key-index l.fn.keys)
