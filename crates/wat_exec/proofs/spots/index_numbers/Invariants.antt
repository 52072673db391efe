use Rattle.std.proofs.Common.{◌≡◌, ℕ, ◌∷◌, ◌++◌, map, drop}
use Rattle.wat_value.specs.declared.definition.IndexDef.{IndexDef}
use Rattle.wat_exec.proofs.spots.index_numbers.Given as goal

abbrev pub invariant-loop-index : goal.invariant-loop-index
invariant-loop-index l = l.numbers.items ++ map (λ (index : IndexDef). index.number) (drop l.index-index l.index-items) ≡ 0 ∷ map (λ (index : IndexDef). index.number) l.index-items
