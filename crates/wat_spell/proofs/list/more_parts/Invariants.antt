use Rattle.std.proofs.Common.{◌≡◌, ◌∷◌, drop}
use Rattle.std.specs.List.{flat_map}
use Rattle.wat_spell.specs.Spelling.{comma}
use Rattle.wat_spell.specs.Growing.{puts}
use Rattle.wat_spell.proofs.list.more_parts.Given as goal

-- what is there so far, and the tokens of what is left
abbrev pub invariant-loop-part : goal.invariant-loop-part
invariant-loop-part g l =
    puts l.writing (flat_map (λ part. comma ∷ g.P.Part.tokens part) (drop l.part-index l.parts))
    ≡ puts l.fn.writing (flat_map (λ part. comma ∷ g.P.Part.tokens part) l.parts)
