-- Lists in strict order.
use Rattle.std.specs.Prelude.{Bool, true, ◌&&◌, List, [], ◌∷◌}
use Rattle.std.specs.List.{list_all}
use Rattle.std.specs.declared.cmp.Ordering.{Ordering}
use Rattle.std.specs.Ordering.{is_lt}

-- each item is before all later ones
abbrev pub rising : {X : Type 0} → (X → X → Ordering) → List X → Bool
rising cmp [] = true
rising cmp (x ∷ xs) = list_all (λ other. is_lt (cmp x other)) xs && rising cmp xs
