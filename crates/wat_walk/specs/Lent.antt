-- Values behind references.
use Rattle.std.specs.Prelude.{List, map}
use Rattle.std.specs.Borrow.{Bor}

-- what the references point to
abbrev pub lent : {X : Type 0} → List (Bor X) → List X
lent = map (λ x. x.now)
