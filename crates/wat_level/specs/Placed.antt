-- Wants put in order one by one.
use Rattle.std.specs.Prelude.{if◌then◌else◌, List, [], ◌∷◌}
use Rattle.std.specs.Ordering.{is_lt, is_eq}
use Rattle.wat_locks.specs.Order.{lock_cmp}
use Rattle.wat_locks.specs.declared.want.Want.{Want}

-- the want at its place in the order, where its lock is not wanted already
abbrev pub placed : Want → List Want → List Want
placed want [] = want ∷ []
placed want (w ∷ ws) =
    if is_lt (lock_cmp want.lock w.lock) then want ∷ w ∷ ws else (if is_eq (lock_cmp want.lock w.lock) then w ∷ ws else w ∷ placed want ws)

-- each of them at its place
abbrev pub placed_all : List Want → List Want → List Want
placed_all sorted [] = sorted
placed_all sorted (want ∷ wants) = placed_all (placed want sorted) wants
