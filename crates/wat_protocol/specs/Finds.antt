-- What a scan at level 3 has found at its next position: all that the law of isolation asks of a visit but the locks.
use Rattle.std.specs.Prelude.{◌≡◌, ℕ, true, false, List, ◌∷◌}
use Rattle.wat_value.specs.declared.value.Value.{Value}
use Rattle.wat_isolation.specs.Rows.{Cut, IsCut}
use Rattle.wat_isolation.specs.Logs.{Scan, Item, Item.Saw}
use Rattle.wat_isolation.specs.Machine.{State, Place, IsPos, IsFirst, Takes}
use Rattle.wat_isolation.specs.Sql.{sql, less_key}

-- the first position past what it has read, and the row there, if one stands
pub record FindsPosition (s : State sql) (c : ℕ) (at : Scan sql) (rest : List (Item sql)) (key : List Value) (found : List (List Value × List Value)) : Type 0 where
  pub head : (s.conns c).log ≡ Saw at ∷ rest
  pub is_pos : IsPos sql s at.index key
  pub further : at.hi key ≡ false
  pub least : (y : List Value) → at.hi y ≡ false → less_key y key ≡ true → IsPos sql s at.index y → ⊥
  pub takes : Takes sql s.scheme at.index s.now key found

-- no position is left in its interval, and this is the first past it
pub record FindsEnd (s : State sql) (c : ℕ) (at : Scan sql) (rest : List (Item sql)) (hi : Cut sql) (q : Place sql) : Type 0 where
  pub head : (s.conns c).log ≡ Saw at ∷ rest
  pub cut : IsCut sql hi
  pub further : (y : List Value) → at.hi y ≡ true → hi y ≡ true
  pub none_left : (y : List Value) → at.hi y ≡ false → hi y ≡ true → IsPos sql s at.index y → ⊥
  pub first : IsFirst sql s at.index hi q
