-- A text that grows by tokens: what the private functions of the spelling ensure.
use Rattle.std.specs.Prelude.{ℕ, Bool, true, ◌||◌, List, [], ◌∷◌, ◌++◌}
use Rattle.std.specs.List.{fold}
use Rattle.wat_spell.specs.Tokens.{Token, gap, token_text, is_tight_before, is_tight_behind}

-- the text, and whether no space stands behind what is there.
pub record Growing : Type 0 where
  pub text : List ℕ
  pub is_tight : Bool

abbrev pub empty : Growing
empty = record { text = []; is_tight = true }

-- one token more
abbrev pub put : Growing → Token → Growing
put w t = record { text = w.text ++ gap (w.is_tight || is_tight_before t) ++ token_text t; is_tight = is_tight_behind t }

-- these tokens more
abbrev pub puts : Growing → List Token → Growing
puts = fold put
