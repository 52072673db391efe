-- The entries of one connection alone, as its turns over the tables.
use Rattle.std.specs.Prelude.{◌≡◌, List, [], ◌∷◌, ◌++◌}
use Rattle.wat_history.specs.Connection.{Part}
use Rattle.wat_commit_log.specs.Logged.{Transaction}
use Rattle.wat_alone.specs.Alone.{State, turn}
use Rattle.wat_alone.specs.Committing.{committed_by}

-- the entry says what comes of its statement
pub record IsTurn (s : State) (p : Part) : Type 0 where
  pub level : p.entry.level ≡ 0
  pub answer : p.entry.answer ≡ (turn s p.read).answer
  pub acts : p.entry.acts ≡ (turn s p.read).acts

-- Each is the turn over what those before it leave, up to the last state.
abbrev pub Lead : State → List Part → State → Type 0
Lead s [] last = s ≡ last
Lead s (p ∷ parts) last = IsTurn s p × Lead (turn s p.read).next parts last

-- the transactions that these entries commit, each by its turn
abbrev pub committed_from : State → List Part → List Transaction
committed_from s [] = []
committed_from s (p ∷ parts) = committed_by (turn s p.read) ++ committed_from (turn s p.read).next parts
