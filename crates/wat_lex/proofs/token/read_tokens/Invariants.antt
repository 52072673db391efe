use Rattle.std.proofs.Common.{◌≡◌, ◌≤◌, ◌-◌, ◌++◌, length, drop}
use Rattle.wat_lex.specs.Tokens.{tokens_from, tokens_of}
use Rattle.wat_lex.proofs.token.read_tokens.Given as goal

abbrev pub invariant-pieces : goal.invariant-pieces
invariant-pieces l = (l.at ≤ length l.text) × (l.found ++ tokens_from 0 l.at (drop l.at l.text) ≡ tokens_of l.text)

abbrev pub decreases-pieces : goal.decreases-pieces
decreases-pieces l = length l.text - l.at
