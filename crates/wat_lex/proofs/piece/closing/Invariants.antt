use Rattle.std.proofs.Common.{◌≡◌, ◌+◌, length, false}
use Rattle.wat_lex.specs.Tokens.{closing}
use Rattle.wat_lex.proofs.piece.closing.Given as goal

abbrev pub invariant-loop-text : goal.invariant-loop-text
invariant-loop-text l = (closing l.is_second l.at l.text ≡ closing false 1 l.initial.text) × (l.at + length l.text ≡ length l.initial.text + 1)

abbrev pub decreases-loop-text : goal.decreases-loop-text
decreases-loop-text l = length l.text
