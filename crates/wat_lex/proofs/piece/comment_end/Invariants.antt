use Rattle.std.proofs.Common.{◌≡◌, ◌+◌, length}
use Rattle.wat_lex.specs.Tokens.{comment_end}
use Rattle.wat_lex.proofs.piece.comment_end.Given as goal

abbrev pub invariant-loop-text : goal.invariant-loop-text
invariant-loop-text l = (comment_end l.at l.text ≡ comment_end 2 l.initial.text) × (l.at + length l.text ≡ length l.initial.text + 2)

abbrev pub decreases-loop-text : goal.decreases-loop-text
decreases-loop-text l = length l.text
