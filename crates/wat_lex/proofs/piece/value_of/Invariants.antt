use Rattle.std.proofs.Common.{◌≡◌, ◌≤◌, take}
use Rattle.wat_lex.specs.Tokens.{value_of}
use Rattle.wat_lex.proofs.piece.value_of.Given as goal

abbrev pub invariant-loop-digit : goal.invariant-loop-digit
invariant-loop-digit l = (l.value ≡ value_of (take l.digit-index l.digits)) × (l.value ≤ 9223372036854775808)
