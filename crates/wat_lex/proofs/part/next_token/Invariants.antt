use Rattle.std.proofs.Common.{◌≡◌, ◌≤◌, ◌-◌, length, drop}
use Rattle.wat_lex.specs.Parts.{next_from}
use Rattle.wat_lex.specs.Tokens.{tokens_from}
use Rattle.wat_lex.proofs.part.next_token.Given as goal

abbrev pub invariant-blanks : goal.invariant-blanks
invariant-blanks l = record {
  within : l.at ≤ length l.text;
  next : next_from 0 (length l.text) (tokens_from 0 l.at (drop l.at l.text)) ≡ next_from 0 (length l.text) (tokens_from 0 l.fn.start (drop l.fn.start l.text));
}

abbrev pub decreases-blanks : goal.decreases-blanks
decreases-blanks l = length l.text - l.at
