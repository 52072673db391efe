use Rattle.std.proofs.Common.{◌≡◌, ◌≤◌, ◌-◌, ◌++◌, length, drop, filter}
use Rattle.wat_lex.specs.Parts.{is_within, tokens_within, next_from}
use Rattle.wat_lex.specs.Tokens.{tokens_from, tokens_of}
use Rattle.wat_lex.proofs.part.tokens_between.Given as goal

abbrev pub invariant-pieces : goal.invariant-pieces
invariant-pieces l = record {
  behind : l.fn.from ≤ l.at;
  within : l.at ≤ length l.bytes;
  tokens : l.found ++ filter (is_within l.fn.from l.end) (tokens_from 0 l.at (drop l.at l.bytes)) ≡ tokens_within l.bytes l.fn.from l.end;
  next : next_from l.end (length l.bytes) (tokens_from 0 l.at (drop l.at l.bytes)) ≡ next_from l.end (length l.bytes) (tokens_of l.bytes);
}

abbrev pub decreases-pieces : goal.decreases-pieces
decreases-pieces l = length l.bytes - l.at
