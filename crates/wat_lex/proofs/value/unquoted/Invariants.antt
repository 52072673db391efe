use Rattle.std.proofs.Common.{◌≡◌, ◌++◌, length, false}
use Rattle.wat_lex.specs.Values.{unquoted}
use Rattle.wat_lex.proofs.value.unquoted.Given as goal

abbrev pub invariant-loop-text : goal.invariant-loop-text
invariant-loop-text l = l.found.items ++ unquoted l.after_quote l.text ≡ unquoted false l.initial.text

abbrev pub decreases-loop-text : goal.decreases-loop-text
decreases-loop-text l = length l.text
