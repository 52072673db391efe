use Rattle.std.proofs.Common.{◌≡◌, ◌++◌, length}
use Rattle.wat_parse.specs.Statements.{statements_of}
use Rattle.wat_parse.proofs.Groups.{spans_from}
use Rattle.wat_parse.proofs.script.statements.Given as goal

abbrev pub invariant-tokens : goal.invariant-tokens
invariant-tokens l = l.spans ++ spans_from l.bytes l.group l.rest ≡ statements_of l.bytes

abbrev pub decreases-tokens : goal.decreases-tokens
decreases-tokens l = length l.rest
