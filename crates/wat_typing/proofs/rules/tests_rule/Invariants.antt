use Rattle.std.proofs.Common.{◌≡◌, map, drop}
use Rattle.std.specs.List.{fold}
use Rattle.wat_types.specs.Types.{lesser}
use Rattle.wat_typing.specs.Rules.{test_rule, tests_rule}
use Rattle.wat_typing.proofs.rules.tests_rule.Given as goal

abbrev pub invariant-loop-test : goal.invariant-loop-test
invariant-loop-test l = fold lesser l.least (map test_rule (drop l.test-index l.fn.tests)) ≡ tests_rule l.fn.tests
