use Rattle.std.proofs.Common.{◌≡◌, take}
use Rattle.wat_typing.specs.Rules.{typings, set_values}
use Rattle.wat_typing.proofs.rules.set_typings.Given as goal

abbrev pub invariant-loop-set : goal.invariant-loop-set
invariant-loop-set l = l.all ≡ typings l.fn.schema l.fn.scope (set_values (take l.set-index l.fn.sets))
