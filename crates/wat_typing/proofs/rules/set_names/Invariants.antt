use Rattle.std.proofs.Common.{◌≡◌, take}
use Rattle.wat_typing.specs.Rules.{set_names}
use Rattle.wat_typing.proofs.rules.set_names.Given as goal

abbrev pub invariant-loop-set : goal.invariant-loop-set
invariant-loop-set l = l.names ≡ set_names (take l.set-index l.fn.sets)
