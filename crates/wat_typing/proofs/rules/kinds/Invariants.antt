use Rattle.std.proofs.Common.{◌≡◌, map, take}
use Rattle.wat_types.specs.declared.typing.Typing.{Typing}
use Rattle.wat_typing.proofs.rules.kinds.Given as goal

abbrev pub invariant-loop-typing : goal.invariant-loop-typing
invariant-loop-typing l = l.types ≡ map (λ (typing : Typing). typing.kind) (take l.typing-index l.fn.typings)
