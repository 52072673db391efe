use Rattle.std.proofs.Common.{◌≡◌, take}
use Rattle.std.specs.List.{flat_map}
use Rattle.wat_scope.specs.declared.scope.Visible.{Visible}
use Rattle.wat_typing.specs.Rules.{types_in}
use Rattle.wat_typing.proofs.rules.scope_types.Given as goal

abbrev pub invariant-loop-visible : goal.invariant-loop-visible
invariant-loop-visible l = l.types ≡ flat_map (λ (visible : Visible). types_in l.fn.schema visible.table) (take l.visible-index l.visible-items)
