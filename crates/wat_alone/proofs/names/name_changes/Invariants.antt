use Rattle.std.proofs.Common.{◌≡◌, take}
use Rattle.std.specs.List.{fold}
use Rattle.wat_history.specs.Naming.{after_act}
use Rattle.wat_alone.proofs.names.name_changes.Given as goal

abbrev pub invariant-loop-act : goal.invariant-loop-act
invariant-loop-act l = l.names ≡ fold after_act l.initial.names (take l.act-index l.acts)
