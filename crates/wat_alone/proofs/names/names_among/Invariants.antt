use Rattle.std.proofs.Common.{◌≡◌, map, take}
use Rattle.wat_alone.specs.Names.{named_by}
use Rattle.wat_alone.proofs.names.names_among.Given as goal

abbrev pub invariant-loop-def : goal.invariant-loop-def
invariant-loop-def l = l.names ≡ map (named_by l.indexes) (take l.def-index l.defs)
