use Rattle.std.proofs.Common.{◌≡◌, false, take}
use Rattle.std.specs.Str.{bytes_eq}
use Rattle.wat_schema.specs.Catalog.{repeats}
use Rattle.wat_typing.proofs.rules.repeats.Given as goal

abbrev pub invariant-loop-name : goal.invariant-loop-name
invariant-loop-name l = record { before : l.before ≡ take l.name-index l.fn.names; once : repeats bytes_eq (take l.name-index l.fn.names) ≡ false }
