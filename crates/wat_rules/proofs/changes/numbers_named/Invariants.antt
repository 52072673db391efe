use Rattle.std.proofs.Common.{◌≡◌, take}
use Rattle.wat_rules.specs.Changes.{numbers_named}
use Rattle.wat_rules.proofs.changes.numbers_named.Given as goal

abbrev pub invariant-loop-name : goal.invariant-loop-name
invariant-loop-name l = l.numbers ≡ numbers_named l.fn.schema l.fn.table (take l.name-index l.fn.names)
