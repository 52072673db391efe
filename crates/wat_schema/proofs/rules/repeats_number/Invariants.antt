use Rattle.std.proofs.Common.{◌≡◌, ◌==◌, false, take}
use Rattle.wat_schema.specs.Catalog.{repeats}
use Rattle.wat_schema.proofs.rules.repeats_number.Given as goal

abbrev pub invariant-loop-number : goal.invariant-loop-number
invariant-loop-number l = record { before : l.before.keys ≡ take l.number-index l.numbers; once : repeats ◌==◌ (take l.number-index l.numbers) ≡ false }
