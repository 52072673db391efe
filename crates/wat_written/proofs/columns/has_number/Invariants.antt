use Rattle.std.proofs.Common.{◌≡◌, ◌==◌, false, take}
use Rattle.std.specs.List.{list_any}
use Rattle.wat_written.proofs.columns.has_number.Given as goal

abbrev pub invariant-loop-key : goal.invariant-loop-key
invariant-loop-key l = list_any (λ key. key == l.fn.number) (take l.key-index l.fn.numbers) ≡ false
