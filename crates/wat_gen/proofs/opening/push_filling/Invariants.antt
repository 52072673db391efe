use Rattle.std.proofs.Common.{◌≡◌, ◌*◌, ◌++◌, map}
use Rattle.std.specs.List.{range_with_len}
use Rattle.wat_gen.specs.declared.statement.Statement.TheVariants.{Insert}
use Rattle.wat_gen.proofs.opening.push_filling.Given as goal

abbrev pub invariant-loop-i : goal.invariant-loop-i
invariant-loop-i l =
    l.statements ≡ l.initial.statements ++ map (λ i. Insert (10 * i) i) (range_with_len 0 l.i)
