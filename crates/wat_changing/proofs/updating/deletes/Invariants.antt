use Rattle.std.proofs.Common.{◌≡◌, ◌++◌, map, drop}
use Rattle.wat_value.specs.declared.change.Change.TheVariants.{Delete}
use Rattle.wat_expr.specs.Evaluation.{Combination}
use Rattle.wat_meaning.specs.Meaning.{sole_row}
use Rattle.wat_changing.proofs.updating.deletes.Given as goal

abbrev pub invariant-loop-rows : goal.invariant-loop-rows
invariant-loop-rows l = l.changes.items ++ map (λ (rows : Combination). Delete l.table (sole_row rows)) (drop l.rows-index l.before) ≡ map (λ (rows : Combination). Delete l.table (sole_row rows)) l.before
