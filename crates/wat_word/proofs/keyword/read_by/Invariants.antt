use Rattle.std.proofs.Common.{◌≡◌, length, map}
use Rattle.wat_word.specs.Words.{read_by}
use Rattle.wat_word.proofs.keyword.read_by.Given as goal

abbrev pub invariant-loop-table : goal.invariant-loop-table
invariant-loop-table l = read_by (map (λ k. (k.0.now, k.1)) l.table) l.text ≡ read_by (map (λ k. (k.0.now, k.1)) l.initial.table) l.text

abbrev pub decreases-loop-table : goal.decreases-loop-table
decreases-loop-table l = length l.table
