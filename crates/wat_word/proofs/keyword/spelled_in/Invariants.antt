use Rattle.std.proofs.Common.{◌≡◌, length, map}
use Rattle.wat_word.specs.Words.{spelled_in}
use Rattle.wat_word.proofs.keyword.spelled_in.Given as goal

abbrev pub invariant-loop-table : goal.invariant-loop-table
invariant-loop-table l = spelled_in (map (λ k. (k.0.now, k.1)) l.table) l.keyword ≡ spelled_in (map (λ k. (k.0.now, k.1)) l.initial.table) l.keyword

abbrev pub decreases-loop-table : goal.decreases-loop-table
decreases-loop-table l = length l.table
