use Rattle.std.proofs.Common.{◌≡◌, ℕ, ◌+◌, ◌++◌, List, length}
use Rattle.std.specs.Io.KnownBytes.{Consumes}
use Rattle.wat_io.proofs.file_scripts.append_from.Given as goal

-- what was appended so far is what the reader gave
abbrev pub invariant-loop-left : goal.invariant-loop-left
invariant-loop-left g l =
    (more : List ℕ) × (l.into.items ≡ l.fn.into.items ++ more) × (length more + l.left ≡ l.most) × Consumes (g.S.Read.remaining l.fn.source) (g.S.Read.remaining l.source) more

abbrev pub decreases-loop-left : goal.decreases-loop-left
decreases-loop-left g l = l.left
