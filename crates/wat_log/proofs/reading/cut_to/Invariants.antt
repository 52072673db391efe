use Rattle.std.proofs.Common.{◌≡◌, ◌≤◌, length, take}
use Rattle.wat_log.proofs.reading.cut_to.Given as goal

abbrev pub invariant-loop-entries : goal.invariant-loop-entries
invariant-loop-entries l = record {
  front : take l.count l.entries ≡ take l.count l.fn.entries;
  long : l.count ≤ length l.entries;
}

abbrev pub decreases-loop-entries : goal.decreases-loop-entries
decreases-loop-entries l = length l.entries
