use Rattle.std.proofs.Common.{◌≡◌, ◌+◌, ◌≤◌, ◌++◌, length}
use Rattle.wat_commit_log.proofs.pending.move_all.Given as goal

abbrev pub invariant-loop-change : goal.invariant-loop-change
invariant-loop-change l = record {
  items : l.changes.items ≡ l.initial.changes.items ++ l.yielded;
  room : length l.fn.more.items ≤ length l.yielded + l.changes.spare;
}
