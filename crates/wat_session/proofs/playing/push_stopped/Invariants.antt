use Rattle.std.proofs.Common.{◌≡◌, ◌+◌, ◌≤◌, ◌++◌, length, map, take}
use Rattle.wat_session.specs.Session.{stopped_at}
use Rattle.wat_session.proofs.playing.push_stopped.Given as goal

abbrev pub invariant-loop-span : goal.invariant-loop-span
invariant-loop-span l = record {
  items : l.entries.items ≡ l.initial.entries.items ++ map (stopped_at l.reason) (take l.span-index l.spans);
  room : length l.spans ≤ l.span-index + l.entries.spare;
}
