use Rattle.std.proofs.Common.{◌≡◌, length}
use Rattle.wat_undo.specs.Kept.{lists_of}
use Rattle.wat_translate.proofs.Lists.{left}
use Rattle.wat_translate.proofs.reader.Reader.shorten.Given as goal

abbrev pub invariant-loop-self : goal.invariant-loop-self
invariant-loop-self l = record {
  cut : left l.conn l.count (lists_of l.self.standing) ≡ left l.conn l.count (lists_of l.fn.self.standing);
  machine : l.self.machine ≡ l.fn.self.machine;
}

abbrev pub decreases-loop-self : goal.decreases-loop-self
decreases-loop-self l = length (lists_of l.self.standing l.conn)
