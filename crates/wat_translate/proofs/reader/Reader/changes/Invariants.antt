use Rattle.std.proofs.Common.{◌≡◌, length, map, take}
use Rattle.wat_value.specs.declared.change.Act.TheVariants.{OnRow}
use Rattle.wat_undo.specs.Kept.{lists_of}
use Rattle.wat_translate.proofs.reader.Reader.changes.Given as goal

abbrev pub invariant-loop-i : goal.invariant-loop-i
invariant-loop-i l = record {
  acts : l.acts ≡ map OnRow (take l.i (lists_of l.self.standing l.conn));
  end : l.i-end ≡ length (lists_of l.self.standing l.conn);
}
