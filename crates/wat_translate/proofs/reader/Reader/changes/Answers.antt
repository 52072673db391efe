use Rattle.std.proofs.Common.{arith, ◌∙◌, ap, take}
use Rattle.std.proofs.lemmas.List.{take_all}
use Rattle.wat_undo.specs.Kept.{lists_of}
use Rattle.wat_translate.proofs.Lists.{pushed}
use Rattle.wat_translate.proofs.reader.Reader.changes.Goals as goal

pub loop-i-preserved : goal.loop-i-preserved
loop-i-preserved c = record {
  acts = pushed (lists_of c.args.self.now.standing c.args.conn) c.loop-i.i c.change.result.now c.in_ok-copy.field-0 c.loop-i.acts c.push.new.self c.change.ensures c.in_ok-copy.ensures c.loop-i.invariant.acts c.in_ok-push.ensures.ok
      (omega (arith, c.loop-i-test.true, c.count-i-end.ensures));
  end = c.count-i-end.ensures;
}
