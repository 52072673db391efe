use Rattle.std.proofs.Common.{length, ap, arith, sym, ◌∙◌}
use Rattle.wat_undo.specs.Kept.{lists_of}
use Rattle.wat_translate.proofs.Lists.{none_more, one_less, shorter}
use Rattle.wat_translate.proofs.reader.Reader.shorten.Goals as goal

pub loop-self-smaller : goal.loop-self-smaller
loop-self-smaller c =
    let p = c.take_last.ensures.popped (omega (arith, c.loop-self-test.true, c.count.ensures)) in
    shorter c.args.conn (lists_of c.loop-self.self.standing) (lists_of c.take_last.new.self.standing) p.0 p.1

pub loop-self-preserved : goal.loop-self-preserved
loop-self-preserved c =
    let p = c.take_last.ensures.popped (omega (arith, c.loop-self-test.true, c.count.ensures)) in
    record {
      cut = one_less c.args.conn c.args.count (lists_of c.loop-self.self.standing) (lists_of c.take_last.new.self.standing) p.0 p.1 (omega (arith, c.loop-self-test.true, c.count.ensures)) ∙ c.loop-self.invariant.cut;
      machine = c.take_last.ensures.machine ∙ c.loop-self.invariant.machine;
    }

pub returns-clause-cut : goal.returns-clause-cut
returns-clause-cut c = sym (none_more c.args.conn c.args.count (lists_of c.loop-self.self.standing) (omega (arith, c.loop-self-test.false, c.count.ensures))) ∙ c.loop-self.invariant.cut
