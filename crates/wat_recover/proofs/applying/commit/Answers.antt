use Rattle.std.proofs.Common.{suc, arith}
use Rattle.wat_recover.proofs.Going.{went_on}
use Rattle.wat_recover.proofs.Stepping.{known, left, popped_left, committed_so}
use Rattle.wat_recover.proofs.applying.commit.Goals as goal

pub loop-i-preserved : goal.loop-i-preserved
loop-i-preserved g c =
    let t = g.T.Target in
    record {
      stands = λ s holds n e. popped_left (t.stands_for c.pop.new.self) s c.args.conn n c.pop.result (omega arith)
          (c.pop.ensures.popped (left s c.args.conn (suc n)) (c.loop-i.invariant.stands s holds (suc n) (omega arith)));
      went = went_on t.goes t.failures g.met.T.Target.goes_on c.args.target.now c.loop-i.target c.pop.new.self ⊥ ⊥ c.loop-i.invariant.went (λ x. x) c.pop.ensures.went;
    }

pub returns-clause-answers : goal.returns-clause-answers
returns-clause-answers g c s holds lawful =
    (left s c.args.conn 0, committed_so s c.args.conn (known c.args.conn c.ranges.conn.fits), c.loop-i.invariant.stands s holds 0 (omega (arith, c.count-standing.ensures s holds)))
