use Rattle.std.proofs.Common.{◌≤◌, ◌<◌, subst, List, length, arith, take_all}
use Rattle.wat_locks.specs.declared.want.Want.{Want}
use Rattle.wat_statement_locks.specs.Scans.{AreWantedBelow}
use Rattle.wat_statement_locks.proofs.LockLemmas.{one_want_more}
use Rattle.wat_statement_locks.proofs.scans.above.Goals as goal

pub loop-want-preserved : goal.loop-want-preserved
loop-want-preserved c =
    let low : c.loop-want.want-index < length c.args.wants.now = omega arith in (
      one_want_more c.args.wants.now c.loop-want.want-index c.loop-want.most c.raised-most.result c.want-item.result low c.want-item.is c.loop-want.invariant.0 c.raised-most.ensures.more
          c.raised-most.ensures.above,
      c.raised-most.ensures.small c.loop-want.invariant.1,
    )

pub returns-clause-above : goal.returns-clause-above
returns-clause-above c =
    let past : length c.args.wants.now ≤ c.loop-want.want-index = omega arith in
    subst (λ (ws : List Want). AreWantedBelow c.loop-want.most ws) (take_all c.loop-want.want-index c.args.wants.now past) c.loop-want.invariant.0
