use Rattle.std.proofs.Common.{◌≡◌, ℕ, subst, arith}
use Rattle.wat_locks.specs.Held.{Frees}
use Rattle.wat_statement_locks.proofs.LockLemmas.{IsShortBelow, none_short, one_scan_more}
use Rattle.wat_statement_locks.proofs.freeing.free_below.Goals as goal

pub loop-scan-init : goal.loop-scan-init
loop-scan-init c = (none_short c.args.conn c.args.locks.now, c.requires.compatible)

pub loop-scan-preserved : goal.loop-scan-preserved
loop-scan-preserved c =
    (one_scan_more c.args.conn c.loop-scan.scan c.args.locks.now c.loop-scan.locks c.free_scan.new.locks c.loop-scan.invariant.0 c.free_scan.ensures.frees, c.free_scan.ensures.compatible)

pub returns-clause-frees : goal.returns-clause-frees
returns-clause-frees c =
    let all : c.loop-scan.scan ≡ c.args.most = omega arith in
    subst (λ (n : ℕ). Frees c.args.locks.now c.loop-scan.locks (IsShortBelow c.args.conn n)) all c.loop-scan.invariant.0
