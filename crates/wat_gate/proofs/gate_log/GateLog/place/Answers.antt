use Rattle.std.proofs.Common.{◌≡◌, ℕ, List, ◌∙◌, subst, arith}
use Rattle.std.proofs.lemmas.Result.{err_from_is_err_and}
use Rattle.wat_disk.proofs.Stops.{none_same, both_same}
use Rattle.wat_gate.specs.Gates.{IsOpenGate, IsClosedGate, IsBrokenGate}
use Rattle.wat_gate.proofs.Walk.{at_next, at_closed, broken_last, at_some, at_nothing, if_damaged}
use Rattle.wat_gate.proofs.gate_log.GateLog.place.Goals as goal

pub returns-then-i-self-clause-stops : goal.returns-then-i-self-clause-stops
returns-then-i-self-clause-stops g c = none_same _

pub returns-in_err-next-clause-stops : goal.returns-in_err-next-clause-stops
returns-in_err-next-clause-stops g c = both_same _ _ _ c.loop-passed.invariant.stops c.next_gate.ensures.stops

pub returns-in-None-clause-stops : goal.returns-in-None-clause-stops
returns-in-None-clause-stops g c = both_same _ _ _ c.loop-passed.invariant.stops c.next_gate.ensures.stops

pub returns-in_err-next-clause-undamaged : goal.returns-in_err-next-clause-undamaged
returns-in_err-next-clause-undamaged g c tells =
    let i = c.loop-passed.invariant in
    let log = c.requires.known tells in
    let p = err_from_is_err_and c.from_residual-in_err-next.result c.from_residual-in_err-next.ensures.1 in
    rw (p.1, p.2) (if_damaged _ _ _ (λ (place : ℕ) (broken : (place ≡ c.loop-passed.at) × IsBrokenGate ((g.D.Disk.told c.loop-passed.disk).content c.args.self.now.file.0) c.loop-passed.at).
    let last = broken_last _ _ _ (i.walk tells) (subst (λ (l : List ℕ). IsBrokenGate l c.loop-passed.at) (i.content c.args.self.now.file.0) broken.1) in
    let counted = log.frames in
    omega arith)
    (c.in_err-next.ensures.damaged tells))

pub returns-in-None-clause-undamaged : goal.returns-in-None-clause-undamaged
returns-in-None-clause-undamaged g c tells =
    let i = c.loop-passed.invariant in
    let log = c.requires.known tells in
    let gate = subst (λ (l : List ℕ). IsClosedGate l c.loop-passed.at) (i.content c.args.self.now.file.0) (at_nothing _ _ _ c.in-None.is (c.in_ok-next.ensures.found tells)) in
    let done = at_closed _ _ _ (i.walk tells) gate in
    let counted = log.frames in
    omega arith

pub loop-passed-preserved : goal.loop-passed-preserved
loop-passed-preserved g c =
    let i = c.loop-passed.invariant in
    record {
      walk = λ tells. at_next _ _ _ (i.walk tells) c.in-Some.next
          (subst (λ (l : List ℕ). IsOpenGate l c.loop-passed.at c.in-Some.next) (i.content c.args.self.now.file.0) (at_some _ _ _ _ c.in-Some.is (c.in_ok-next.ensures.found tells)));
      size = i.size;
      content = λ f. c.next_gate.ensures.content f ∙ i.content f;
      stops = both_same _ _ _ i.stops c.next_gate.ensures.stops;
      unsynced = λ image left. c.next_gate.ensures.unsynced image (i.unsynced image left);
      calls = omega (arith, i.calls, at_some _ _ _ _ c.in-Some.is c.in_ok-next.ensures.calls);
      cause = record {
        later = omega (arith, i.cause.later, c.next_gate.ensures.cause.later);
        rose = λ never. absurd never;
        kept = λ well. c.in_ok-next.ensures.cause.kept (λ e. cc) ∙ i.cause.kept well;
      };
    }
