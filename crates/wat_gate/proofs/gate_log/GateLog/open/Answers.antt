use Rattle.std.proofs.Common.{ℕ, List, sym, ◌∙◌, subst, arith}
use Rattle.std.proofs.lemmas.Result.{err_from_is_err_and}
use Rattle.wat_disk.proofs.Stops.{both_same}
use Rattle.wat_gate.specs.Bodies.{IsAtGate, IsBrokenAt}
use Rattle.wat_gate.specs.Gates.{IsOpenGate, IsClosedGate, IsBrokenGate}
use Rattle.wat_gate.proofs.Walk.{at_next, at_closed, at_broken, at_some, at_none, if_damaged}
use Rattle.wat_gate.proofs.gate_log.GateLog.open.Goals as goal

pub returns-in_err-next-clause-stops : goal.returns-in_err-next-clause-stops
returns-in_err-next-clause-stops g c = both_same _ _ _ c.loop-next.invariant.stops c.next_gate.ensures.stops

pub returns-clause-stops : goal.returns-clause-stops
returns-clause-stops g c = both_same _ _ _ c.loop-next.invariant.stops c.next_gate.ensures.stops

pub returns-in_err-next-clause-damaged : goal.returns-in_err-next-clause-damaged
returns-in_err-next-clause-damaged g c tells =
    let content = (g.D.Disk.told c.args.disk.now).content c.args.file.0 in
    let i = c.loop-next.invariant in
    let p = err_from_is_err_and c.from_residual-in_err-next.result c.from_residual-in_err-next.ensures.1 in
    rw (p.1, p.2) (if_damaged _ _ _ (λ place broken.
    subst (λ (n : ℕ). IsBrokenAt content n) (sym broken.0) (at_broken _ _ _ (i.walk tells) (subst (λ (l : List ℕ). IsBrokenGate l c.loop-next.at) (i.content c.args.file.0) broken.1)))
    (c.in_err-next.ensures.damaged tells))

pub loop-next-preserved : goal.loop-next-preserved
loop-next-preserved g c =
    let i = c.loop-next.invariant in
    let further = at_some _ _ _ _ c.in-Some.is c.in_ok-next.ensures.further in
    record {
      walk = λ tells. at_next _ _ _ (i.walk tells) c.in-Some.next
          (subst (λ (l : List ℕ). IsOpenGate l c.loop-next.at c.in-Some.next) (i.content c.args.file.0) (at_some _ _ _ _ c.in-Some.is (c.in_ok-next.ensures.found tells)));
      size = i.size;
      counted = omega arith;
      within = omega arith;
      content = λ f. c.next_gate.ensures.content f ∙ i.content f;
      stops = both_same _ _ _ i.stops c.next_gate.ensures.stops;
      unsynced = λ image left. c.next_gate.ensures.unsynced image (i.unsynced image left);
      calls = omega (arith, i.calls, at_some _ _ _ _ c.in-Some.is c.in_ok-next.ensures.calls);
      cause = record {
        later = omega (arith, i.cause.later, c.next_gate.ensures.cause.later);
        rose = λ never. absurd never;
        kept = λ well. c.in_ok-next.ensures.cause.kept (λ e. cc) ∙ i.cause.kept well;
      };
    }

pub invariant_of-result : goal.invariant_of-result
invariant_of-result g c =
    let i = c.loop-next.invariant in
    let further = at_none _ _ _ c.in_default.not-Some c.in_ok-next.ensures.further in
    record { known_file = c.requires; counted = i.counted; in_range = omega arith }

pub returns-clause-known : goal.returns-clause-known
returns-clause-known g c tells =
    let i = c.loop-next.invariant in
    let file = c.args.file.0 in
    let content = (g.D.Disk.told c.next_gate.new.disk).content file in
    let same = c.next_gate.ensures.content file in
    let gate = subst (λ (l : List ℕ). IsClosedGate l c.loop-next.at) (sym same) (at_none _ _ _ c.in_default.not-Some (c.in_ok-next.ensures.found tells)) in
    let walk = subst (λ (l : List ℕ). IsAtGate l c.loop-next.at c.loop-next.frames) (sym (same ∙ i.content file)) (i.walk tells) in
    let done = at_closed content c.loop-next.at c.loop-next.frames walk gate in
    record { whole = done.0; frames = done.1; end = done.2 }
