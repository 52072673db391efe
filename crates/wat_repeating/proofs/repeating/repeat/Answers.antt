use Rattle.std.proofs.Common.{◌≡◌, ◌+◌, ◌-◌, ◌<◌, ℕ, List, [], length, drop, ap, sym, ◌∙◌, subst, arith}
use Rattle.std.specs.Prelude.{slice_index_or}
use Rattle.wat_gate.specs.Bodies.{bodies, gate_place}
use Rattle.wat_gate.specs.GateLog.{file_of, body_at}
use Rattle.wat_gate.proofs.Logs.{log_same}
use Rattle.wat_log.specs.Log.{gate_of}
use Rattle.wat_replay.specs.State.{State}
use Rattle.wat_files.specs.Formed.{AppliesBody, BodiesStop, FailsInRecords}
use Rattle.wat_repeating.specs.OnPages.{told_of, Stands}
use Rattle.wat_repeating.specs.MoveProofs.{moves_on}
use Rattle.wat_repeating.proofs.Moving.{cause_next, of_frame}
use Rattle.wat_repeating.proofs.Records.{Reached, reached_next, reached_stop}
use Rattle.wat_repeating.proofs.repeating.repeat.Goals as goal

pub returns-in-Err-clause-moves : goal.returns-in-Err-clause-moves
returns-in-Err-clause-moves g c = moves_on _ c.loop-place.on _ c.loop-place.invariant.moves c.repeat_frame.ensures.moves

pub returns-in-Err-clause-damaged : goal.returns-in-Err-clause-damaged
returns-in-Err-clause-damaged g c s head is lawful same =
    let content = (told_of c.args.on.now).content 2 in
    let all = bodies content in
    let gate = c.loop-place.place.gate in
    let from = c.args.from.gate in
    let file : (told_of c.loop-place.on).content (file_of (gate_of c.args.log.now)) ≡ content = ap (told_of c.loop-place.on).content c.args.log.now.known_file ∙ (c.loop-place.invariant.moves.goes is.tells).others 2 (omega arith) in
    let within : gate < length all = omega (arith, c.loop-place-test.true, c.frames.ensures, (c.loop-place.invariant.log is.tells).frames, ap (λ (l : List ℕ). length (bodies l)) file) in
    let r = c.loop-place.invariant.state s is lawful in
    let body : body_at (told_of c.loop-place.on) (gate_of c.args.log.now) gate ≡ slice_index_or all gate [] = ap (λ (l : List ℕ). slice_index_or (bodies l) gate []) file in
    let many : gate - from + from ≡ gate = omega (arith, c.loop-place.invariant.later) in
    of_frame c.in-Err.refusal c.loop-place.place.at (body_at (told_of c.loop-place.on) (gate_of c.args.log.now) gate) r.mid (FailsInRecords content head s)
    (λ file_is at there. record {
      behind = gate - from;
      stops = subst (λ (n : ℕ). BodiesStop (drop n all) s (gate - from)) (sym same)
          (reached_stop all from gate s (λ (v : State). Stands c.loop-place.on v) r within (gate - from) many (λ next a. there.none next (subst (λ (b : List ℕ). AppliesBody b r.mid next) (sym body) a)));
      in_log = there.in_log;
      place = there.place ∙ (c.loop-place.invariant.place is.tells).place ∙ ap (λ (l : List ℕ). gate_place l gate) file ∙ ap (gate_place content) (let e : gate ≡ head.frames + (gate - from) = omega (arith, many, same) in e);
    })
    (c.in-Err.ensures.damaged r.mid r.there r.lawful)

pub loop-place-preserved : goal.loop-place-preserved
loop-place-preserved g c = record {
  going = c.in-Ok.ensures.going;
  moves = moves_on _ c.loop-place.on _ c.loop-place.invariant.moves c.repeat_frame.ensures.moves;
  cause = cause_next _ _ _ c.repeat_frame.result _ c.loop-place.invariant.cause c.in-Ok.is c.repeat_frame.ensures.cause;
  log = λ tells. log_same (told_of c.loop-place.on) (told_of c.repeat_frame.new.on) (gate_of c.args.log.now)
      ((c.repeat_frame.ensures.moves.goes tells).others (file_of (gate_of c.args.log.now)) (omega (arith, c.args.log.now.known_file))) (c.loop-place.invariant.log tells);
  place = λ tells. c.in-Ok.ensures.next tells;
  later = omega (arith, c.loop-place.invariant.later, c.in-Ok.ensures.one_more);
  state = λ s is lawful.
      let content = (told_of c.args.on.now).content 2 in
      let all = bodies content in
      let gate = c.loop-place.place.gate in
      let from = c.args.from.gate in
      let file : (told_of c.loop-place.on).content (file_of (gate_of c.args.log.now)) ≡ content = ap (told_of c.loop-place.on).content c.args.log.now.known_file ∙ (c.loop-place.invariant.moves.goes is.tells).others 2 (omega arith) in
      let within : gate < length all = omega (arith, c.loop-place-test.true, c.frames.ensures, (c.loop-place.invariant.log is.tells).frames, ap (λ (l : List ℕ). length (bodies l)) file) in
      let r = c.loop-place.invariant.state s is lawful in
      let next = c.in-Ok.ensures.repeated r.mid r.there r.lawful in
      let body : body_at (told_of c.loop-place.on) (gate_of c.args.log.now) gate ≡ slice_index_or all gate [] = ap (λ (l : List ℕ). slice_index_or (bodies l) gate []) file in
      subst (λ (n : ℕ). Reached all from n s (λ (v : State). Stands c.repeat_frame.new.on v)) (sym c.in-Ok.ensures.one_more)
      (reached_next all from gate s (λ (v : State). Stands c.loop-place.on v) r within next.0 (λ (v : State). Stands c.repeat_frame.new.on v) (subst (λ (b : List ℕ). AppliesBody b r.mid next.0) body next.1) next.2);
}
