use Rattle.std.proofs.Common.{◌≡◌, ◌≤◌, ℕ, List, length, refl, sym, ap, ◌∙◌, subst, arith}
use Rattle.wat_disk.proofs.Stops.{none_same, both_same}
use Rattle.wat_gate.specs.Bodies.{bodies}
use Rattle.wat_gate.specs.GateLog.{file_of}
use Rattle.wat_gate.proofs.Logs.{log_same, first_gate}
use Rattle.wat_images.proofs.Writing.{no_cause, caused}
use Rattle.wat_translate.specs.Reading.{IsReadBack, HasRead}
use Rattle.wat_translate.proofs.Frames.{none_read, all_told}
use Rattle.wat_translate.proofs.reading.tell_frames.Goals as goal

pub returns-in_default-clause-stops : goal.returns-in_default-clause-stops
returns-in_default-clause-stops g c = none_same (g.D.Disk.told c.args.disk.now)

pub loop-place-init : goal.loop-place-init
loop-place-init g c = record {
  known = c.requires.known;
  place = λ tells. first_gate (g.D.Disk.told c.args.disk.now) c.args.log.now (record { gate = 0; at = 0 }) refl refl;
  read = λ tells. subst (λ (text : List ℕ). HasRead ((g.D.Disk.told c.args.disk.now).content (file_of c.args.log.now)) 0 c.in-Ok.reader text) (sym c.new-text.ensures.items)
      (none_read ((g.D.Disk.told c.args.disk.now).content (file_of c.args.log.now)) c.in-Ok.reader c.in-Ok.ensures);
  within = omega arith;
  content = λ f. refl;
  stops = none_same (g.D.Disk.told c.args.disk.now);
  cause = no_cause _;
}

pub returns-in-Err-clause-stops : goal.returns-in-Err-clause-stops
returns-in-Err-clause-stops g c = both_same _ _ _ c.loop-place.invariant.stops c.tell_frame.ensures.stops

pub loop-place-preserved : goal.loop-place-preserved
loop-place-preserved g c =
    let i = c.loop-place.invariant in
    let r = c.tell_frame.ensures in
    record {
      known = r.known;
      place = c.in-Ok-tell_frame.ensures.next;
      read = c.in-Ok-tell_frame.ensures.told;
      within = omega (arith, c.in-Ok-tell_frame.ensures.one_more, c.loop-place-test.true, c.frames.ensures);
      content = λ f. r.content f ∙ i.content f;
      stops = both_same _ _ _ i.stops r.stops;
      cause = caused _ _ _ _ i.cause r.cause (λ e. let ok = c.in-Ok-tell_frame.is in cc);
    }

pub returns-clause-told : goal.returns-clause-told
returns-clause-told g c tells =
    let i = c.loop-place.invariant in
    let log = i.known tells in
    let now = (g.D.Disk.told c.loop-place.disk).content (file_of c.args.log.now) in
    let end : length (bodies now) ≤ c.loop-place.place.gate = omega (arith, log.frames, c.loop-place-test.false, c.frames.ensures) in
    subst (λ (l : List ℕ). IsReadBack l c.loop-place.text.items) (i.content (file_of c.args.log.now)) (all_told now c.loop-place.place.gate c.loop-place.reader c.loop-place.text.items log.whole end (i.read tells))
