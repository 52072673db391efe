use Rattle.std.proofs.Common.{◌≤◌, ◌≡◌, ℕ, List, length, refl, ◌∙◌, subst, arith}
use Rattle.wat_disk.proofs.Stops.{none_same, both_same}
use Rattle.wat_gate.specs.Bodies.{bodies}
use Rattle.wat_gate.specs.GateLog.{file_of}
use Rattle.wat_gate.proofs.Logs.{log_same, first_gate}
use Rattle.wat_restore.specs.Opening.{IsNoImageFrameAt}
use Rattle.wat_images.specs.Refusal.{IfDamaged}
use Rattle.wat_images.specs.Reading.{ReadsFrames}
use Rattle.wat_images.proofs.Images.{reads_none, reads_all, whole_none}
use Rattle.wat_images.proofs.reading.read_images.Goals as goal

pub loop-place-init : goal.loop-place-init
loop-place-init g c = record {
  known = c.requires;
  place = λ tells. first_gate (g.D.Disk.told c.args.disk.now) c.args.log.now (record { gate = 0; at = 0 }) refl refl;
  read = λ tells. reads_none _ c.new-images.ensures.empty;
  whole = whole_none _ c.new-images.ensures.empty;
  within = omega arith;
  content = λ f. refl;
  stops = none_same (g.D.Disk.told c.args.disk.now);
  cause = record { later = omega arith; rose = λ never. absurd never; kept = λ well. refl };
}

pub returns-in-Err-clause-damaged : goal.returns-in-Err-clause-damaged
returns-in-Err-clause-damaged g c tells =
    subst (λ (l : List ℕ). IfDamaged c.in-Err.refusal (λ file at. (file ≡ 1) × IsNoImageFrameAt l at)) (c.loop-place.invariant.content (file_of c.args.log.now)) (c.in-Err.ensures.damaged tells)

pub returns-in-Err-clause-stops : goal.returns-in-Err-clause-stops
returns-in-Err-clause-stops g c = both_same _ _ _ c.loop-place.invariant.stops c.read_frame.ensures.stops

pub loop-place-preserved : goal.loop-place-preserved
loop-place-preserved g c =
    let i = c.loop-place.invariant in
    let read = c.read_frame.ensures in
    record {
      known = λ tells. log_same (g.D.Disk.told c.loop-place.disk) (g.D.Disk.told c.read_frame.new.disk) c.args.log.now (read.content (file_of c.args.log.now)) (i.known tells);
      place = c.in-Ok.ensures.next;
      read = c.in-Ok.ensures.read;
      whole = c.in-Ok.ensures.whole;
      within = omega (arith, c.in-Ok.ensures.one_more, c.loop-place-test.true, c.frames.ensures);
      content = λ f. read.content f ∙ i.content f;
      stops = both_same _ _ _ i.stops read.stops;
      cause = record {
        later = omega (arith, i.cause.later, read.cause.later);
        rose = λ never. absurd never;
        kept = λ well. read.cause.kept (λ e. let ok = c.in-Ok.is in cc) ∙ i.cause.kept well;
      };
    }

pub returns-clause-read : goal.returns-clause-read
returns-clause-read g c tells =
    let i = c.loop-place.invariant in
    let log = i.known tells in
    let now = (g.D.Disk.told c.loop-place.disk).content (file_of c.args.log.now) in
    let end : length (bodies now) ≤ c.loop-place.place.gate = omega (arith, log.frames, c.loop-place-test.false, c.frames.ensures) in
    subst (λ (l : List ℕ). ReadsFrames (bodies l) c.loop-place.images.entries) (i.content (file_of c.args.log.now))
    (reads_all (bodies now) c.loop-place.place.gate c.loop-place.images.entries end (i.read tells))
