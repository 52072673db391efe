use Rattle.std.proofs.Common.{◌≤◌, ℕ, List, [], length, refl, sym, ◌∙◌, subst, arith}
use Rattle.wat_faults.specs.Faults.{Rose}
use Rattle.wat_disk.proofs.Stops.{none_same, both_same}
use Rattle.wat_gate.specs.Bodies.{bodies}
use Rattle.wat_gate.specs.GateLog.{file_of}
use Rattle.wat_gate.proofs.Logs.{log_same, first_gate}
use Rattle.wat_commit_log.specs.Logged.{Restarts}
use Rattle.wat_commit_log.specs.Opening.{AreBodies}
use Rattle.wat_schema.specs.Tables.{Tables}
use Rattle.wat_commit_log.proofs.BodyLemmas.{no_bodies, all_read}
use Rattle.wat_commit_log.proofs.Refused.{refused_later, rose_since}
use Rattle.wat_commit_log.proofs.opening.read_frames.Goals as goal

pub loop-place-init : goal.loop-place-init
loop-place-init g c = record {
  known = c.requires;
  place = λ tells. first_gate (g.D.Disk.told c.args.disk.now) c.args.log.now (record { gate = 0; at = 0 }) refl refl;
  read = λ tells. subst (λ (t : Tables). AreBodies [] t) (sym c.in-Ok.ensures) (no_bodies [] refl);
  within = omega arith;
  content = λ f. refl;
  stops = none_same (g.D.Disk.told c.args.disk.now);
  calls = λ in_range. omega arith;
  cause = record { later = omega arith; rose = λ never. absurd never; kept = λ well. refl };
}

pub returns-in-Err-clause-refused : goal.returns-in-Err-clause-refused
returns-in-Err-clause-refused g c =
    let old = g.D.Disk.told c.args.disk.now in
    let mid = g.D.Disk.told c.loop-place.disk in
    let new = g.D.Disk.told c.read_frame.new.disk in
    let file = file_of c.args.log.now in
    refused_later g.D.Disk.tells_content (mid.content file) (old.content file) (Rose mid.faults new.faults) (Rose old.faults new.faults) c.in-Err.why (c.loop-place.invariant.content file)
    (rose_since old mid new c.loop-place.invariant.cause.later) c.in-Err.ensures.refused

pub returns-in-Err-clause-stops : goal.returns-in-Err-clause-stops
returns-in-Err-clause-stops g c = both_same _ _ _ c.loop-place.invariant.stops c.read_frame.ensures.stops

pub loop-place-preserved : goal.loop-place-preserved
loop-place-preserved g c =
    let i = c.loop-place.invariant in
    let read = c.read_frame.ensures in
    record {
      known = λ tells. log_same (g.D.Disk.told c.loop-place.disk) (g.D.Disk.told c.read_frame.new.disk) c.args.log.now (read.content (file_of c.args.log.now)) (i.known tells);
      place = c.in-Ok-read_frame.ensures.next;
      read = c.in-Ok-read_frame.ensures.read;
      within = omega (arith, c.in-Ok-read_frame.ensures.one_more, c.loop-place-test.true, c.frames.ensures);
      content = λ f. read.content f ∙ i.content f;
      stops = both_same _ _ _ i.stops read.stops;
      calls = λ in_range. omega (arith, i.calls in_range, c.in-Ok-read_frame.ensures.calls, c.in-Ok-read_frame.ensures.one_more);
      cause = record {
        later = omega (arith, i.cause.later, read.cause.later);
        rose = λ never. absurd never;
        kept = λ well. read.cause.kept (λ e. let ok = c.in-Ok-read_frame.is in cc) ∙ i.cause.kept well;
      };
    }

pub returns-in_default-clause-stops : goal.returns-in_default-clause-stops
returns-in_default-clause-stops g c = none_same (g.D.Disk.told c.args.disk.now)

pub returns-clause-calls : goal.returns-clause-calls
returns-clause-calls g c in_range =
    omega (arith, c.loop-place.invariant.calls in_range, c.loop-place.invariant.within, c.loop-place-test.false, c.frames.ensures)

pub returns-clause-restarts : goal.returns-clause-restarts
returns-clause-restarts g c tells =
    let i = c.loop-place.invariant in
    let log = i.known tells in
    let now = (g.D.Disk.told c.loop-place.disk).content (file_of c.args.log.now) in
    let end : length (bodies now) ≤ c.loop-place.place.gate = omega (arith, log.frames, c.loop-place-test.false, c.frames.ensures) in
    subst (λ (l : List ℕ). Restarts l c.loop-place.tables) (i.content (file_of c.args.log.now))
    (all_read now c.loop-place.place.gate c.loop-place.tables log.whole end (i.read tells))
