use Rattle.std.proofs.Common.{◌≡◌, ◌≢◌, ◌≤◌, ◌<◌, ◌^◌, ℕ, List, [], length, Err, sym, ◌∙◌, ap, subst, arith}
use Rattle.wat_faults.specs.Faults.{Rose}
use Rattle.wat_disk.proofs.Stops.{both_same}
use Rattle.wat_gate.specs.Bodies.{IsWhole, IsBrokenAt}
use Rattle.wat_gate.specs.GateLog.{file_of}
use Rattle.wat_gate.specs.Refusal.{IfDamaged}
use Rattle.wat_commit_log.specs.declared.opening.OpenWhy.{OpenWhy}
use Rattle.wat_commit_log.specs.declared.opening.OpenWhy.TheVariants.{DiskFault}
use Rattle.wat_commit_log.specs.Opening.{MayOpen}
use Rattle.wat_commit_log.proofs.Refused.{fault_from, fault_to, opening_refused, opening_of, refused_later, rose_since, same_why}
use Rattle.wat_commit_log.proofs.opening.open.Goals as goal

pub returns-in-Err-open-clause-answer : goal.returns-in-Err-open-clause-answer
returns-in-Err-open-clause-answer g c =
    let old = g.D.Disk.told c.args.disk.now in
    let mid = g.D.Disk.told c.length.new.self in
    let new = g.D.Disk.told c.open.new.disk in
    let content = old.content 2 in
    let some : g.D.Disk.tells_content → content ≢ [] = λ tells none. omega (arith, c.in-Ok.field-0-test, c.in-Ok.ensures.length tells, ap length none) in
    subst (λ (why : OpenWhy). MayOpen g.D.Disk.tells_content content (Rose old.faults new.faults) (Err why)) (sym c.why_of.ensures)
    (opening_refused g.D.Disk.tells_content content (Rose old.faults new.faults) c.in-Err-open.refusal
    (λ fault. rose_since old mid new c.length.ensures.counts.never_falls (c.open.ensures.cause.rose (c.in-Err-open.is ∙ ap Err fault)))
    some
    (λ tells. subst (λ (l : List ℕ). IfDamaged c.in-Err-open.refusal (IsBrokenAt l)) (c.length.ensures.content 2) (c.in-Err-open.ensures.damaged tells)))

pub returns-in-Err-open-clause-stops : goal.returns-in-Err-open-clause-stops
returns-in-Err-open-clause-stops g c = both_same _ _ _ c.length.ensures.stops c.open.ensures.stops

pub returns-in-Err-open-clause-cause : goal.returns-in-Err-open-clause-cause
returns-in-Err-open-clause-cause g c =
    let old = g.D.Disk.told c.args.disk.now in
    let mid = g.D.Disk.told c.length.new.self in
    let new = g.D.Disk.told c.open.new.disk in
    record {
      later = omega (arith, c.length.ensures.counts.never_falls, c.open.ensures.cause.later);
      rose = λ e. rose_since old mid new c.length.ensures.counts.never_falls
          (c.open.ensures.cause.rose (c.in-Err-open.is ∙ ap Err (fault_from c.in-Err-open.refusal (sym c.why_of.ensures ∙ same_why c.why_of.result DiskFault e))));
      kept = λ well. c.open.ensures.cause.kept (fault_to c.in-Err-open.refusal _ c.why_of.result (sym c.in-Err-open.is) c.why_of.ensures well)
          ∙ c.length.ensures.counts.kept (λ e. let ok = c.in-Ok.is in cc);
    }

pub returns-in-Ok-read_frames-clause-calls : goal.returns-in-Ok-read_frames-clause-calls
returns-in-Ok-read_frames-clause-calls g c =
    let opened : (g.D.Disk.told c.open.new.disk).moment < 2 ^ 64 = omega (arith, c.in-Ok-open.ensures.calls) in
    omega (arith, c.length.ensures.counts.moment, c.in-Ok-open.ensures.calls, c.in-Ok-read_frames.ensures.calls opened)

pub returns-in-Ok-read_frames-clause-stops : goal.returns-in-Ok-read_frames-clause-stops
returns-in-Ok-read_frames-clause-stops g c = both_same _ _ _ (both_same _ _ _ c.length.ensures.stops c.open.ensures.stops) c.read_frames.ensures.stops

pub returns-in-Err-read_frames-clause-answer : goal.returns-in-Err-read_frames-clause-answer
returns-in-Err-read_frames-clause-answer g c =
    let old = g.D.Disk.told c.args.disk.now in
    let mid = g.D.Disk.told c.open.new.disk in
    let new = g.D.Disk.told c.read_frames.new.disk in
    let content = old.content 2 in
    let file = file_of c.in-Ok-open.log in
    let some : g.D.Disk.tells_content → content ≢ [] = λ tells none. omega (arith, c.in-Ok.field-0-test, c.in-Ok.ensures.length tells, ap length none) in
    let same : mid.content file ≡ content = ap (λ (f : ℕ). mid.content f) c.in-Ok-open.ensures.file ∙ c.open.ensures.content 2 ∙ c.length.ensures.content 2 in
    let less : old.faults ≤ mid.faults = omega (arith, c.length.ensures.counts.never_falls, c.open.ensures.cause.later) in
    let whole : g.D.Disk.tells_content → IsWhole content = λ tells. subst IsWhole same (c.in-Ok-open.ensures.known tells).whole in
    opening_of g.D.Disk.tells_content content (Rose old.faults new.faults) c.in-Err-read_frames.why some whole
    (refused_later g.D.Disk.tells_content (mid.content file) content (Rose mid.faults new.faults) (Rose old.faults new.faults) c.in-Err-read_frames.why same (rose_since old mid new less) c.in-Err-read_frames.ensures.refused)

pub returns-in-Err-read_frames-clause-stops : goal.returns-in-Err-read_frames-clause-stops
returns-in-Err-read_frames-clause-stops g c = both_same _ _ _ (both_same _ _ _ c.length.ensures.stops c.open.ensures.stops) c.read_frames.ensures.stops
