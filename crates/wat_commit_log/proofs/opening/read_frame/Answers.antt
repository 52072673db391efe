use Rattle.std.proofs.Common.{◌+◌, ◌<◌, ℕ, List, length, get_or, take, [], ◌++◌, Err, sym, ◌∙◌, ap, subst, arith}
use Rattle.wat_gate.specs.Bodies.{bodies}
use Rattle.wat_gate.specs.GateLog.{file_of, bodies_in}
use Rattle.wat_faults.specs.Faults.{Rose}
use Rattle.wat_commit_log.specs.declared.opening.OpenWhy.TheVariants.{DiskFault}
use Rattle.wat_commit_log.specs.Reading.{MayRefuse, ReadsBody}
use Rattle.wat_commit_log.specs.Opening.{AreBodies}
use Rattle.wat_schema.specs.Tables.{Tables}
use Rattle.wat_commit_log.proofs.BodyLemmas.{body_read, body_refused, on_true, on_false}
use Rattle.wat_commit_log.proofs.Refused.{fault_from, fault_to, reading_refused, same_why}
use Rattle.wat_commit_log.proofs.opening.read_frame.Goals as goal

pub returns-in-Err-clause-refused : goal.returns-in-Err-clause-refused
returns-in-Err-clause-refused g c =
    let old = g.D.Disk.told c.args.disk.now in
    let new = g.D.Disk.told c.frame_at.new.disk in
    let content = old.content (file_of c.args.log.now) in
    subst (MayRefuse g.D.Disk.tells_content content (Rose old.faults new.faults)) (sym c.why_of.ensures)
    (reading_refused g.D.Disk.tells_content content (Rose old.faults new.faults) c.in-Err.refusal
    (λ fault. c.frame_at.ensures.cause.rose (c.in-Err.is ∙ ap Err fault))
    c.in-Err.ensures.undamaged)

pub returns-in-Err-clause-cause : goal.returns-in-Err-clause-cause
returns-in-Err-clause-cause g c = record {
  later = c.frame_at.ensures.cause.later;
  rose = λ e. c.frame_at.ensures.cause.rose (c.in-Err.is ∙ ap Err (fault_from c.in-Err.refusal (sym c.why_of.ensures ∙ same_why c.why_of.result DiskFault e)));
  kept = λ well. c.frame_at.ensures.cause.kept (fault_to c.in-Err.refusal _ c.why_of.result (sym c.in-Err.is) c.why_of.ensures well);
}

pub returns-in-Ok-true-clause-read : goal.returns-in-Ok-true-clause-read
returns-in-Ok-true-clause-read g c tells =
    let all = bodies_in (g.D.Disk.told c.args.disk.now) c.args.log.now in
    let gate = c.args.place.gate in
    let there : gate < length all = omega (arith, (c.requires.known tells).frames, c.requires.frame) in
    let body = c.deref.ensures.value ∙ c.in-Ok.ensures.body tells ∙ ap (λ (l : List ℕ). l ++ get_or all gate []) c.clear.ensures.items in
    let read_in = on_true c.in-Ok-true.field-0 (ReadsBody c.args.tables.now c.deref.result.now c.read_body.new.tables) c.in-Ok-true.field-0-test c.in-Ok-true.ensures.read in
    let read : AreBodies (take (gate + 1) all) c.read_body.new.tables =
    body_read all gate c.deref.result.now c.args.tables.now c.read_body.new.tables (c.requires.so_far tells) there body read_in in
    subst (λ (n : ℕ). AreBodies (take n (bodies_in (g.D.Disk.told c.frame_at.new.disk) c.args.log.now)) c.read_body.new.tables) (sym c.in-Ok.ensures.one_more)
    (subst (λ (l : List ℕ). AreBodies (take (gate + 1) (bodies l)) c.read_body.new.tables) (sym (c.frame_at.ensures.content (file_of c.args.log.now))) read)

pub returns-in-Ok-false-clause-refused : goal.returns-in-Ok-false-clause-refused
returns-in-Ok-false-clause-refused g c tells =
    let all = bodies_in (g.D.Disk.told c.args.disk.now) c.args.log.now in
    let gate = c.args.place.gate in
    let there : gate < length all = omega (arith, (c.requires.known tells).frames, c.requires.frame) in
    let body = c.deref.ensures.value ∙ c.in-Ok.ensures.body tells ∙ ap (λ (l : List ℕ). l ++ get_or all gate []) c.clear.ensures.items in
    let none = on_false c.in-Ok-false.field-0 ((t : Tables) → ReadsBody c.args.tables.now c.deref.result.now t → ⊥) c.in-Ok-false.field-0-test c.in-Ok-false.ensures.none in
    let read = c.requires.so_far tells in
    record {
      frame = gate;
      gate = c.requires.place tells;
      tables = c.args.tables.now;
      before = read;
      none = body_refused all gate c.deref.result.now c.args.tables.now read there body none;
    }
